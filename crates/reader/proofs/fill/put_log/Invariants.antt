-- The loop of `reader::fill::put_log`: what it keeps. Assumes nothing.
use Rattle.reader.proofs.FillLaws.{Logged}
use Rattle.reader.proofs.fill.put_log.Given as goal

abbrev pub invariant-loop-k : goal.invariant-loop-k
invariant-loop-k l = Logged l.initial.t l.t l.s l.width l.b l.k
