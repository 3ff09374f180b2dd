-- The loop of `reader::fill::put_marks`: what it keeps. Assumes nothing.
use Rattle.reader.proofs.FillLaws.{Marking}
use Rattle.reader.proofs.fill.put_marks.Given as goal

abbrev pub invariant-loop-k : goal.invariant-loop-k
invariant-loop-k l = Marking l.initial.t l.t l.b l.k
