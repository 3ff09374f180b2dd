-- The loop of `reader::fill::fill_servers`: what it keeps. Assumes nothing.
use Rattle.reader.proofs.FillLaws.{Filled}
use Rattle.reader.proofs.fill.fill_servers.Given as goal

abbrev pub invariant-loop-s : goal.invariant-loop-s
invariant-loop-s l = Filled l.image l.t l.s
