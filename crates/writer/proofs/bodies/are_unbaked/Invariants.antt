-- The loop of `writer::bodies::are_unbaked`: what it keeps. Assumes nothing.
use Rattle.writer.proofs.BakeLaws.{Bare}
use Rattle.writer.proofs.bodies.are_unbaked.Given as goal

abbrev pub invariant-loop-s : goal.invariant-loop-s
invariant-loop-s l = Bare l.t l.s l.unbaked
