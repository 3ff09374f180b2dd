-- The loop of `writer::put_bodies`: what it keeps. Assumes nothing.
use Rattle.writer.proofs.PlaceLaws.{Bodied}
use Rattle.writer.proofs.put_bodies.Given as goal

abbrev pub invariant-loop-e : goal.invariant-loop-e
invariant-loop-e l = Bodied l.t l.initial.out l.out l.e
