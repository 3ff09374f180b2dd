-- The loop of `writer::put_contents`: what it keeps. Assumes nothing.
use Rattle.writer.proofs.PlaceLaws.{Placed, Entered}
use Rattle.writer.proofs.put_contents.Given as goal

abbrev pub invariant-loop-e : goal.invariant-loop-e
invariant-loop-e l = Placed l.t l.e l.at × Entered l.t l.initial.out l.out l.e
