-- The loop of `writer::image_length`: what it keeps. Assumes nothing.
use Rattle.writer.proofs.PlaceLaws.{Placed}
use Rattle.writer.proofs.image_length.Given as goal

abbrev pub invariant-loop-e : goal.invariant-loop-e
invariant-loop-e l = Placed l.t l.e l.at
