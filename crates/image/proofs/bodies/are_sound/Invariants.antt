-- The loop of `image::bodies::are_sound`: what it keeps. Assumes nothing.
use mathlib.Core.Path.{◌≡◌}
use Rattle.words.specs.Lists.{all_below}
use Rattle.image.specs.Contents.{sound_at}
use Rattle.image.proofs.bodies.are_sound.Given as goal

abbrev pub invariant-loop-e : goal.invariant-loop-e
invariant-loop-e l = l.ok ≡ all_below l.e (sound_at l.image)
