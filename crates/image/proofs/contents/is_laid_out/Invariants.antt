-- The loop of `image::contents::is_laid_out`: what it keeps. Assumes nothing.
use mathlib.Core.Path.{◌≡◌}
use Rattle.words.specs.Lists.{all_below}
use Rattle.image.specs.Contents.{start, laid}
use Rattle.image.proofs.contents.is_laid_out.Given as goal

abbrev pub invariant-loop-e : goal.invariant-loop-e
invariant-loop-e l = (l.place ≡ start l.image l.e) × (l.ok ≡ all_below l.e (laid l.image))
