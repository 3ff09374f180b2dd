-- The loop of `image::bodies::terms_sound`: what it keeps. Assumes nothing.
use mathlib.Core.Path.{◌≡◌}
use lib.ListN.{take}
use Rattle.algorithm.specs.Table.{ceiling}
use Rattle.table.specs.Layout.{terms}
use Rattle.words.specs.Lists.{every, between}
use Rattle.image.specs.Contents.{server_in}
use Rattle.image.proofs.bodies.terms_sound.Given as goal

abbrev pub invariant-loop-k : goal.invariant-loop-k
invariant-loop-k l = l.ok ≡ every (between 1 ceiling) (take l.k (terms (server_in l.width l.b).log))
