-- `image::bodies::bake_in` meets its contract. Assumes nothing.
use borrow.Author.Rules.{rules}
use Rattle.image.proofs.LogLaws.{narrow_bake}
use Rattle.image.proofs.bodies.bake_in.Goals as goal

pub returns-then-width-eq0 : goal.returns-then-width-eq0
returns-then-width-eq0 c = search (rules, narrow_bake)
