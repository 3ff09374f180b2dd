-- `walk::end_at` meets its contract: each arm of the match is a case of `behind`. Assumes nothing.
use mathlib.Core.Path.{ap}
use Rattle.walk.specs.Plan.{place_behind, behind}
use Rattle.walk.proofs.end_at.Goals as goal

pub returns-in-Action : goal.returns-in-Action
unfolding behind
returns-in-Action c = ap (place_behind _) c.in-Action.ensures

pub returns-in-Cut : goal.returns-in-Cut
unfolding behind
returns-in-Cut c = ap (place_behind _) c.in-Cut.ensures

pub returns-in-End : goal.returns-in-End
unfolding behind
returns-in-End c = ap (place_behind _) c.in-End.ensures
