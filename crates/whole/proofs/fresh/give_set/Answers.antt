-- `whole::fresh::give_set` meets its contract. Assumes nothing.

use Rattle.whole.proofs.FreshLaws.{given-none, given-more, given-all}
use Rattle.whole.proofs.fresh.give_set.Goals as goal

pub loop-k-init : goal.loop-k-init
loop-k-init c = search given-none

pub loop-k-preserved : goal.loop-k-preserved
loop-k-preserved c = search given-more

pub returns : goal.returns
returns c = search given-all
