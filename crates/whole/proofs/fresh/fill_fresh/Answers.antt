-- `whole::fresh::fill_fresh` meets its contract. Assumes nothing.
use Rattle.table.proofs.HeldLaws.{held}
use Rattle.table.proofs.StoredLaws.{held-stored}
use Rattle.whole.proofs.FreshLaws.{blank-servers, given-fresh}
use Rattle.whole.proofs.fresh.fill_fresh.Goals as goal

pub give_set-requires : goal.give_set-requires
give_set-requires c = search (held, blank-servers)

pub returns : goal.returns
returns c = held-stored _ _ (λ i. (c.type_inv.t i).fits) (search given-fresh)
