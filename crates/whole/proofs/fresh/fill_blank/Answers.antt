-- `whole::fresh::fill_blank` meets its contract. Assumes nothing.
use Rattle.whole.proofs.FreshLaws.{blank-holds}
use Rattle.whole.proofs.fresh.fill_blank.Goals as goal

pub returns : goal.returns
returns c =
    blank-holds _ _ _ _ _ _ _ _ c.requires.0 c.requires.1 (c.fill.ensures.after (λ y e. e)) c.put.ensures c.put-2.ensures c.put-3.ensures
