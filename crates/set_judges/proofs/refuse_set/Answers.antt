-- `set_judges::refuse_set` meets its contract. Assumes nothing.
use borrow.Author.Rules.{rules}
use Rattle.set_judges.proofs.SetLaws.{alone-told, read-not-met, pair-told}
use Rattle.set_judges.proofs.refuse_set.Goals as goal

pub returns-then-rule-eq0 : goal.returns-then-rule-eq0
returns-then-rule-eq0 c = search (rules, alone-told)

pub lowest_apart-pair-requires : goal.lowest_apart-pair-requires
lowest_apart-pair-requires c = search (rules, read-not-met)

pub returns : goal.returns
returns c = search (rules, pair-told)
