-- `engine::answer` meets its contract. Assumes nothing.
use borrow.Author.Rules.{rules}
use Rattle.engine.proofs.StepLaws.{none-refuses, own-taken}
use Rattle.engine.proofs.answer.Goals as goal

pub act-requires : goal.act-requires
act-requires c = search (rules, none-refuses)

pub returns : goal.returns
returns c = search (rules, own-taken)
