-- `engine::refuse_all` meets its contract. Assumes nothing.
use borrow.Author.Rules.{rules}
use Rattle.engine.proofs.RunLaws.{ones_none, ones-more, ones-all}
use Rattle.engine.proofs.refuse_all.Goals as goal

pub loop-k-init : goal.loop-k-init
loop-k-init c = (search rules, search (rules, ones_none))

pub loop-k-preserved : goal.loop-k-preserved
loop-k-preserved c = (search rules, search (rules, ones-more))

pub returns : goal.returns
returns c = search (rules, ones-all)
