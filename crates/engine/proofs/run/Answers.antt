-- `engine::run` meets its contract. Assumes nothing.
use borrow.Author.Rules.{rules}
use Rattle.engine.proofs.RunLaws.{ran-none, ran-more, replied-none, replied-more, ran-all}
use Rattle.engine.proofs.run.Goals as goal

pub loop-k-init : goal.loop-k-init
loop-k-init c = (search rules, search rules, search (rules, ran-none), search (rules, replied-none))

pub loop-k-preserved : goal.loop-k-preserved
loop-k-preserved c = (search rules, search rules, search (rules, ran-more), search (rules, replied-more))

pub returns : goal.returns
returns c = search (rules, ran-all)
