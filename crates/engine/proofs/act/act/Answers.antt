-- `engine::act::act` meets its contract. Assumes nothing.
use borrow.Author.Rules.{rules}
use Rattle.algorithm.specs.Run.{after}
use Rattle.engine.proofs.AskedLaws.{did, quietly}
use Rattle.engine.proofs.act.act.Goals as goal

pub returns-in-RollBack : goal.returns-in-RollBack
unfolding after
returns-in-RollBack c = (search (rules, quietly), search (rules, did, c.roll_back.ensures))

pub returns-in-Commit : goal.returns-in-Commit
unfolding after
returns-in-Commit c = (search (rules, quietly), search (rules, did, c.commit.ensures))
