-- `engine::judges::judge` meets its contract. Assumes nothing.
use borrow.Author.Rules.{rules}
use Rattle.engine.proofs.AskedLaws.{judged}
use Rattle.engine.proofs.judges.judge.Goals as goal

pub returns-in-Elect : goal.returns-in-Elect
returns-in-Elect c = search (rules, judged)

pub returns-in-Reconfigure : goal.returns-in-Reconfigure
returns-in-Reconfigure c = search (rules, judged)

pub returns-in-Commit : goal.returns-in-Commit
returns-in-Commit c = search (rules, judged)
