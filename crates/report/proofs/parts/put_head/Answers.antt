-- `report::parts::put_head` meets its contract. Assumes nothing.
use borrow.Author.Rules.{rules}
use Rattle.report.proofs.LineLaws.{head}
use Rattle.report.proofs.parts.put_head.Goals as goal

pub returns : goal.returns
returns c = search (rules, head)
