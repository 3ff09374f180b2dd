-- `report::replied_line` meets its contract. Assumes nothing.
use borrow.Author.Rules.{rules}
use Rattle.report.proofs.LineLaws.{replied}
use Rattle.report.proofs.replied_line.Goals as goal

pub returns : goal.returns
returns c = search (rules, replied)
