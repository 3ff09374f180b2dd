-- `report::row_line` meets its contract. Assumes nothing.
use borrow.Author.Rules.{rules}
use Rattle.report.proofs.LineLaws.{row}
use Rattle.report.proofs.row_line.Goals as goal

pub returns : goal.returns
returns c = search (rules, row)
