-- `report::too_long_line` meets its contract. Assumes nothing.
use borrow.Author.Rules.{rules}
use Rattle.report.proofs.LineLaws.{too_long}
use Rattle.report.proofs.too_long_line.Goals as goal

pub returns : goal.returns
returns c = search (rules, too_long)
