-- `report::cut_line` meets its contract. Assumes nothing.
use borrow.Author.Rules.{rules}
use Rattle.report.proofs.LineLaws.{cut}
use Rattle.report.proofs.cut_line.Goals as goal

pub returns : goal.returns
returns c = search (rules, cut)
