-- `report::marks_line` meets its contract. Assumes nothing.
use borrow.Author.Rules.{rules}
use Rattle.report.proofs.LineLaws.{marks-shown}
use Rattle.report.proofs.marks_line.Goals as goal

pub returns : goal.returns
returns c = search (rules, marks-shown)
