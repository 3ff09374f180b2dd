-- `table::view::Table::mark` meets its contract. Assumes nothing.
use borrow.Author.Rules.{rules}
use Rattle.table.proofs.RowLaws.{mark-read, marks-all}
use Rattle.table.proofs.view.Table.mark.Goals as goal

pub returns : goal.returns
returns c = search (rules, mark-read, marks-all)
