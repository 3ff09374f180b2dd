-- `table::view::Table::field` meets its contract. Assumes nothing.
use borrow.Author.Rules.{rules}
use Rattle.table.proofs.RowLaws.{word-seen, row-room}
use Rattle.table.proofs.view.Table.field.Goals as goal

pub returns : goal.returns
returns c = search (rules, word-seen, row-room)
