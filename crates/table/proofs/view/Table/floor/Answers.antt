-- `table::view::Table::floor` meets its contract. Assumes nothing.
use borrow.Author.Rules.{rules}
use Rattle.table.proofs.RowLaws.{floor-read}
use Rattle.table.proofs.view.Table.floor.Goals as goal

pub returns : goal.returns
returns c = search (rules, floor-read)
