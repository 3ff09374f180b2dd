-- `table::view::Table::set` meets its contract. Assumes nothing.
use borrow.Author.Rules.{rules}
use Rattle.table.proofs.RowLaws.{set-small}
use Rattle.table.proofs.view.Table.set.Goals as goal

pub overflow_cast-result : goal.overflow_cast-result
overflow_cast-result c = search (rules, set-small)
