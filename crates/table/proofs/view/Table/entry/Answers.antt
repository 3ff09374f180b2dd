-- `table::view::Table::entry` meets its contract. Assumes nothing.
use Rattle.table.proofs.RowLaws.{entry_read}
use Rattle.table.proofs.view.Table.entry.Goals as goal

pub returns : goal.returns
returns c = search entry_read
