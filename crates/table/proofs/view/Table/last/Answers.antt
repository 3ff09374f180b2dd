-- `table::view::Table::last` meets its contract. Assumes nothing.
use Rattle.table.proofs.view.Table.last.Goals as goal

pub returns : goal.returns
returns c = rw c.row.ensures.0
