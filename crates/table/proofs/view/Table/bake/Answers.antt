-- `table::view::Table::bake` meets its contract. Assumes nothing.
use Rattle.table.proofs.RowLaws.{bake-read}
use Rattle.table.proofs.view.Table.bake.Goals as goal

pub returns : goal.returns
returns c = search bake-read
