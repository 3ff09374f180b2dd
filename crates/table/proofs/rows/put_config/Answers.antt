-- `table::rows::put_config` meets its contract. Assumes nothing.
use Rattle.table.proofs.RowLaws.{config-put}
use Rattle.table.proofs.rows.put_config.Goals as goal

pub returns : goal.returns
returns c = search config-put
