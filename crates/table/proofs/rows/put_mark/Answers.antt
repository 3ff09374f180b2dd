-- `table::rows::put_mark` meets its contract. Assumes nothing.
use Rattle.table.proofs.RowLaws.{mark-put}
use Rattle.table.proofs.rows.put_mark.Goals as goal

pub returns : goal.returns
returns c = search mark-put
