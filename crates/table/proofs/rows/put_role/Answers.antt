-- `table::rows::put_role` meets its contract. Assumes nothing.
use Rattle.table.proofs.RowLaws.{role-put}
use Rattle.table.proofs.rows.put_role.Goals as goal

pub returns : goal.returns
returns c = search role-put
