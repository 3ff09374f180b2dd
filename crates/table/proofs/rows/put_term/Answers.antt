-- `table::rows::put_term` meets its contract. Assumes nothing.
use Rattle.table.proofs.RowLaws.{term-put}
use Rattle.table.proofs.rows.put_term.Goals as goal

pub returns : goal.returns
returns c = search term-put
