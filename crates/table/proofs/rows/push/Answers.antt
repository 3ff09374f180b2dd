-- `table::rows::push` meets its contract. Assumes nothing.
use borrow.Author.Rules.{rules}
use Rattle.table.proofs.RowLaws.{push-put}
use Rattle.table.proofs.rows.push.Goals as goal

pub returns : goal.returns
returns c = search (rules, push-put)
