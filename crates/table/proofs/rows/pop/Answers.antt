-- `table::rows::pop` meets its contract. Assumes nothing.
use borrow.Author.Rules.{rules}
use Rattle.table.proofs.RowLaws.{pop-put}
use Rattle.table.proofs.rows.pop.Goals as goal

pub returns : goal.returns
returns c = search (rules, pop-put)
