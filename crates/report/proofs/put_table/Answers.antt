-- `report::put_table` meets its contract. Assumes nothing.
use borrow.Author.Rules.{rules}
use Rattle.report.proofs.OrderLaws.{table-shown}
use Rattle.report.proofs.put_table.Goals as goal

pub returns : goal.returns
returns c = search (rules, table-shown)
