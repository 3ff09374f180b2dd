-- `table::view::Table::rule` meets its contract. Assumes nothing.
use borrow.Author.Rules.{rules}
use Rattle.table.proofs.RowLaws.{rule-read}
use Rattle.table.proofs.view.Table.rule.Goals as goal

pub returns : goal.returns
returns c = search (rules, rule-read)
