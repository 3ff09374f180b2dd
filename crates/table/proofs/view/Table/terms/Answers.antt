-- `table::view::Table::terms` meets its contract. Assumes nothing.
use mathlib.Core.Path.{ap, ◌∙◌}
use borrow.Author.Rules.{rules}
use Rattle.words.specs.Words.{bytes}
use Rattle.table.proofs.LentLaws.{log-terms}
use Rattle.table.proofs.view.Table.terms.Goals as goal

pub returns : goal.returns
returns c = c.words_from.ensures.bytes ∙ ap bytes (search (rules, log-terms))
