-- `table::view::Table::bakes` meets its contract. Assumes nothing.
use mathlib.Core.Path.{ap, ◌∙◌}
use borrow.Author.Rules.{rules}
use Rattle.words.specs.Words.{bytes}
use Rattle.table.proofs.LentLaws.{log-bakes}
use Rattle.table.proofs.view.Table.bakes.Goals as goal

pub returns-clause-bytes : goal.returns-clause-bytes
returns-clause-bytes c = c.words_from.ensures.bytes ∙ ap bytes (search (rules, log-bakes))

pub returns-clause-words : goal.returns-clause-words
returns-clause-words c = c.words_from.ensures.words ∙ search (rules, log-bakes)
