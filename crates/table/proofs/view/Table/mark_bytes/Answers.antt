-- `table::view::Table::mark_bytes` meets its contract. Assumes nothing.
use mathlib.Core.Path.{ap, ◌∙◌}
use borrow.Author.Rules.{rules}
use Rattle.words.specs.Words.{bytes}
use Rattle.table.proofs.LentLaws.{marks-shown}
use Rattle.table.proofs.view.Table.mark_bytes.Goals as goal

pub returns-clause-bytes : goal.returns-clause-bytes
returns-clause-bytes c = c.words_from.ensures.bytes ∙ ap bytes (search (rules, marks-shown))
