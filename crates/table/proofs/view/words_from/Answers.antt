-- `table::view::words_from` meets its contract. Assumes nothing.
use Rattle.table.proofs.LentLaws.{part-bytes, part-words}
use Rattle.table.proofs.view.words_from.Goals as goal

pub returns-clause-bytes : goal.returns-clause-bytes
returns-clause-bytes c = part-bytes _ (λ i. (c.type_inv.t i).fits) c.requires.t_len _ _

pub returns-clause-words : goal.returns-clause-words
returns-clause-words c = part-words _ (λ i. (c.type_inv.t i).fits) c.requires.t_len _ _
