-- `words::word` meets its contract. Assumes nothing.
use borrow.Author.Rules.{rules}
use Rattle.words.proofs.WordLaws.{word_read}
use Rattle.words.proofs.word.Goals as goal

pub returns : goal.returns
returns c = search (rules, word_read)
