-- `words::put_eight` meets its contract. Assumes nothing.
use borrow.Author.Rules.{rules}
use Rattle.words.proofs.WordLaws.{eight-put}
use Rattle.words.proofs.put_eight.Goals as goal

pub returns : goal.returns
returns c = search (rules, eight-put)
