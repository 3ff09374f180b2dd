-- `whole::is_whole` meets its contract. Assumes nothing.
use borrow.Author.Rules.{rules}
use Rattle.whole.proofs.WordsLaws.{other_length, miscounted, answer}
use Rattle.whole.proofs.is_whole.Goals as goal

pub returns-then-t-ne-BYTES : goal.returns-then-t-ne-BYTES
returns-then-t-ne-BYTES c = search other_length

pub returns-then-n-eq0 : goal.returns-then-n-eq0
returns-then-n-eq0 c = search miscounted

pub returns : goal.returns
returns c = search (rules, answer)
