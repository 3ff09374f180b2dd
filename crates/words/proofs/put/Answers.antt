-- `words::put` meets its contract. Assumes nothing.
use borrow.Author.Rules.{rules}
use Rattle.words.proofs.WordLaws.{word-put}
use Rattle.words.proofs.put.Goals as goal

pub returns : goal.returns
returns c = word-put _ _ _ _ c.requires c.ranges.v.fits (search rules)
