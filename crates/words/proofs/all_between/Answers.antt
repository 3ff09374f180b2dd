-- `words::all_between` meets its contract. Assumes nothing.
use borrow.Author.Rules.{rules}
use Rattle.words.proofs.PartLaws.{tested-none, tested-more}
use Rattle.words.proofs.all_between.Goals as goal

pub loop-i-init : goal.loop-i-init
loop-i-init c = search (rules, tested-none)

pub loop-i-preserved : goal.loop-i-preserved
loop-i-preserved c = search (rules, tested-more)
