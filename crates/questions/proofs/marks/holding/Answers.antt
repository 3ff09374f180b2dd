-- `questions::marks::holding` meets its contract. Assumes nothing.
use borrow.Author.Rules.{rules}
use Rattle.questions.proofs.MarkLaws.{holding-none, holding-eight}
use Rattle.questions.proofs.marks.holding.Goals as goal

pub loop-k-init : goal.loop-k-init
loop-k-init c = search (rules, holding-none)

pub loop-k-preserved : goal.loop-k-preserved
loop-k-preserved c = search (rules, holding-eight)
