-- `questions::marks::narrowed` meets its contract. Assumes nothing.
use borrow.Author.Rules.{rules}
use Rattle.questions.proofs.MarkLaws.{past-unmarked, past-none, past_next}
use Rattle.questions.proofs.marks.narrowed.Goals as goal

pub returns-then-not-is_marked : goal.returns-then-not-is_marked
returns-then-not-is_marked c = search (rules, past-unmarked)

pub loop-k-init : goal.loop-k-init
loop-k-init c = search (rules, past-none)

pub loop-k-preserved : goal.loop-k-preserved
loop-k-preserved c = search (rules, past_next)
