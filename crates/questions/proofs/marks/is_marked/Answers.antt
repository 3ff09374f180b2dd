-- `questions::marks::is_marked` meets its contract. Assumes nothing.
use native.Mathlib.Omega.{arith}
use borrow.Author.Rules.{rules}
use Rattle.questions.proofs.MarkLaws.{marked-none, marked_next}
use Rattle.questions.proofs.marks.is_marked.Goals as goal

pub loop-k-init : goal.loop-k-init
loop-k-init c = record { told = marked-none _; marked = λ some. absurd (omega arith) }

pub loop-k-preserved : goal.loop-k-preserved
loop-k-preserved c = record { told = search (rules, marked_next); marked = λ some. c.mark.ensures.marked }
