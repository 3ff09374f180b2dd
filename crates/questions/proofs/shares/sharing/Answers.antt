-- `questions::shares::sharing` meets its contract. Assumes nothing.
use borrow.Author.Rules.{rules}
use Rattle.questions.proofs.LoopLaws.{passing-none, passing-fits, passing-in, passing-out}
use Rattle.questions.proofs.shares.sharing.Goals as goal
use Rattle.questions.proofs.shares.sharing.Goals.{then-q-k-eq1, else-q-k-eq1}

pub loop-k-init : goal.loop-k-init
loop-k-init c = search (rules, passing-none)

pub with_next-config-requires : goal.with_next-config-requires
with_next-config-requires c = search (rules, passing-fits)

pub with_next-term-requires : goal.with_next-term-requires
with_next-term-requires c = search (rules, passing-fits)

pub loop-k-preserved : goal.loop-k-preserved
loop-k-preserved c = elim c.if-q-k-eq1.branch [
  | then-q-k-eq1 w ↦ rw (w.config-is, w.term-is) (search (rules, passing-in))
  | else-q-k-eq1 w ↦ rw (w.config-is, w.term-is) (search (rules, passing-out))
]
