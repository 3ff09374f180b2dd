-- `questions::shares::supporters` meets its contract. Assumes nothing.
use borrow.Author.Rules.{rules}
use Rattle.questions.proofs.LoopLaws.{passing-none, passing-fits, passing-in, passing-out}
use Rattle.questions.proofs.shares.supporters.Goals as goal
use Rattle.questions.proofs.shares.supporters.Goals.{then-q-k-eq1, else-q-k-eq1}

pub loop-k-init : goal.loop-k-init
loop-k-init c = search (rules, passing-none)

pub with_next-all-requires : goal.with_next-all-requires
with_next-all-requires c = search (rules, passing-fits)

pub loop-k-preserved : goal.loop-k-preserved
loop-k-preserved c = elim c.if-q-k-eq1.branch [
  | then-q-k-eq1 w ↦ rw w.all-is (search (rules, passing-in))
  | else-q-k-eq1 w ↦ rw w.all-is (search (rules, passing-out))
]
