-- `questions::votes::poll` meets its contract. Assumes nothing.
use borrow.Author.Rules.{rules}
use Rattle.questions.proofs.LoopLaws.{passing-none, passing-fits, passing-in, passing-out}
use Rattle.questions.proofs.votes.poll.Goals as goal
use Rattle.questions.proofs.votes.poll.Goals.{then-q-k-eq1, else-q-k-eq1}

pub loop-k-init : goal.loop-k-init
loop-k-init c = search (rules, passing-none)

pub with_next-larger-requires : goal.with_next-larger-requires
with_next-larger-requires c = search (rules, passing-fits)

pub with_next-newer-requires : goal.with_next-newer-requires
with_next-newer-requires c = search (rules, passing-fits)

pub with_next-ahead-requires : goal.with_next-ahead-requires
with_next-ahead-requires c = search (rules, passing-fits)

pub loop-k-preserved : goal.loop-k-preserved
loop-k-preserved c = elim c.if-q-k-eq1.branch [
  | then-q-k-eq1 w ↦ rw (w.larger-is, w.newer-is, w.ahead-is) (search (rules, passing-in))
  | else-q-k-eq1 w ↦ rw (w.larger-is, w.newer-is, w.ahead-is) (search (rules, passing-out))
]
