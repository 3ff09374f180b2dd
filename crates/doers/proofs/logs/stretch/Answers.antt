-- `doers::logs::stretch` meets its contract. Assumes nothing.
use native.Mathlib.Omega.{arith}
use borrow.Author.Rules.{rules}
use Rattle.doers.proofs.StretchLaws.{not-shorter, copying-none, copying-room, copying-more, copying-count, copying-all}
use Rattle.doers.proofs.logs.stretch.Goals as goal

pub overflow_sub-left : goal.overflow_sub-left
overflow_sub-left c = search (rules, not-shorter)

pub loop-init : goal.loop-init
loop-init c = search (rules, copying-none)

pub fetch-requires-clause-i_len_bound : goal.fetch-requires-clause-i_len_bound
fetch-requires-clause-i_len_bound c = search (rules, copying-room)

pub loop-preserved : goal.loop-preserved
loop-preserved c =
    copying-more _ _ _ c.requires.within c.requires.j_value _ _ _ _ c.min-n.ensures (cc) (cc) _ _ c.loop.invariant _ (omega arith) c.fetch.ensures

pub returns : goal.returns
returns c = (
  search (rules, copying-count),
  copying-all _ _ _ c.requires.within c.requires.j_value _ _ _ _ c.min-n.ensures (cc) (cc) _ _ c.loop.invariant (omega arith) (omega arith),
)
