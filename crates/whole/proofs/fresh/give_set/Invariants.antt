-- The loop of `whole::fresh::give_set`: k servers have the set. Assumes nothing.
use Rattle.whole.proofs.FreshLaws.{Given}
use Rattle.whole.proofs.fresh.give_set.Given as goal

abbrev pub invariant-loop-k : goal.invariant-loop-k
invariant-loop-k l = Given l.initial.t l.t l.n l.set l.k
