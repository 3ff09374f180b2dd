-- The loop of `questions::shares::supporters`: the set has those of the servers 1 to k. Assumes nothing.
use mathlib.Core.Path.{◌≡◌}
use Rattle.members.specs.Members.{passing}
use Rattle.algorithm.specs.Actions.{supports_at}
use Rattle.questions.proofs.shares.supporters.Given as goal

abbrev pub invariant-loop-k : goal.invariant-loop-k
invariant-loop-k l = l.all ≡ passing l.k (supports_at l.t l.i l.p.0) l.q
