-- The loop of `questions::shares::sharing`: the sets have those of the servers 1 to k. Assumes nothing.
use mathlib.Core.Path.{◌≡◌}
use Rattle.members.specs.Members.{passing}
use Rattle.algorithm.specs.Actions.{same_config, same_term}
use Rattle.questions.proofs.shares.sharing.Given as goal

abbrev pub invariant-loop-k : goal.invariant-loop-k
invariant-loop-k l = record {
  config : l.config ≡ passing l.k (same_config l.t l.i) l.q;
  term : l.term ≡ passing l.k (same_term l.t l.i) l.q;
}
