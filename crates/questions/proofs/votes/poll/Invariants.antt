-- The loop of `questions::votes::poll`: the sets have those of the servers 1 to k. Assumes nothing.
use mathlib.Core.Path.{◌≡◌}
use Rattle.members.specs.Members.{passing}
use Rattle.algorithm.specs.Actions.{larger_term, newer_config, log_ahead}
use Rattle.questions.proofs.votes.poll.Given as goal

abbrev pub invariant-loop-k : goal.invariant-loop-k
invariant-loop-k l = record {
  larger : l.larger ≡ passing l.k (larger_term l.t l.i) l.q;
  newer : l.newer ≡ passing l.k (newer_config l.t l.i) l.q;
  ahead : l.ahead ≡ passing l.k (log_ahead l.t l.i) l.q;
}
