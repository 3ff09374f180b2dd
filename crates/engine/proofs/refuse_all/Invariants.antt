-- The loop of `engine::refuse_all`: the first k replies are 1. Assumes nothing.
use mathlib.Core.Path.{◌≡◌}
use Rattle.engine.specs.Engine.{played}
use Rattle.engine.proofs.RunLaws.{Ones}
use Rattle.engine.proofs.refuse_all.Given as goal

abbrev pub invariant-loop-k : goal.invariant-loop-k
invariant-loop-k l = (l.n ≡ played l.actions l.initial.replies) × Ones l.initial.replies l.replies l.k
