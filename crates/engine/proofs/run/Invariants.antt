-- The loop of `engine::run`: k pieces are played, and answered. Assumes nothing.
use mathlib.Core.Path.{◌≡◌}
use Rattle.engine.specs.Engine.{played}
use Rattle.engine.proofs.RunLaws.{Ran, Replied}
use Rattle.engine.proofs.run.Given as goal

abbrev pub invariant-loop-k : goal.invariant-loop-k
invariant-loop-k l = (l.n ≡ played l.actions l.initial.replies) × (l.walk.actions.now ≡ l.actions) × Ran l.initial.t l.actions l.t l.walk.at l.k × Replied l.initial.t l.actions l.initial.replies l.replies l.k
