-- The loop of `questions::marks::is_marked`: `some` tells it of the first k positions. Assumes nothing.
use Prim.Native.Nat.{◌≤◌}
use mathlib.Core.Path.{◌≡◌}
use lib.ListN.{length}
use Rattle.algorithm.specs.Table.{positions}
use Rattle.algorithm.specs.Actions.{some_marked}
use Rattle.words.specs.Lists.{part}
use Rattle.questions.proofs.marks.is_marked.Given as goal

abbrev pub invariant-loop-k : goal.invariant-loop-k
invariant-loop-k l = record {
  told : l.some ≡ some_marked (part l.t.marks l.from l.k) l.term.0;
  marked : 1 ≤ l.k → length l.t.marks ≡ positions;
}
