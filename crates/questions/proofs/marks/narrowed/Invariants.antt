-- The loop of `questions::marks::narrowed`: m is narrowed at the first k positions. Assumes nothing.
use mathlib.Core.Path.{◌≡◌}
use Rattle.questions.specs.Questions.{narrowed_past}
use Rattle.questions.proofs.marks.narrowed.Given as goal

abbrev pub invariant-loop-k : goal.invariant-loop-k
invariant-loop-k l = l.m ≡ narrowed_past l.from l.k l.t l.i l.q
