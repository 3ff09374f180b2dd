-- The loop of `questions::marks::holding`: m has those that hold what is marked at positions 1 to 8 k. Assumes nothing.
use Prim.Native.Nat.{◌*◌}
use Rattle.algorithm.specs.Table.{server}
use Rattle.questions.proofs.MarkLaws.{Holding}
use Rattle.questions.proofs.marks.holding.Given as goal

abbrev pub invariant-loop-k : goal.invariant-loop-k
invariant-loop-k l = Holding l.t l.i (server l.t l.i).config.set (8 * l.k) l.m
