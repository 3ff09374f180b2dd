-- The loop of `words::all_between`: what it keeps. Assumes nothing.
use Rattle.words.proofs.PartLaws.{Tested}
use Rattle.words.proofs.all_between.Given as goal

abbrev pub invariant-loop-i : goal.invariant-loop-i
invariant-loop-i l = Tested l.t l.k l.low l.high l.i l.ok
