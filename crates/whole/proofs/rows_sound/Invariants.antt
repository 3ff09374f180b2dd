-- The loop of `whole::rows_sound`: k rows are tested. Assumes nothing.
use Rattle.words.specs.Words.{words}
use Rattle.whole.proofs.CheckLaws.{RowsTested}
use Rattle.whole.proofs.rows_sound.Given as goal

abbrev pub invariant-loop-k : goal.invariant-loop-k
invariant-loop-k l = RowsTested (words l.t) l.n l.k l.ok
