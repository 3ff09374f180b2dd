-- The loop of `doers::logs::stretch`: as many entries are copied as it counts. Assumes nothing.
use Rattle.doers.proofs.StretchLaws.{Copying}
use Rattle.doers.proofs.logs.stretch.Given as goal

abbrev pub invariant-loop : goal.invariant-loop
invariant-loop l = Copying l.initial.t l.i l.j l.t l.counter
