-- The loop of `writer::bodies::put_entries`: what it keeps. Assumes nothing.
use Rattle.algorithm.specs.Table.{server}
use Rattle.writer.proofs.BodyWriteLaws.{Paired}
use Rattle.writer.proofs.bodies.put_entries.Given as goal

abbrev pub invariant-loop-p : goal.invariant-loop-p
invariant-loop-p l = Paired (server l.t l.s).log l.initial.out l.out l.p
