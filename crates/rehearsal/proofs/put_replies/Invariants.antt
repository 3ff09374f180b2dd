-- The loop of `rehearsal::put_replies`: the lines of the first k replies are put. Assumes nothing.
use mathlib.Core.List.{map}
use Rattle.algorithm.specs.Run.{answer_in}
use Rattle.report.specs.Lines.{replied_line, replied_room}
use Rattle.report.proofs.OrderLaws.{Lined}
use Rattle.rehearsal.proofs.put_replies.Given as goal

abbrev pub invariant-loop-k : goal.invariant-loop-k
invariant-loop-k l = Lined replied_room replied_line (map answer_in l.replies) l.initial.out l.out l.k
