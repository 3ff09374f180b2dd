-- The loop of `report::put_rows`: the lines of the servers before s are put. Assumes nothing.
use Prim.Native.Nat.{◌+◌, ◌-◌, ◌≤◌}
use Rattle.report.specs.Lines.{row_line, row_room}
use Rattle.report.proofs.OrderLaws.{Lined}
use Rattle.report.proofs.put_rows.Given as goal

abbrev pub invariant-loop-s : goal.invariant-loop-s
invariant-loop-s l = (l.s ≤ l.s-end + 1) × Lined row_room row_line l.t.servers l.initial.out l.out (l.s - 1)
