-- The loop of `report::parts::put_marks`: the marks before position k are put. Assumes nothing.
use Prim.Native.Nat.{◌+◌, ◌*◌, ◌-◌, ◌≤◌}
use lib.ListN.{take}
use Rattle.buffer.specs.Buffer.{field_room, fields, Grew}
use Rattle.report.proofs.parts.put_marks.Given as goal

abbrev pub invariant-loop-k : goal.invariant-loop-k
invariant-loop-k l = (l.k ≤ l.n + 1) × Grew (field_room * (l.k - 1)) l.initial.out l.out (fields (take (l.k - 1) l.t.marks))
