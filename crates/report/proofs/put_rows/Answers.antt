-- `report::put_rows` meets its contract. Assumes nothing.
use Prim.Native.Nat.{◌+◌}
use native.Mathlib.Omega.{arith}
use borrow.Author.Rules.{rules}
use Rattle.report.proofs.OrderLaws.{lined-none, rows_more, rows_all}
use Rattle.report.proofs.put_rows.Goals as goal

pub loop-s-init : goal.loop-s-init
loop-s-init c = (search rules, search (rules, lined-none))

pub loop-s-preserved : goal.loop-s-preserved
loop-s-preserved c = (search rules, search (rules, rows_more))

pub returns-2 : goal.returns-2
returns-2 c = rows_all _ _ _ (c.loop-s.s + 1) c.count-s-end.result (search (rules, rows_more)) (omega arith) (omega arith) (search rules) (search rules)
