-- `report::parts::put_marks` meets its contract. Assumes nothing.
use Prim.Native.Nat.{◌+◌}
use native.Mathlib.Omega.{arith}
use borrow.Author.Rules.{rules}
use Rattle.buffer.proofs.FieldLaws.{no_fields}
use Rattle.report.proofs.MarkLaws.{marks-more, marks-all}
use Rattle.report.proofs.parts.put_marks.Goals as goal

pub loop-k-init : goal.loop-k-init
loop-k-init c = (search rules, search (rules, no_fields))

pub loop-k-preserved : goal.loop-k-preserved
loop-k-preserved c = (search rules, search (rules, marks-more))

pub returns-2 : goal.returns-2
returns-2 c = marks-all _ _ _ (c.loop-k.k + 1) _ (search (rules, marks-more)) (omega arith) (omega arith) (search rules)
