-- `kyntulei::kyntulei_run` meets its contract. Assumes nothing.
use mathlib.Core.Path.{refl}
use borrow.Author.Rules.{rules}
use Rattle.kyntulei.proofs.CallLaws.{ready, run-answer, run-broken}
use Rattle.kyntulei.proofs.kyntulei_run.Goals as goal

pub run-requires : goal.run-requires
run-requires c = search (rules, ready)

pub returns-then-is_whole : goal.returns-then-is_whole
returns-then-is_whole c = run-answer _ _ c.is_whole.ensures _ _ _ _ _ _
    (λ i. (c.type_inv.table i).fits)
    c.if-is_whole.true
    c.run.ensures
    refl

pub returns-else-is_whole : goal.returns-else-is_whole
returns-else-is_whole c = search (rules, run-broken)
