-- `kyntulei::answer` meets its contract. Assumes nothing.
use borrow.Author.Rules.{rules}
use Rattle.kyntulei.proofs.CallLaws.{ready, step-answer, step-broken}
use Rattle.kyntulei.proofs.answer.Goals as goal

pub step-requires : goal.step-requires
step-requires c = search (rules, ready)

pub returns-then-is_whole : goal.returns-then-is_whole
returns-then-is_whole c =
    let p = step-answer _ _ c.is_whole.ensures _ _ _ (λ i. (c.type_inv.table i).fits) c.if-is_whole.true c.step.ensures in
    record { reply = p.0; bytes = p.1 }

pub returns : goal.returns
returns c =
    let p = step-broken _ _ c.is_whole.ensures _ c.if-is_whole.false in
    record { reply = p.0; bytes = p.1 }
