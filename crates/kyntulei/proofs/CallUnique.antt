-- Two answers that satisfy an exported function's contract are equal: number, table and replies. Assumes nothing.
use Prim.Native.Nat.{ℕ}
use mathlib.Core.List.{List}
use mathlib.Core.Path.{◌≡◌, sym, ◌∙◌}
use Rattle.kyntulei.specs.Promise.{FreshAnswer, StepAnswer, RunAnswer}

pub fresh-unique : {b x y : List ℕ} {n m R F r s : ℕ} → FreshAnswer b n m R F r x → FreshAnswer b n m R F s y → (r ≡ s) × (x ≡ y)
fresh-unique h k = (h.reply ∙ sym k.reply, h.bytes ∙ sym k.bytes)

pub step-unique : {b a x y : List ℕ} {r s v w : ℕ} → StepAnswer b a r v x → StepAnswer b a s w y → (r ≡ s) × (v ≡ w) × (x ≡ y)
step-unique h k = (h.number ∙ sym k.number, h.reply ∙ sym k.reply, h.bytes ∙ sym k.bytes)

pub run-unique : {b p r x y u v : List ℕ} {i j : ℕ} → RunAnswer b p r i x u → RunAnswer b p r j y v → (i ≡ j) × (x ≡ y) × (u ≡ v)
run-unique h k = (h.count ∙ sym k.count, h.bytes ∙ sym k.bytes, h.replies ∙ sym k.replies)
