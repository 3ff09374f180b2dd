-- Two answers that keep a contract of the engine are equal, in slices of bytes. Assumes nothing.
use Prim.Native.Nat.{ℕ, ◌<◌}
use mathlib.Core.List.{List}
use mathlib.Core.Path.{◌≡◌, sym, ◌∙◌}
use lib.ListN.{get_or}
use Rattle.std.specs.Prelude.{Result}
use Rattle.algorithm.specs.declared.Refused.{Refused}
use Rattle.algorithm.specs.Run.{step, run_to}
use Rattle.table.specs.Layout.{table_in}
use Rattle.table.proofs.StoredLaws.{holds-unique}
use Rattle.engine.specs.Engine.{Stepped, played, Played, AllRefused}

module _ {b p x y : List ℕ} (f : (i : ℕ) → get_or x i 0 < 256) (g : (i : ℕ) → get_or y i 0 < 256) where
  pub step-unique : {r s : Result ℕ Refused} → Stepped b p r x → Stepped b p s y → (r ≡ s) × (x ≡ y)
  step-unique h m = (h.reply ∙ sym m.reply, holds-unique x y (step (table_in b) p).table f g h.table m.table)

  pub run-unique : {r u v : List ℕ} {k l : ℕ} → Played b p r k x u → Played b p r l y v → (k ≡ l) × (x ≡ y) × (u ≡ v)
  run-unique {r = r} h m =
      (h.count ∙ sym m.count, holds-unique x y (run_to (played p r) (table_in b) p).table f g h.table m.table, h.replies ∙ sym m.replies)

pub refuse-unique : {p r u v : List ℕ} {k l : ℕ} → AllRefused p r k u → AllRefused p r l v → (k ≡ l) × (u ≡ v)
refuse-unique h m = (h.count ∙ sym m.count, h.replies ∙ sym m.replies)
