-- Laws of the marks written one behind another. Assumes nothing.
use Prim.Native.Nat.{ℕ, zero, suc, ◌+◌, ◌-◌, ◌*◌, ◌≤◌, ◌<◌}
use native.Mathlib.Nat.{mul-suc}
use native.Mathlib.Omega.{arith}
use mathlib.Core.Path.{◌≡◌, ◌∙◌}
use mathlib.Core.List.{List, [], ◌∷◌, ◌++◌}
use lib.ListN.{length, take}
use lib.Seq.{take-suc}
use Rattle.words.specs.Lists.{nth}
use Rattle.algorithm.specs.Table.{positions}
use Rattle.buffer.specs.Buffer.{field, field_room, fields, Grew}
use Rattle.buffer.specs.declared.Output.{Output}
use Rattle.buffer.proofs.WroteLaws.{at_most}
use Rattle.buffer.proofs.FieldLaws.{one_field, more-fields}

module _ (ms : List ℕ) (o p : Output) where
  pub marks-more : (q : Output) (k n v : ℕ) → Grew (field_room * (k - 1)) o p (fields (take (k - 1) ms)) → Grew field_room p q (field v) → v ≡ nth ms k 0
      → 1 ≤ k → k ≤ n → n ≤ positions → length ms ≡ positions → Grew (field_room * ((k + 1) - 1)) o q (fields (take ((k + 1) - 1) ms))
  unfolding nth
  marks-more q zero n v g f is h l m all = absurd (omega arith)
  marks-more q (suc k) n v g f is h l m all =
      let here : suc k - 1 ≡ k = omega arith in
      let next : suc k + 1 - 1 ≡ suc k = omega arith in
      let one : take (suc k) ms ≡ take k ms ++ (v ∷ []) = take-suc ms k 0 (omega arith) ∙ rw is in
      rw (next, mul-suc, one) (more-fields (take k ms) (v ∷ []) (rw here at g) (one_field v f))

  pub marks-all : (k n : ℕ) → Grew (field_room * (k - 1)) o p (fields (take (k - 1) ms)) → n < k → k ≤ n + 1 → n ≤ positions
      → Grew (field_room * positions) o p (fields (take n ms))
  marks-all k n g l m h =
      let same : k - 1 ≡ n = omega arith in
      at_most (field_room * positions) (omega arith) (rw same at g)
