-- Laws of numbers written in a row. Assumes nothing.
use Prim.Native.Nat.{ℕ, ◌+◌, ◌*◌, ◌≤◌}
use mathlib.Core.Path.{◌≡◌, refl, ap, sym, ◌∙◌}
use mathlib.Core.List.{List, [], ◌∷◌, ◌++◌, append_assoc, append-nil}
use lib.ListN.{length}
use Rattle.buffer.specs.Buffer.{text, decimal, number_room, field, field_room, fields, Grew}
use Rattle.buffer.specs.declared.Output.{Output}
use Rattle.buffer.proofs.WroteLaws.{grown, grown_none}

pub a-field : (o p q : Output) (v : ℕ) → Grew 1 o p (text " ") → Grew number_room p q (decimal v) → Grew field_room o q (field v)
unfolding field
a-field o p q v s g = grown s g

fields-append : (l m : List ℕ) → fields (l ++ m) ≡ fields l ++ fields m
unfolding fields
fields-append [] m = refl
fields-append (x ∷ l) m = ap (λ (r : List ℕ). field x ++ r) (fields-append l m) ∙ sym (append_assoc (field x) (fields l) (fields m))

pub no_fields : (o : Output) → o.at ≤ length o.buffer.now → Grew 0 o o (fields [])
unfolding fields
no_fields o h = grown_none 0 o h

pub one_field : {n : ℕ} {o p : Output} (x : ℕ) → Grew n o p (field x) → Grew n o p (fields (x ∷ []))
unfolding fields
one_field x g = rw (append-nil (field x)) g

pub more-fields : {n m : ℕ} {o p q : Output} (l k : List ℕ) → Grew n o p (fields l) → Grew m p q (fields k) → Grew (n + m) o q (fields (l ++ k))
more-fields l k g h = rw (fields-append l k) (grown g h)

-- ---- the figures of a row

pub six-fields : (o p₁ p₂ p₃ p₄ p₅ p₆ : Output) (x y z u v w : ℕ) → Grew field_room o p₁ (field x) → Grew field_room p₁ p₂ (field y)
    → Grew field_room p₂ p₃ (field z) → Grew field_room p₃ p₄ (field u) → Grew field_room p₄ p₅ (field v) → Grew field_room p₅ p₆ (field w)
    → Grew (6 * field_room) o p₆ (fields (x ∷ y ∷ z ∷ u ∷ v ∷ w ∷ []))
six-fields o p₁ p₂ p₃ p₄ p₅ p₆ x y z u v w g₁ g₂ g₃ g₄ g₅ g₆ =
    let two = more-fields (x ∷ []) (y ∷ []) (one_field x g₁) (one_field y g₂) in
    let three = more-fields (x ∷ y ∷ []) (z ∷ []) two (one_field z g₃) in
    let four = more-fields (x ∷ y ∷ z ∷ []) (u ∷ []) three (one_field u g₄) in
    let five = more-fields (x ∷ y ∷ z ∷ u ∷ []) (v ∷ []) four (one_field v g₅) in
    more-fields (x ∷ y ∷ z ∷ u ∷ v ∷ []) (w ∷ []) five (one_field w g₆)
