-- A slice that is not broken and its table determine each other. Assumes nothing.
use Prim.Native.Nat.{ℕ}
use mathlib.Core.Path.{◌≡◌, refl, ap, ap₂, sym, subst, ◌∙◌}
use mathlib.Core.Bool.{true, false, ◌&&◌}
use mathlib.Core.List.{List, [], ◌∷◌}
use lib.Dec.{eqb}
use lib.ListN.{length}
use borrow.Author.Tests.{not-true, eq-eqb}
use Rattle.words.proofs.Tests.{Passes, both, together, equal, is-equal, is_true}
use Rattle.algorithm.specs.Table.{Table, broken}
use Rattle.table.specs.Layout.{table_bytes, stored, table_in, same, whole}
use Rattle.table.specs.Slice.{Holds, Held}
use Rattle.table.proofs.StoredLaws.{stored-length, stored-holds, stored-table}

same-equal : (l m : List ℕ) → Passes (same l m) → l ≡ m
unfolding same
same-equal [] [] h = refl
same-equal [] (y ∷ m) h = absurd h.yes
same-equal (x ∷ l) [] h = absurd h.yes
same-equal (x ∷ l) (y ∷ m) h =
    let (here, rest) = both {a = eqb x y} h in
    ap₂ (λ (z : ℕ) (k : List ℕ). z ∷ k) (equal here) (same-equal l m rest)

pub same_self : (l : List ℕ) → Passes (same l l)
unfolding same
same_self [] = record { yes = tt }
same_self (x ∷ l) = together {a = eqb x x} (is-equal {a = x} refl) (same_self l)

-- ---- from a table to its slice

-- the bytes of a table that breaks no rule are whole
pub stored-whole : (t : Table) → broken t ≡ false → whole (stored t) ≡ true
unfolding whole
stored-whole t h =
    rw (stored-table t h, eq-eqb (length (stored t)) table_bytes (stored-length t), is_true (same (stored t) (stored t)) (same_self (stored t)).yes, h)

-- ---- from a slice to its table

module _ (b : List ℕ) (h : whole b ≡ true) where
  found : (length b ≡ table_bytes) × (b ≡ stored (table_in b)) × (broken (table_in b) ≡ false)
  unfolding whole
  found =
      let passed : Passes (whole b) = record { yes = rw h tt } in
      let (laid, sound) = both {a = eqb (length b) table_bytes && same b (stored (table_in b))} passed in
      let (sized, mine) = both {a = eqb (length b) table_bytes} laid in
      (equal sized, same-equal b (stored (table_in b)) mine, not-true (broken (table_in b)) (is_true _ sound.yes))

  -- a whole slice is the bytes of the table in it
  pub whole-stored : b ≡ stored (table_in b)
  whole-stored = found.1

  -- that table breaks no rule
  pub whole-sound : broken (table_in b) ≡ false
  whole-sound = found.2

  -- and the slice holds it
  pub whole-held : Held b
  whole-held = subst (λ (x : List ℕ). Holds x (table_in b)) (sym whole-stored) (stored-holds (table_in b) whole-sound)

-- ---- so the two determine each other

-- two whole slices with one table are one slice
pub one-slice : (b b' : List ℕ) → whole b ≡ true → whole b' ≡ true → table_in b ≡ table_in b' → b ≡ b'
one-slice b b' h h' e = whole-stored b h ∙ ap stored e ∙ sym (whole-stored b' h')

-- two tables that break no rule and have one slice are one table
pub one_table : (t t' : Table) → broken t ≡ false → broken t' ≡ false → stored t ≡ stored t' → t ≡ t'
one_table t t' h h' e = sym (stored-table t h) ∙ ap table_in e ∙ stored-table t' h'
