-- What the theory says of logs, and how a log that gains or loses its last entry compares with what it was. Assumes nothing.
use Prim.Native.Nat.{ℕ, zero, suc, ◌+◌, ◌-◌, ◌≤◌, ◌<◌}
use mathlib.Core.List.{[], ◌∷◌, ◌++◌}
use mathlib.Core.Path.{◌≡◌, refl, sym, ap, ◌∙◌}
use native.Mathlib.Numerals.{add-one}
use native.Mathlib.Omega.{arith}
use lib.ListN.{length, take, length-append, length-take, get_or-append}
use lib.Seq.{get_or-append_seam, get_or-take}
use Rattle.algorithm.specs.Table.{Entry, Log, entry_at, term_at, last}
use Rattle.words.specs.Lists.{nth}

-- l has an entry of term t at position p
pub record HasEntry (l : Log) (p t : ℕ) : Type 0 where
  pub some : 1 ≤ p
  pub within : p ≤ length l
  pub is : term_at l p ≡ t

-- l and m agree up to p
abbrev pub Same : ℕ → Log → Log → Type 0
Same p l m = (r : ℕ) → r ≤ p → term_at l r ≡ term_at m r

-- l is a prefix of m
pub record Prefix (l m : Log) : Type 0 where
  pub short : length l ≤ length m
  pub same : Same (length l) l m

pub last-held : {l : Log} → 0 < length l → HasEntry l (length l) (last l)
last-held h = record { some = omega arith; within = omega arith; is = refl }

-- no log has an entry at position 0
pub at_zero : (l m : Log) → term_at l 0 ≡ term_at m 0
unfolding nth
at_zero l m = refl

-- a log whose last entry is not 0 is not empty
pub last_positive : {l : Log} {b : ℕ} → b < last l → HasEntry l (length l) (last l)
unfolding nth
last_positive {l = []} h = absurd (omega arith)
last_positive {l = e ∷ l} h = record { some = omega arith; within = omega arith; is = refl }

pub prefix_refl : (l : Log) → Prefix l l
prefix_refl l = record { short = omega arith; same = λ r h. refl }

pub prefix_holds : {l m : Log} {p t : ℕ} → Prefix l m → HasEntry l p t → HasEntry m p t
prefix_holds {p} f h =
    record { some = h.some; within = omega (arith, f.short, h.within); is = sym (f.same p h.within) ∙ h.is }

module _ (l : Log) (e : Entry) where
  pub length-plus : length (l ++ (e ∷ [])) ≡ length l + 1
  length-plus = length-append l (e ∷ [])

  pub entry-plus : (p : ℕ) → p ≤ length l → entry_at (l ++ (e ∷ [])) p ≡ entry_at l p
  unfolding nth
  entry-plus zero h = refl
  entry-plus (suc k) h = get_or-append l (e ∷ []) _ k h

  pub entry-plus-end : entry_at (l ++ (e ∷ [])) (length l + 1) ≡ e
  unfolding nth
  entry-plus-end = rw add-one (get_or-append_seam l e [] _)

  pub at-plus : (p : ℕ) → p ≤ length l → term_at (l ++ (e ∷ [])) p ≡ term_at l p
  at-plus p h = ap (λ x. x.term) (entry-plus p h)

  pub at-plus-end : term_at (l ++ (e ∷ [])) (length l + 1) ≡ e.term
  at-plus-end = ap (λ x. x.term) entry-plus-end

  pub plus-holds : {p t : ℕ} → HasEntry l p t → HasEntry (l ++ (e ∷ [])) p t
  plus-holds {p} h =
      record { some = h.some; within = omega (arith, h.within, length-plus); is = at-plus p h.within ∙ h.is }

module _ (l : Log) where
  pub length_cut : length (take (length l - 1) l) ≡ length l - 1
  length_cut = length-take (length l - 1) l ∙ omega arith

  pub entry-cut : (p : ℕ) → p ≤ length l - 1 → entry_at (take (length l - 1) l) p ≡ entry_at l p
  unfolding nth
  entry-cut zero h = refl
  entry-cut (suc k) h = get_or-take (length l - 1) l k _ h

  pub at_cut : (p : ℕ) → p ≤ length l - 1 → term_at (take (length l - 1) l) p ≡ term_at l p
  at_cut p h = ap (λ x. x.term) (entry-cut p h)
