-- Marks through the last that is not 0: how many there are. Assumes nothing.
use Prim.Native.Nat.{ℕ, zero, suc, ◌-◌, ◌≤◌, ◌<◌}
use native.Mathlib.Numerals.{sub-one}
use native.Mathlib.Omega.{arith}
use mathlib.Core.Path.{◌≡◌, refl, ap, sym, ◌∙◌}
use mathlib.Core.List.{List, [], ◌∷◌}
use lib.ListN.{length, take, drop}
use lib.Seq.{drop-cons, drop-length}
use Rattle.words.specs.Lists.{nth}
use Rattle.algorithm.specs.Table.{Table, mark, kept, trimmed, positions}

-- ---- marks through the last that is not 0 are the first so many

kept-take : (m : ℕ) (l ms : List ℕ) → take (length l) ms ≡ l → take (length (kept m l)) (m ∷ ms) ≡ kept m l
kept-take zero [] ms e = refl
kept-take (suc m) [] ms e = refl
kept-take m (x ∷ l) ms e = ap (λ (k : List ℕ). m ∷ k) e

pub trimmed-take : (ms : List ℕ) → take (length (trimmed ms)) ms ≡ trimmed ms
unfolding trimmed
trimmed-take [] = refl
trimmed-take (m ∷ ms) = kept-take m (trimmed ms) ms (trimmed-take ms)

-- ---- where the last of them is found

kept-some : (m : ℕ) (l : List ℕ) (n : ℕ) → length l ≡ suc n → length (kept m l) ≡ suc (suc n)
kept-some m [] n e = absurd (omega arith)
kept-some m (x ∷ l) n e = ap suc e

kept-none : (m : ℕ) → (m ≡ 0 → ⊥) → length (kept m []) ≡ 1
kept-none zero h = absurd (h refl)
kept-none (suc m) h = refl

shown : (n : ℕ) (ms : List ℕ) → length (trimmed (drop n ms)) ≡ 1 → length (trimmed ms) ≡ suc n
unfolding trimmed
shown zero ms e = e
shown (suc n) [] e = absurd (omega arith)
shown (suc n) (m ∷ ms) e = kept-some m (trimmed ms) n (shown n ms e)

-- the marks behind the first n are all 0
pub record Bare (ms : List ℕ) (n : ℕ) : Type 0 where
  pub few : n ≤ positions
  pub bare : trimmed (drop n ms) ≡ []

module _ (t : Table) (all : length t.marks ≡ positions) where
  abbrev marks : List ℕ
  marks = t.marks

  -- from one mark on
  behind : (n v : ℕ) → Bare marks (suc n) → v ≡ mark t (suc n) → trimmed (drop n marks) ≡ kept v []
  unfolding trimmed nth
  behind n v k e = rw (drop-cons marks n 0 (omega (arith, all, k.few)), k.bare, e)

  pub bare-none : Bare marks positions
  unfolding trimmed
  bare-none = record { few = omega arith; bare = rw (← all, drop-length marks) }

  pub bare-more : (n v : ℕ) → 0 < n → v ≡ mark t n → v ≡ 0 → Bare marks n → Bare marks (n - 1)
  bare-more zero v l e z k = absurd (omega arith)
  bare-more (suc n) v l e z k =
      record { few = omega (arith, k.few); bare = rw sub-one (behind n v k e ∙ ap (λ (m : ℕ). kept m []) z) }

  pub bare-found : (n v : ℕ) → 0 < n → v ≡ mark t n → (v ≡ 0 → ⊥) → Bare marks n → n ≡ length (trimmed marks)
  bare-found zero v l e z k = absurd (omega arith)
  bare-found (suc n) v l e z k = sym (shown n marks (ap length (behind n v k e) ∙ kept-none v z))

  pub bare-all : (n : ℕ) → n ≤ 0 → Bare marks n → 0 ≡ length (trimmed marks)
  bare-all zero l k = sym (ap length k.bare)
  bare-all (suc n) l k = absurd (omega arith)
