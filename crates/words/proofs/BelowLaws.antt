-- A test of each number below another, as a loop makes it and as it is used. Assumes nothing.
use Prim.Native.Nat.{ℕ, zero, suc, ◌+◌, ◌<◌}
use native.Mathlib.Numerals.{add-one}
use native.Mathlib.Omega.{arith}
use mathlib.Core.Path.{◌≡◌, refl}
use mathlib.Core.Bool.{Bool, true, ◌&&◌}
use borrow.Author.Count.{below_more}
use Rattle.words.proofs.Tests.{Passes, both, together}
use Rattle.words.specs.Lists.{all_below}

-- the numbers below k are tested, and ok tells whether they pass
pub record Tested (p : ℕ → Bool) (k : ℕ) (ok : Bool) : Type 0 where
  pub tells : ok ≡ all_below k p

module _ (p : ℕ → Bool) where
  pub tested-none : Tested p 0 true
  unfolding all_below
  tested-none = record { tells = refl }

  pub tested-more : (k : ℕ) (ok r : Bool) → Tested p k ok → r ≡ p k → Tested p (k + 1) (ok && r)
  unfolding all_below
  tested-more k ok r h e = record { tells = rw (add-one k, h.tells, e) }

-- ---- from the test of all to each number, and back

pub all-below : (k : ℕ) (p : ℕ → Bool) → Passes (all_below k p) → (j : ℕ) → j < k → Passes (p j)
unfolding all_below
all-below zero p h j l = absurd (omega arith)
all-below (suc k) p h j l =
    let (below, here) = both {a = all_below k p} h in
    below_more (λ j. Passes (p j)) k (all-below k p below) here j (omega arith)

pub below_all : (k : ℕ) (p : ℕ → Bool) → ((j : ℕ) → j < k → Passes (p j)) → Passes (all_below k p)
unfolding all_below
below_all zero p h = record { yes = tt }
below_all (suc k) p h = together {a = all_below k p} (below_all k p (λ j l. h j (omega arith))) (h k (omega arith))
