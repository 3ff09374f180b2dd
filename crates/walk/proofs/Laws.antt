-- What a loop over a list of actions reads from what it finds: that it stays within the list, that its place grows, and where it ends. Assumes nothing.
use Prim.Native.Nat.{ℕ, ◌+◌, ◌-◌, ◌≤◌, ◌<◌, min}
use mathlib.Core.Path.{◌≡◌, refl, sym, ◌∙◌, subst}
use mathlib.Core.List.{List, [], ◌∷◌}
use native.Mathlib.Decide.{dec_le}
use native.Mathlib.Omega.{arith}
use borrow.Author.Tests.{le-leb, lt-leb}
use lib.ListN.{length, take, drop, length-drop}
use lib.Seq.{take_all}
use denote.Ref.{Bor}
use Rattle.walk.specs.declared.Walk.{Walk}
use Rattle.walk.specs.declared.Found.{Found}
use Rattle.walk.specs.declared.Found.TheVariants.{Action, Cut, End}
use Rattle.walk.specs.Plan.{found_at, place_behind, behind}

pub record Whole (p : List ℕ) (at e : ℕ) : Type 0 where
  pub inside : at < length p
  pub behind : e ≡ at + 8
  pub fits : e ≤ length p

pub record Short (p : List ℕ) (at e : ℕ) : Type 0 where
  pub inside : at < length p
  pub behind : e ≡ length p
  pub short : e < at + 8

-- indexed by what is found, so that each law below has one case
data Stands (p : List ℕ) (at : ℕ) : Found → Type 0 where
  whole : at + 8 ≤ length p → Stands p at (Action (at + 8))
  cut : at < length p → length p < at + 8 → Stands p at (Cut (length p))
  none : length p ≤ at → Stands p at End

stands : (p : List ℕ) (at : ℕ) → Stands p at (found_at p at)
unfolding found_at
stands p at = go (dec_le (length p) at) (dec_le 8 (length p - at))
  where
    go : Dec (length p ≤ at) → Dec (8 ≤ length p - at) → Stands p at (found_at p at)
    go (yes l) _ = simp (le-leb _ _ l) (none l)
    go (no l) (yes m) = simp (lt-leb (length p) at (omega arith), le-leb _ _ m) (whole (omega arith))
    go (no l) (no m) = simp (lt-leb (length p) at (omega arith), lt-leb 8 (length p - at) (omega arith)) (cut (omega arith) (omega arith))

pub action-found : (p : List ℕ) (at e : ℕ) → found_at p at ≡ Action e → Whole p at e
action-found p at e h = of (subst (Stands p at) h (stands p at))
  where
    of : {e : ℕ} → Stands p at (Action e) → Whole p at e
    of (whole l) = record { inside = omega arith; behind = refl; fits = l }

pub cut-found : (p : List ℕ) (at e : ℕ) → found_at p at ≡ Cut e → Short p at e
cut-found p at e h = of (subst (Stands p at) h (stands p at))
  where
    of : {e : ℕ} → Stands p at (Cut e) → Short p at e
    of (cut l s) = record { inside = l; behind = refl; short = s }

pub end-found : (p : List ℕ) (at : ℕ) → found_at p at ≡ End → length p ≤ at
end-found p at h = of (subst (Stands p at) h (stands p at))
  where
    of : Stands p at End → length p ≤ at
    of (none l) = l

-- a loop that moves on from a place within the list stays there, and comes to the end
pub behind-is : (p : List ℕ) (at : ℕ) → at ≤ length p → behind p at ≡ min (at + 8) (length p)
unfolding behind
behind-is p at l = of (stands p at)
  where
    of : {f : Found} → Stands p at f → place_behind at f ≡ min (at + 8) (length p)
    of (whole m) = omega arith
    of (cut m s) = omega arith
    of (none m) = omega arith

-- the bytes from a place within the list to the place behind
module _ (p : List ℕ) (at end : ℕ) (e : end ≡ behind p at) (l : at < length p) where
  is : end ≡ min (at + 8) (length p)
  is = e ∙ behind-is p at (omega arith)

  pub piece-starts : at ≤ end
  piece-starts = omega (arith, is)

  pub piece-ends : end ≤ length p
  piece-ends = omega (arith, is)

  pub piece-is : take (end - at) (drop at p) ≡ take 8 (drop at p)
  piece-is = go (dec_le (at + 8) (length p))
    where
      go : Dec (at + 8 ≤ length p) → take (end - at) (drop at p) ≡ take 8 (drop at p)
      go (yes l) = let n : end - at ≡ 8 = omega (arith, is) in rw n
      go (no l) =
          take_all (end - at) (drop at p) (omega (arith, length-drop at p, is))
          ∙ sym (take_all 8 (drop at p) (omega (arith, length-drop at p)))

pub piece-none : (p : List ℕ) (at : ℕ) → length p ≤ at → [] ≡ take 8 (drop at p)
piece-none p at l = none (drop at p) (omega (arith, length-drop at p))
  where
    none : (l : List ℕ) → length l ≡ 0 → [] ≡ take 8 l
    none [] h = refl
    none (x ∷ l) h = absurd (omega arith)

-- two walks over one list at one place are one walk
pub walk-unique : {v w : Walk} {s : Bor (List ℕ)} {n : ℕ} → (v.actions ≡ s) × (v.at ≡ n) → (w.actions ≡ s) × (w.at ≡ n) → v ≡ w
walk-unique (a, b) (c, d) = λ i. record { actions = (a ∙ sym c) i; at = (b ∙ sym d) i }
