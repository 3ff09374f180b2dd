-- What a comparison by a first figure, and by a second where the first are equal, says of the four. Assumes nothing.
use Prim.Native.Nat.{ℕ, ◌≤◌}
use mathlib.Core.Bool.{Bool, true, false, not, ◌||◌, ◌&&◌}
use mathlib.Core.Path.{◌≡◌, refl}
use native.Mathlib.Omega.{arith}
use lib.Dec.{T, ltb, eqb, ltb→lt, nltb→le}
use borrow.Author.Tests.{ltb-true, ltb-false, eqb-true, eqb-false}

module _ (a b c d : ℕ) where
  pub larger : T (ltb c a || eqb a c && ltb d b) → (c ≤ a) × (c ≡ a → d ≤ b)
  larger = go (ltb c a) refl (eqb a c) refl
    where
      go : (x : Bool) → ltb c a ≡ x → (y : Bool) → eqb a c ≡ y → T (x || y && ltb d b) → (c ≤ a) × (c ≡ a → d ≤ b)
      go true p y q t = omega (arith, ltb-true)
      go false p true q t = omega (arith, eqb-true, ltb→lt)
      go false p false q t = absurd t

  pub not-larger : T (not (ltb c a || eqb a c && ltb d b)) → (a ≤ c) × (a ≡ c → b ≤ d)
  not-larger = go (ltb c a) refl (eqb a c) refl
    where
      go : (x : Bool) → ltb c a ≡ x → (y : Bool) → eqb a c ≡ y → T (not (x || y && ltb d b)) → (a ≤ c) × (a ≡ c → b ≤ d)
      go true p y q t = absurd t
      go false p true q t = (omega (arith, ltb-false), λ _. nltb→le d b t)
      go false p false q t = (omega (arith, ltb-false), λ e. absurd (eqb-false a c q e))
