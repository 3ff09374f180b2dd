-- A test that passed or failed, as a record: what it tells is read off it with no word about the test itself. Assumes nothing.
use Prim.Native.Nat.{ℕ, ◌≤◌, ◌<◌}
use mathlib.Core.Bool.{Bool, true, false, not, ◌||◌, ◌&&◌}
use mathlib.Core.Logic.{◌≢◌, ◌⊎◌, inl, inr, ⊎_elim}
use mathlib.Core.Path.{◌≡◌, refl}
use lib.Dec.{T, leb, ltb, eqb, leb→le, nleb→lt, ltb→lt, nltb→le, eqb→eq, le→leb, lt→ltb}
use mir.Facts.{and_yes, yes_and, or_yes, or_no, T_not, not_T, T_not-not, eqb_no, yes_eqb}

pub record Passes (b : Bool) : Type 0 where
  pub yes : T b

pub record Fails (b : Bool) : Type 0 where
  pub no : T (not b)

module _ {a b : Bool} where
  pub both : Passes (a && b) → Passes a × Passes b
  both h = let (x, y) = and_yes a b h.yes in (record { yes = x }, record { yes = y })

  pub together : Passes a → Passes b → Passes (a && b)
  together h k = record { yes = yes_and a b h.yes k.yes }

  pub either : Passes (a || b) → Passes a ⊎ Passes b
  either h = ⊎_elim (λ x. inl (record { yes = x })) (λ y. inr (record { yes = y })) (or_yes a b h.yes)

  pub neither : Fails (a || b) → Fails a × Fails b
  neither h = let (x, y) = or_no a b h.no in (record { no = x }, record { no = y })

pub first_of : {a : Bool} (b : Bool) → Passes a → Passes (a || b)
first_of {a = true} b h = h
first_of {a = false} b h = absurd h.yes

pub second-of : (a : Bool) {b : Bool} → Passes b → Passes (a || b)
second-of true h = record { yes = tt }
second-of false h = h

module _ {b : Bool} where
  pub refuted : Fails (not b) → Passes b
  refuted h = record { yes = T_not-not b h.no }

  pub unrefuted : Passes b → Fails (not b)
  unrefuted h = record { no = not-not b h.yes }
    where
      not-not : (b : Bool) → T b → T (not (not b))
      not-not true t = tt
      not-not false t = t

  pub contradiction : Fails b → Passes b → ⊥
  contradiction h k = T_not b k.yes h.no

  pub fails : (Passes b → ⊥) → Fails b
  fails f = record { no = not_T b (λ t. f (record { yes = t })) }

-- what is left where a refusal that joins two denials does not hold
module _ {a b : Bool} where
  pub both-refuted : Fails (not a || not b) → Passes a × Passes b
  both-refuted h = let (x, y) = neither h in (refuted x, refuted y)

  pub one-refuted : Fails (not a && not b) → Passes a ⊎ Passes b
  one-refuted h = go a b h
    where
      go : (a b : Bool) → Fails (not a && not b) → Passes a ⊎ Passes b
      go true b h = inl (record { yes = tt })
      go false b h = inr (refuted h)

-- two tests do not both pass exactly where one of them fails
pub not-both : (a b : Bool) → Passes (not (a && b)) → Fails a ⊎ Fails b
not-both true b h = inr (record { no = h.yes })
not-both false b h = inl (record { no = tt })

pub one-fails : (a b : Bool) → Fails a ⊎ Fails b → Passes (not (a && b))
one-fails true b h = ⊎_elim (λ f. absurd f.no) (λ f. record { yes = f.no }) h
one-fails false b h = record { yes = tt }

pub fails-false : {b : Bool} → Fails b → b ≡ false
fails-false {b = true} h = absurd h.no
fails-false {b = false} h = refl

pub false-fails : {b : Bool} → b ≡ false → Fails b
false-fails e = record { no = rw e tt }

-- two tests whose answers are known, joined
pub and-told : (r s a b : Bool) → r ≡ a → s ≡ b → (r && s) ≡ (a && b)
and-told r s a b e f = rw (e, f)

module _ {a b : ℕ} where
  pub equal : Passes (eqb a b) → a ≡ b
  equal h = eqb→eq a b h.yes

  pub unequal : Fails (eqb a b) → a ≢ b
  unequal h = eqb_no h.no

  pub less : Passes (ltb a b) → a < b
  less h = ltb→lt a b h.yes

  pub not-less : Fails (ltb a b) → b ≤ a
  not-less h = nltb→le a b h.no

  pub at_most : Passes (leb a b) → a ≤ b
  at_most h = leb→le a b h.yes

  pub above : Fails (leb a b) → b < a
  above h = nleb→lt a b h.no

  pub is-equal : a ≡ b → Passes (eqb a b)
  is-equal e = record { yes = yes_eqb e }

  pub is-less : a < b → Passes (ltb a b)
  is-less h = record { yes = lt→ltb a b h }

  pub is-at-most : a ≤ b → Passes (leb a b)
  is-at-most h = record { yes = le→leb a b h }

-- ---- tests as plain statements

pub three : (a b c : Bool) → T (a && b && c) → T a × T b × T c
three true true c h = (tt, tt, h)
three true false c h = absurd h
three false b c h = absurd h

pub is_true : (a : Bool) → T a → a ≡ true
is_true true h = refl
is_true false h = absurd h
