-- The members of a set that pass, among the servers 1 to k: a loop over the servers asks one of them more in each turn. Assumes nothing.
use Prim.Native.Nat.{ℕ, ◌+◌, ◌*◌, ◌/◌, ◌%◌, ◌^◌, ◌<◌}
use native.Mathlib.Nat.{zero-mul, zero-add}
use native.Mathlib.Numerals.{add-one}
use mathlib.Core.Path.{◌≡◌, sym, ap, ◌∙◌}
use mathlib.Core.Bool.{Bool, false, ◌&&◌}
use borrow.Author.Tests.{eq-eqb, ne_eqb}
use Rattle.members.specs.Members.{bit, member, one, mask, passing}
use Rattle.members.proofs.Masks.{mask_next, mask_lt, and-passing}

pub passing-none : (f : ℕ → Bool) (q : ℕ) → 0 ≡ passing 0 f q
unfolding mask
passing-none f q = sym (and-passing 0 q f)

module _ (f : ℕ → Bool) (q k m : ℕ) (e : m ≡ passing k f q) where
  pub passing-fits : m < 2 ^ k
  passing-fits = rw (e, and-passing k q f) (mask_lt k (λ s. member s q && f s))

  next : (r : ℕ) (b : Bool) → b ≡ (bit k q && f (k + 1)) → r ≡ one b * 2 ^ k + m → r ≡ passing (k + 1) f q
  next r b h g = g ∙ rw (e, and-passing k q f, and-passing (k + 1) q f, h, ap f (add-one k)) (sym (mask_next k (λ s. member s q && f s)))

  -- server k + 1 is a member of q
  pub passing-in : (r : ℕ) (a : Bool) → q / 2 ^ k % 2 ≡ 1 → a ≡ f (k + 1) → r ≡ one a * 2 ^ k + m → r ≡ passing (k + 1) f q
  passing-in r a i h = next r a (rw (eq-eqb (q / 2 ^ k % 2) 1 i) h)

  -- server k + 1 is none
  pub passing-out : (q / 2 ^ k % 2 ≡ 1 → ⊥) → m ≡ passing (k + 1) f q
  passing-out o = next m false (rw (ne_eqb (q / 2 ^ k % 2) 1 o)) (rw (zero-mul, zero-add))
