-- What `within` and `one_apart` mean in terms of members. (What `majority` and the tests on members mean is in `Majorities`.) Assumes nothing.
use mathlib.Core.Path.{◌≡◌, refl, sym, subst, ◌∙◌}
use mathlib.Core.Bool.{Bool, true, false}
use Prim.Native.Nat.{ℕ, zero, suc, ◌+◌, ◌%◌, ◌^◌, ◌≤◌, ◌<◌}
use native.Mathlib.Nat.{mod-lt}
use native.Mathlib.Decide.{dec_le}
use native.Mathlib.Omega.{arith}
use lib.Dec.{T}
use lib.Pow.{pow_pos}
use lib.Bits.{bit_xor}
use lib.Count.{ones}
use Rattle.words.proofs.Tests.{Passes, both, together, equal, less, is-equal, is-less}
use Rattle.members.proofs.Counting.{count, count-some, count-one, one-count, unlike}
use Rattle.members.specs.Members.{member, Member, within, one_apart}
use Rattle.members.proofs.Masks.{fits, ext, ones-unlike, bit-low, member-pos, member-le, member-above, a-member, member-some}

-- ---- a set that is not empty, of servers 1 to n

pub record Fits (m n : ℕ) : Type 0 where
  pub some : (s : ℕ) × Member s m
  pub all : (s : ℕ) → Member s m → s ≤ n

pub within-is : {m n : ℕ} → Passes (within m n) → Fits m n
within-is {m} {n} t = let (a, b) = both t in record { some = a-member m (less a); all = λ s u. member-le n s (less b) u }

-- members up to n alone stand in the n lowest digits
low-digits : (m n : ℕ) → ((s : ℕ) → Member s m → s ≤ n) → m ≡ m % 2 ^ n
low-digits m n all = ext m (m % 2 ^ n) same
  where
    above : (s : ℕ) → n < s → member s m ≡ false
    above s l = go (member s m) refl
      where
        go : (b : Bool) → member s m ≡ b → b ≡ false
        go true e = absurd (omega (arith, all s (subst T (sym e) tt)))
        go false e = refl

    same : (s : ℕ) → member s m ≡ member s (m % 2 ^ n)
    same zero = refl
    same (suc k) = go (dec_le (suc k) n)
      where
        go : Dec (suc k ≤ n) → member (suc k) m ≡ member (suc k) (m % 2 ^ n)
        go (yes l) = sym (bit-low k n m l)
        go (no l) = above (suc k) (omega arith) ∙ sym (member-above n (suc k) (mod-lt m (pow_pos n)) (omega arith))

pub is_within : {m n : ℕ} → Fits m n → Passes (within m n)
is_within {m} {n} w =
    let low : m < 2 ^ n = omega (arith, low-digits m n w.all, mod-lt m (pow_pos n)) in
    together (is-less (member-some w.some.0 m w.some.1)) (is-less low)

-- ---- one server added or removed

-- s is the one server in which the two sets differ
pub record OneApart (a b s : ℕ) : Type 0 where
  pub here : T (unlike (member s a) (member s b))
  pub only : (t : ℕ) → T (unlike (member t a) (member t b)) → t ≡ s

-- such a server is a member of one of them
differ-range : (n a b s : ℕ) → a < 2 ^ n → b < 2 ^ n → T (unlike (member s a) (member s b)) → (0 < s) × (s ≤ n)
differ-range n a b s wa wb t = go (member s a) (member s b) refl refl t
  where
    go : (x y : Bool) → member s a ≡ x → member s b ≡ y → T (unlike x y) → (0 < s) × (s ≤ n)
    go true y e f u = let t = subst T (sym e) tt in (member-pos s a t, member-le n s wa t)
    go false true e f u = let t = subst T (sym f) tt in (member-pos s b t, member-le n s wb t)
    go false false e f u = absurd u

module _ (a b : ℕ) where
  counted : ones (bit_xor a b) ≡ count (a + b) (λ s. unlike (member s a) (member s b))
  counted = ones-unlike (a + b) a b (fits (a + b) (omega arith)) (fits (a + b) (omega arith))

  range : (s : ℕ) → T (unlike (member s a) (member s b)) → (0 < s) × (s ≤ a + b)
  range s = differ-range (a + b) a b s (fits (a + b) (omega arith)) (fits (a + b) (omega arith))

  pub one-apart-is : Passes (one_apart a b) → (s : ℕ) × OneApart a b s
  one-apart-is t =
      let f : ℕ → Bool = λ s. unlike (member s a) (member s b) in
      let one : count (a + b) f ≡ 1 = sym counted ∙ equal t in
      let some = count-some (a + b) f (omega arith) in
      (some.0, record { here = some.2; only = λ u v. count-one (a + b) f some.0 u one (range some.0 some.2).0 some.1 some.2 (range u v).0 (range u v).1 v })

  pub is-one-apart : (s : ℕ) → OneApart a b s → Passes (one_apart a b)
  is-one-apart s x =
      is-equal
      (counted ∙ one-count (a + b) (λ t. unlike (member t a) (member t b)) s (range s x.here).0 (range s x.here).1 x.here x.only)
