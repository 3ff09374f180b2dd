-- The laws of majorities: when they meet, what they have in common, and what the tests on members mean. Assumes nothing.
use mathlib.Core.Path.{◌≡◌, refl, sym, ap, subst, ◌∙◌}
use mathlib.Core.Bool.{Bool, true, false, ◌||◌, ◌&&◌}
use mathlib.Core.Logic.{◌≢◌, ◌⊎◌, inl, inr, ⊎_elim}
use Prim.Native.Nat.{ℕ, zero, suc, ◌+◌, ◌^◌, ◌≤◌, ◌<◌}
use native.Mathlib.Nat.{eq-or-lt_of_le}
use native.Mathlib.Omega.{arith}
use lib.Dec.{T}
use lib.Bits.{bit_and, bit_xor, and_le_r, and_self}
use lib.Count.{ones}
use mir.Facts.{and_yes}
use Rattle.members.specs.Members.{member, Member, Subset, one_apart, Majority, majority, mask, some_pass, most_pass}
use Rattle.members.specs.Rules.{Meet, MajoritiesMeet, least_shared, all_meet, may_follow}
use Rattle.members.proofs.Said.{All, Some, Most, Hits}
use Rattle.words.proofs.Tests.{Passes, Fails, both, together, contradiction, fails, equal, less, at_most, is-equal, is-less}
use Rattle.members.proofs.Counting.{count, count-some, count-mono, count-both, count-unlike}
use Rattle.members.proofs.Masks.{fits, ext, ones-count, ones-shared, ones-unlike, and-member, in_both, both-in, in-mask, mask-in, member-pos, member-le, a-member, member-some}

-- ---- subsets and majorities, as they are tested

and-absorb : (a b : Bool) → (T a → T b) → (a && b) ≡ a
and-absorb true true h = refl
and-absorb true false h = absurd (h tt)
and-absorb false b h = refl

subset-and : (q m : ℕ) → Subset q m → bit_and q m ≡ q
subset-and q m h = ext (bit_and q m) q (λ s. and-member s q m ∙ and-absorb (member s q) (member s m) (h s))

and-subset : (q m : ℕ) → bit_and q m ≡ q → Subset q m
and-subset q m e s t = (in_both q m s (subst (Member s) (sym e) t)).1

pub subset-le : (q m : ℕ) → Subset q m → q ≤ m
subset-le q m h = omega (arith, subset-and q m h, and_le_r q m)

pub subset-ones : (q m : ℕ) → Subset q m → ones q ≤ ones m
subset-ones q m h =
    let n : ℕ = q + m in
    omega (
      arith,
      ones-count n {m = q} (fits n (omega arith)),
      ones-count n {m = m} (fits n (omega arith)),
      count-mono n (λ s. member s q) (λ s. member s m) h,
    )

pub majority-is : {q m : ℕ} → Passes (majority q m) → Majority q m
majority-is {q} {m} t = let (a, b) = both t in record { inside = and-subset q m (equal a); more = less b }

pub is-majority : {q m : ℕ} → Majority q m → Passes (majority q m)
is-majority {q} {m} x = together (is-equal (subset-and q m x.inside)) (is-less x.more)

-- ---- which majorities meet

or_mono : (a b c d : Bool) → (T a → T c) → (T b → T d) → T (a || b) → T (c || d)
or_mono true b true d f g t = tt
or_mono true b false d f g t = absurd (f tt)
or_mono false b true d f g t = tt
or_mono false b false d f g t = g t

-- the law behind the others: two subsets meet that have, with the shared servers, more servers than the two sets
crowded-meet : (a b q r : ℕ) → Subset q a → Subset r b → ones a + ones b < ones q + ones r + ones (bit_and a b) → Meet q r
crowded-meet a b q r qa rb h =
    let n : ℕ = a + b + q + r in
    let size : (m : ℕ) → m ≤ n → ones m ≡ count n (λ s. member s m) = λ m l. ones-count n (fits n l) in
    let some = count-some n (λ s. member s q && member s r) (omega (
      arith,
      size a (omega arith),
      size b (omega arith),
      size q (omega arith),
      size r (omega arith),
      ones-shared n a b (fits n (omega arith)),
      count-both n (λ s. member s q) (λ s. member s r),
      count-both n (λ s. member s a) (λ s. member s b),
      count-mono n (λ s. member s q || member s r) (λ s. member s a || member s b)
          (λ s. or_mono (member s q) (member s r) (member s a) (member s b) (qa s) (rb s)),
    )) in
    let both = and_yes (member some.0 q) (member some.0 r) some.2 in
    (some.0, both.0, both.1)

-- every majority of a meets every majority of b, where enough servers are shared
pub all-meet : {a b : ℕ} → Passes (all_meet a b) → MajoritiesMeet a b
all-meet {a} {b} t q r x y =
    let enough : least_shared (ones a) (ones b) ≤ ones (bit_and a b) = at_most t in
    crowded-meet a b q r x.inside y.inside (omega arith)

pub same_set : (m : ℕ) → MajoritiesMeet m m
same_set m q r x y = crowded-meet m m q r x.inside y.inside (omega (arith, ap ones (and_self m)))

pub one-apart : {a b : ℕ} → Passes (one_apart a b) → MajoritiesMeet a b
one-apart {a} {b} t q r x y =
    let n : ℕ = a + b in
    let e : ones (bit_xor a b) ≡ 1 = equal t in
    crowded-meet a b q r x.inside y.inside (omega (
      arith,
      ones-count n {m = a} (fits n (omega arith)),
      ones-count n {m = b} (fits n (omega arith)),
      ones-shared n a b (fits n (omega arith)),
      ones-unlike n a b (fits n (omega arith)) (fits n (omega arith)),
      count-unlike n (λ s. member s a) (λ s. member s b),
    ))

-- a set that may follow another by either rule
pub may-follow : (rule : ℕ) {old new : ℕ} → Passes (may_follow rule old new) → MajoritiesMeet old new
may-follow zero t = one-apart t
may-follow (suc k) t = all-meet t

pub other-rule : (rule old new : ℕ) → rule ≢ 0 → may_follow rule old new ≡ all_meet old new
other-rule zero old new h = absurd (h refl)
other-rule (suc k) old new h = refl

-- ---- a decision at every member

-- either every member of q is P, or some member is R
pub all-or-some : (P R : ℕ → Type 0) → ((s : ℕ) → P s ⊎ R s) → (q : ℕ) → All q P ⊎ Some q R
all-or-some P R decide q = ⊎_elim (λ f. inl (λ s m. f s (member-le q s (fits q (omega arith)) m) m)) inr (go q)
  where
    AllTo : ℕ → Type 0
    AllTo n = (s : ℕ) → s ≤ n → Member s q → P s

    next : (n : ℕ) → AllTo n → (b : Bool) → member (suc n) q ≡ b → P (suc n) ⊎ R (suc n) → AllTo (suc n) ⊎ Some q R
    next n f true e (inr r) = inr (suc n, subst T (sym e) tt, r)
    next n f true e (inl p) = inl (λ s l m. ⊎_elim (λ z. subst P (sym z) p) (λ k. f s (omega arith) m) (eq-or-lt_of_le l))
    next n f false e d =
        inl (λ s l m. ⊎_elim (λ z. absurd (subst T e (subst (λ (s : ℕ). Member s q) z m))) (λ k. f s (omega arith) m) (eq-or-lt_of_le l))

    go : (n : ℕ) → AllTo n ⊎ Some q R
    go zero = inl (λ s l m. absurd (omega (arith, member-pos s q m)))
    go (suc n) = ⊎_elim (λ f. next n f (member (suc n) q) refl (decide (suc n))) inr (go n)

-- ---- what a majority has in common, and what every majority meets

pub meet-sym : {a b : ℕ} → MajoritiesMeet a b → MajoritiesMeet b a
meet-sym m q r x y = let (s, u, v) = m r q y x in (s, v, u)

pub most-hits : {a b : ℕ} {P : ℕ → Type 0} → MajoritiesMeet a b → Most a P → Hits b P
most-hits m x r y = let (s, u, v) = m x.by r x.majority y in (s, v, x.all s u)

-- a majority that is all P has a member that is R, where every majority has one
pub most-and-hits : {a : ℕ} {P R : ℕ → Type 0} → Most a P → Hits a R → (s : ℕ) × P s × R s
most-and-hits x h = let (s, u, r) = h x.by x.majority in (s, x.all s u, r)

pub hits-map : {a : ℕ} {P R : ℕ → Type 0} → ((s : ℕ) → P s → R s) → Hits a P → Hits a R
hits-map f h q x = let (s, u, p) = h q x in (s, u, f s p)

pub most-map : {a : ℕ} {P R : ℕ → Type 0} → ((s : ℕ) → P s → R s) → Most a P → Most a R
most-map f x = record { by = x.by; majority = x.majority; all = λ s u. f s (x.all s u) }

-- ---- what the tests on the members of a set of servers 1 to n mean

module _ (n m : ℕ) (width : m < 2 ^ n) (p : ℕ → Bool) where
  -- a member of m that passes is in what `&` leaves
  passing : (s : ℕ) → Member s m → Passes (p s) → Member s (bit_and m (mask n p))
  passing s u v = both-in m (mask n p) s u (mask-in n p s (member-pos s m u) (member-le n s width u) v.yes)

  passed : (s : ℕ) → Member s (bit_and m (mask n p)) → Member s m × Passes (p s)
  passed s t =
      let (a, b) = in_both m (mask n p) s t in (a, record { yes = in-mask n p s b })

  pub some-passes : Passes (some_pass n p m) → Some m (λ s. Passes (p s))
  some-passes t = let (s, u) = a-member (bit_and m (mask n p)) (less t) in (s, (passed s u).0, (passed s u).1)

  pub pass-some : Some m (λ s. Passes (p s)) → Passes (some_pass n p m)
  pass-some (s, u, v) = is-less (member-some s (bit_and m (mask n p)) (passing s u v))

  pub none_passes : Fails (some_pass n p m) → All m (λ s. Fails (p s))
  none_passes t s u = fails (λ v. contradiction t (pass-some (s, u, v)))

  pub most-pass : Passes (most_pass n p m) → Most m (λ s. Passes (p s))
  most-pass t = record { by = bit_and m (mask n p); majority = majority-is t; all = λ s u. (passed s u).1 }

  pub pass-most : Most m (λ s. Passes (p s)) → Passes (most_pass n p m)
  pass-most x =
      is-majority
      (record {
        inside = λ s t. (passed s t).0;
        more = omega (
          arith,
          x.majority.more,
          subset-ones x.by (bit_and m (mask n p)) (λ s u. passing s (x.majority.inside s u) (x.all s u)),
        );
      })
