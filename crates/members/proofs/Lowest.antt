-- The lowest number that passes a test, the lowest member of a set, and the k lowest servers of one. Assumes nothing.
use mathlib.Core.Path.{◌≡◌, refl, sym, ap, subst, ◌∙◌}
use mathlib.Core.Bool.{Bool, true, false, cond, ◌&&◌}
use Prim.Native.Nat.{ℕ, zero, suc, ◌+◌, ◌-◌, ◌*◌, ◌/◌, ◌%◌, ◌^◌, ◌≤◌, ◌<◌, min}
use native.Mathlib.Nat.{pow-suc}
use native.Mathlib.Decide.{dec_lt}
use native.Mathlib.Omega.{arith}
use lib.Dec.{T, ltb}
use lib.Count.{ones, count_trailing_zeros, under}
use borrow.Author.Tests.{ltb-true, ltb-false, lt-ltb, le-ltb}
use Rattle.std.proofs.lemmas.Nat.Bits.{bit_at_lowest, bit_at-suc}
use Rattle.std.specs.Int.{bit_at}
use mir.Facts.{and_yes}
use Rattle.members.specs.Members.{bit, member, Member, Subset, one, with_next, mask, passing, some_pass, lowest_from, lowest_up_to, lowest_in}
use Rattle.members.specs.Rules.{is_low, lowest_servers}
use Rattle.words.proofs.Tests.{Passes, Fails, both, together, fails, fails-false, equal, is-equal}
use Rattle.words.proofs.Choice.{cond-elim}
use Rattle.members.proofs.Said.{Lowest}
use Rattle.members.proofs.Counting.{count, count_same}
use Rattle.members.proofs.Masks.{counted, ones_low, ones-count, ones-mask, mask_next, mask_lt, mask_is, member-mask, in-mask, mask-in, and-passing, a-member, member-some, member-pos, member-le}
use Rattle.members.proofs.Majorities.{some-passes}

-- ---- the lowest number that passes a test

module _ (p : ℕ → Bool) where
  -- where some number passes, the lowest does, and is no higher
  found : (n s t : ℕ) → s ≤ t → t < s + n → Passes (p t) → Passes (p (lowest_from n s p)) × (lowest_from n s p ≤ t) × (s ≤ lowest_from n s p)
  unfolding lowest_from
  found zero s t l h u = absurd (omega arith)
  found (suc n) s t l h u = go (p s) refl (dec_lt s t) (found n (suc s) t)
    where
      later : ℕ
      later = lowest_from n (suc s) p

      go : (b : Bool) → p s ≡ b → Dec (s < t) → (suc s ≤ t → t < suc s + n → Passes (p t) → Passes (p later) × (later ≤ t) × (suc s ≤ later))
          → Passes (p (cond b s later)) × (cond b s later ≤ t) × (s ≤ cond b s later)
      go true e d rest = (record { yes = subst T (sym e) tt }, l, omega arith)
      go false e (yes m) rest = let (passes, below, from) = rest m (omega arith) u in (passes, below, omega arith)
      go false e (no m) rest = let same : t ≡ s = omega arith in absurd (subst T (ap p same ∙ e) u.yes)

  pub lowest-passes : (n t : ℕ) → 0 < t → t ≤ n → Passes (p t) → Passes (p (lowest_up_to n p))
  lowest-passes n t l h u = (found n 1 t l (omega arith) u).0

  pub lowest-least : (n t : ℕ) → 0 < t → t ≤ n → Passes (p t) → lowest_up_to n p ≤ t
  lowest-least n t l h u = (found n 1 t l (omega arith) u).1

  lowest-from : (n t : ℕ) → 0 < t → t ≤ n → Passes (p t) → 0 < lowest_up_to n p
  lowest-from n t l h u = (found n 1 t l (omega arith) u).2

  -- and it is known by this
  lowest-is : (n s : ℕ) → 0 < s → s ≤ n → Passes (p s) → ((t : ℕ) → 0 < t → Passes (p t) → s ≤ t) → s ≡ lowest_up_to n p
  lowest-is n s l h u least =
      omega (arith, lowest-least n s l h u, least (lowest_up_to n p) (lowest-from n s l h u) (lowest-passes n s l h u))

  -- where none passes it is 0
  lowest-none : (n s : ℕ) → ((t : ℕ) → s ≤ t → t < s + n → Fails (p t)) → lowest_from n s p ≡ 0
  unfolding lowest_from
  lowest-none zero s none = refl
  lowest-none (suc n) s none =
      rw (fails-false (none s (omega arith) (omega arith))) (lowest-none n (suc s) (λ t l h. none t (omega arith) (omega arith)))

  -- it is one of the n
  lowest-range : (n s : ℕ) → lowest_from n s p ≤ s + n - 1
  unfolding lowest_from
  lowest-range zero s = omega arith
  lowest-range (suc n) s = cond-elim (λ (x : ℕ). x ≤ s + suc n - 1) (p s) (λ _. omega arith) (λ _. omega (arith, lowest-range n (suc s)))

  pub lowest-le : (n : ℕ) → lowest_up_to n p ≤ n
  lowest-le n = omega (arith, lowest-range n 1)

-- ---- the lowest member of a set

-- the numbers that pass, as a set
module _ (n : ℕ) (f : ℕ → Bool) where
  lowest-in-mask : 0 < mask n f → Member (lowest_up_to n f) (mask n f)
  lowest-in-mask h =
      let (t, u) = a-member (mask n f) h in
      let from = member-pos t (mask n f) u in
      let to = member-le n t (mask_lt n f) u in
      let passes : Passes (f t) = record { yes = in-mask n f t u } in
      mask-in n f (lowest_up_to n f) (lowest-from f n t from to passes) (lowest-le f n) (lowest-passes f n t from to passes).yes

  lowest-of-none : (0 < mask n f → ⊥) → lowest_up_to n f ≡ 0
  lowest-of-none h = lowest-none f n 1 (λ t l m. fails (λ u. h (member-some t (mask n f) (mask-in n f t l (omega arith) u.yes))))

  lowest-mask : (k : ℕ) → n ≤ k → lowest_up_to k (λ s. member s (mask n f)) ≡ lowest_up_to n f
  lowest-mask k l = go (dec_lt 0 (mask n f))
    where
      go : Dec (0 < mask n f) → lowest_up_to k (λ s. member s (mask n f)) ≡ lowest_up_to n f
      go (yes h) =
          let here = lowest-in-mask h in
          sym
          (lowest-is (λ s. member s (mask n f)) k (lowest_up_to n f) (member-pos (lowest_up_to n f) (mask n f) here) (omega (arith, lowest-le f n))
          (record { yes = here })
          (λ t from u. lowest-least f n t from (member-le n t (mask_lt n f) u.yes) (record { yes = in-mask n f t u.yes })))
      go (no h) = lowest-none (λ s. member s (mask n f)) k 1 (λ t l m. fails (λ u. h (member-some t (mask n f) u.yes))) ∙ sym (lowest-of-none h)

  lowest-mask-some : ltb 0 (lowest_up_to n f) ≡ ltb 0 (mask n f)
  lowest-mask-some = go (dec_lt 0 (mask n f))
    where
      go : Dec (0 < mask n f) → ltb 0 (lowest_up_to n f) ≡ ltb 0 (mask n f)
      go (yes h) = lt-ltb 0 (lowest_up_to n f) (member-pos (lowest_up_to n f) (mask n f) (lowest-in-mask h)) ∙ sym (lt-ltb 0 (mask n f) h)
      go (no h) = rw (lowest-of-none h) (sym (le-ltb 0 (mask n f) (omega arith)))

-- the members of q that pass p
module _ (n q : ℕ) (p : ℕ → Bool) where
  -- the lowest of them, where they are gathered in a set
  pub lowest-passing : (k : ℕ) → n ≤ k → lowest_up_to k (λ s. member s (passing n p q)) ≡ lowest_in n p q
  lowest-passing k l = rw (and-passing n q p) (lowest-mask n (λ s. member s q && p s) k l)

  -- there is one, and its number is not 0, exactly where some member passes
  pub lowest-some : ltb 0 (lowest_in n p q) ≡ some_pass n p q
  lowest-some = rw (and-passing n q p) (lowest-mask-some n (λ s. member s q && p s))

  -- and then it is the lowest of them
  pub lowest-in : q < 2 ^ n → Passes (some_pass n p q) → Lowest q (λ s. Passes (p s)) (lowest_in n p q)
  lowest-in width h =
      let among : ℕ → Bool = λ s. member s q && p s in
      let joined : (s : ℕ) → Member s q → Passes (p s) → Passes (among s) = λ s x y. together {a = member s q} (record { yes = x }) y in
      let (t, u, v) = some-passes n q width p h in
      let (here, passes) = both {a = member (lowest_in n p q) q} (lowest-passes among n t (member-pos t q u) (member-le n t width u) (joined t u v)) in
      record {
        member = here.yes;
        holds = passes;
        least = λ s x y. lowest-least among n s (member-pos s q x) (member-le n s width x) (joined s x y);
      }

-- what holds of the same servers has the same lowest
pub lowest-map : {q s : ℕ} {P R : ℕ → Type 0} → ((u : ℕ) → P u → R u) → ((u : ℕ) → R u → P u) → Lowest q P s → Lowest q R s
lowest-map {s} f g l = record { member = l.member; holds = f s l.holds; least = λ u x y. l.least u x (g u y) }

-- the lowest 1 of the number m stands at t, below n
record Trailing (n m t : ℕ) : Type 0 where
  within : t < n
  set : bit_at m t ≡ 1
  below : (i : ℕ) → i < t → bit_at m i ≡ 0

trailing : (n m : ℕ) → 0 < m → m < 2 ^ n → Trailing n m (count_trailing_zeros n m)
unfolding count_trailing_zeros
trailing zero m some width = absurd (omega arith)
trailing (suc n) m some width = go (m % 2) refl (trailing n (m / 2))
  where
    go : (d : ℕ) → m % 2 ≡ d → (0 < m / 2 → m / 2 < 2 ^ n → Trailing n (m / 2) (count_trailing_zeros n (m / 2)))
        → Trailing (suc n) m (under d (count_trailing_zeros n (m / 2)))
    go zero even rest =
        let half = rest (omega arith) (omega (arith, pow-suc 2 n)) in
        record { within = omega (arith, half.within); set = bit_at-suc m _ ∙ half.set; below = before half.below }
      where
        before : {t : ℕ} → ((i : ℕ) → i < t → bit_at (m / 2) i ≡ 0) → (i : ℕ) → i < suc t → bit_at m i ≡ 0
        before below zero l = bit_at_lowest m ∙ even
        before below (suc i) l = bit_at-suc m i ∙ below i (omega arith)
    go (suc d) odd rest = record { within = omega arith; set = omega (arith, bit_at_lowest m); below = λ i l. absurd (omega arith) }

-- a set that is not empty has it behind its trailing zeros
pub trailing-lowest : (n m : ℕ) → 0 < m → m < 2 ^ n → suc (count_trailing_zeros n m) ≡ lowest_up_to n (λ s. member s m)
trailing-lowest n m some width =
    let low = trailing n m some width in
    lowest-is (λ s. member s m) n (suc (count_trailing_zeros n m)) (omega arith) (omega (arith, low.within)) (is-equal low.set) (least low.below)
  where
    least : {k : ℕ} → ((i : ℕ) → i < k → bit_at m i ≡ 0) → (t : ℕ) → 0 < t → Passes (member t m) → suc k ≤ t
    least below zero from u = absurd (omega arith)
    least {k} below (suc j) from u = go (dec_lt j k)
      where
        go : Dec (j < k) → suc k ≤ suc j
        go (yes l) = absurd (omega (arith, below j l, equal {a = bit_at m j} {b = 1} u))
        go (no l) = omega arith

pub empty-lowest : (n : ℕ) → lowest_up_to n (λ s. member s 0) ≡ 0
empty-lowest n = lowest-none (λ s. member s 0) n 1 (λ t l h. fails (λ u. omega (arith, member-some t 0 u.yes)))

-- ---- the k lowest servers of a set

one-low : (b : Bool) (c k : ℕ) → one (b && ltb c k) + min k c ≡ min k (one b + c)
one-low false c k = omega arith
one-low true c k = go (ltb c k) refl
  where
    go : (t : Bool) → ltb c k ≡ t → one t + min k c ≡ min k (1 + c)
    go true e = omega (arith, ltb-true c k e)
    go false e = omega (arith, ltb-false c k e)

below-min : (k c : ℕ) → ltb (min k c) k ≡ ltb c k
below-min k c = go (dec_lt c k)
  where
    go : Dec (c < k) → ltb (min k c) k ≡ ltb c k
    go (yes h) = lt-ltb (min k c) k (omega arith) ∙ sym (lt-ltb c k h)
    go (no h) = le-ltb (min k c) k (omega arith) ∙ sym (le-ltb c k (omega arith))

module _ (k m : ℕ) where
  low_count : (n : ℕ) → count n (is_low k m) ≡ min k (counted n m)
  unfolding count
  low_count zero = omega arith
  low_count (suc j) = rw (low_count j, ones_low j m) (one-low (bit j m) (counted j m) k)

  pub low-counted : (n j : ℕ) → j ≤ n → counted j (lowest_servers n k m) ≡ min k (counted j m)
  low-counted n j h =
      count_same j (λ s. member s (lowest_servers n k m)) (is_low k m) (λ i l. member-mask n (is_low k m) i (omega arith)) ∙ low_count j

  pub low-size : (n : ℕ) → ones (lowest_servers n k m) ≡ min k (counted n m)
  low-size n = ones-mask n (is_low k m) ∙ low_count n

  is-low : (s : ℕ) → T (is_low k m s) → Member s m
  is-low zero t = t
  is-low (suc j) t = (and_yes (bit j m) (ltb (ones (m % 2 ^ j)) k) t).0

  pub low-inside : (n : ℕ) → Subset (lowest_servers n k m) m
  low-inside n s t = is-low s (in-mask n (is_low k m) s t)

  -- a loop's step
  pub low-next : (j q r : ℕ) → q ≡ lowest_servers j k m → r ≡ with_next q j (bit j m && ltb (ones q) k) → r ≡ lowest_servers (j + 1) k m
  low-next j q r e f = f ∙ rw (e, low-size j, below-min, ← ones_low j m) (sym (mask_next j (is_low k m)))

  -- a set that has no more servers among the first j than m, for every j, and k of them, is not lower
  low-masks : (n q : ℕ) → ((j : ℕ) → j < n → counted j q ≤ counted j m) → min k (counted n m) ≤ counted n q
      → lowest_servers n k m ≤ mask n (λ s. member s q)
  unfolding mask count
  low-masks zero q few h = omega arith
  low-masks (suc j) q few h =
      go (is_low k m (suc j)) (bit j q) (omega (arith, low_count (suc j), low_count j)) (low-masks j q (λ i l. few i (omega arith)))
    where
      go : (x y : Bool) → (one x + min k (counted j m) ≤ k) × (one x + min k (counted j m) ≤ one y + counted j q)
          → (min k (counted j m) ≤ counted j q → lowest_servers j k m ≤ mask j (λ s. member s q))
          → one x * 2 ^ j + lowest_servers j k m ≤ one y * 2 ^ j + mask j (λ s. member s q)
      go false true l rest = omega (arith, mask_lt j (is_low k m))
      go false false l rest = omega (arith, rest (omega arith))
      go true true l rest = omega (arith, rest (omega arith))
      go true false l rest = absurd (omega (arith, few j (omega arith)))

  pub low-least : (n q : ℕ) → q < 2 ^ n → ((j : ℕ) → j ≤ n → counted j q ≤ counted j m) → k ≤ ones q → lowest_servers n k m ≤ q
  low-least n q width few h =
      omega (
        arith,
        low-masks n q (λ j l. few j (omega arith)) (omega (arith, ones-count n width)),
        mask_is n q (λ s. member s q) width (λ j l. refl),
      )
