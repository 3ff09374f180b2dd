-- The lowest pair of majorities apart: what it is, when there is one, and how it is found. Assumes nothing.
use mathlib.Core.Path.{◌≡◌, refl, sym, ap, subst, ◌∙◌}
use mathlib.Core.Bool.{Bool}
use mathlib.Core.Logic.{inl, inr, ⊎_elim}
use Prim.Native.Nat.{ℕ, zero, suc, ◌+◌, ◌-◌, ◌*◌, ◌/◌, ◌^◌, ◌≤◌, ◌<◌, min}
use native.Mathlib.Omega.{arith}
use lib.Bits.{bit_and, bit_or, and_comm, and_le_l}
use lib.Count.{ones}
use Rattle.members.specs.declared.apart.Pair.{Pair}
use Rattle.members.specs.Members.{Member, Subset, Majority, without}
use Rattle.members.specs.Rules.{MajoritiesMeet, least_shared, all_meet, Apart, apart, LowestApart, old_apart, new_apart, lowest_pair, lowest_servers}
use Rattle.words.proofs.Tests.{Passes, Fails, both, together, equal, is-equal, above, fails, refuted}
use Rattle.members.proofs.Masks.{counted, ones-count, ones_pos, counted-le, counted-mono, counted-split, ones_split, in_both, both-in, in_either, either-in, in_without, without_in, without-lt, a-member, member-some, fits-itself}
use Rattle.members.proofs.Majorities.{majority-is, is-majority, subset-le, subset-ones, all-meet}
use Rattle.members.proofs.Lowest.{lowest-passes, lowest-least, low-counted, low-size, low-inside, low-least}

-- ---- the test

no_member : (m : ℕ) → ((s : ℕ) → Member s m → ⊥) → m ≡ 0
no_member zero none = refl
no_member (suc m) none = let (s, t) = a-member (suc m) (omega arith) in absurd (none s t)

module _ {a b q r : ℕ} where
  pub apart-is : Passes (apart a b q r) → Apart a b q r
  apart-is t =
      let (majorities, z) = both t in
      let (x, y) = both majorities in
      let none : bit_and q r ≡ 0 = equal z in
      record {
        old = majority-is x;
        new = majority-is y;
        never = λ w. omega (arith, member-some w.0 (bit_and q r) (both-in q r w.0 w.1 w.2));
      }

  pub is-apart : Apart a b q r → Passes (apart a b q r)
  is-apart x =
      together (together (is-majority x.old) (is-majority x.new))
      (is-equal (no_member (bit_and q r) (λ s t. let (u, v) = in_both q r s t in x.never (s, u, v))))

-- a majority of a that leaves more than half of b
left : {a b q : ℕ} → Majority q a → ones b < 2 * ones (without b q) → Apart a b q (without b q)
left {b} {q} x h =
    record {
      old = x;
      new = record { inside = λ s t. (in_without b q s t).0; more = h };
      never = λ w. (in_without b q w.0 w.2).1 w.1;
    }

beside : {a b q r : ℕ} → Apart a b q r → Subset r (without b q)
beside {b} {q} x s t = without_in b q s (x.new.inside s t) (λ u. x.never (s, u, t))

leaves : {a b q r : ℕ} → Apart a b q r → Apart a b q (without b q)
leaves {b} {q} {r} x = left x.old (omega (arith, x.new.more, subset-ones r (without b q) (beside x)))

-- ---- the lowest pair

pub ones-zero : ones 0 ≡ 0
unfolding ones
ones-zero = refl

-- a majority is not empty, and as a number not above its set
pub majority-range : (q : ℕ) {m : ℕ} → Majority q m → (0 < q) × (q ≤ m)
majority-range zero x = absurd (omega (arith, x.more, ones-zero))
majority-range (suc q) {m} x = (omega arith, subset-le (suc q) m x.inside)

-- where there is a pair, the definitions give the lowest
pub lowest-apart : {a b q r : ℕ} → Apart a b q r → LowestApart a b (old_apart a b) (new_apart a b)
unfolding old_apart new_apart
lowest-apart {a} {b} {q} {r} x =
    let o = old_apart a b in
    let old : ℕ → Bool = λ q. apart a b q (without b q) in
    let (l, h) = majority-range q x.old in
    let y : Apart a b o (without b o) = apart-is (lowest-passes old a q l h (is-apart (leaves x))) in
    let (l', h') = majority-range (without b o) y.new in
    record {
      pair = apart-is (lowest-passes (apart a b o) b (without b o) l' h' (is-apart y));
      old-least = λ q' r' z. let (u, v) = majority-range q' z.old in lowest-least old a q' u v (is-apart (leaves z));
      new-least = λ r' z. let (u, v) = majority-range r' z.new in lowest-least (apart a b o) b r' u v (is-apart z);
    }

pub lowest-unique : {a b q r q' r' : ℕ} → LowestApart a b q r → LowestApart a b q' r' → (q ≡ q') × (r ≡ r')
lowest-unique {a} {b} {q} {r} {q'} {r'} x y =
    let e : q ≡ q' = omega (arith, x.old-least q' r' y.pair, y.old-least q r x.pair) in
    (e, omega (arith, x.new-least r' (subst (λ (p : ℕ). Apart a b p r') (sym e) y.pair), y.new-least r (subst (λ (p : ℕ). Apart a b p r) e x.pair)))

-- ---- how it is found

-- how many of its servers b can spare
abbrev spare : ℕ → ℕ
spare b = (ones b - 1) / 2

-- the lowest of the shared servers that b can spare
abbrev spared : ℕ → ℕ → ℕ → ℕ
spared n a b = lowest_servers n (spare b) (bit_and a b)

-- those, and the servers of a alone
abbrev usable : ℕ → ℕ → ℕ → ℕ
usable n a b = bit_or (without a b) (spared n a b)

-- the lowest of them that are a majority of a
abbrev old_choice : ℕ → ℕ → ℕ → ℕ
old_choice n a b = lowest_servers n (ones a / 2 + 1) (usable n a b)

-- the lowest majority of b beside q
abbrev new_choice : ℕ → ℕ → ℕ → ℕ
new_choice n b q = lowest_servers n (ones b / 2 + 1) (without b q)

module _ (n a b : ℕ) where
  spared-shared : (s : ℕ) → Member s (spared n a b) → Member s a × Member s b
  spared-shared s t = in_both a b s (low-inside (spare b) (bit_and a b) n s t)

  usable-inside : Subset (usable n a b) a
  usable-inside s t =
      ⊎_elim (λ u. (in_without a b s u).0) (λ u. (spared-shared s u).0) (in_either (without a b) (spared n a b) s t)

  usable-spared : (s : ℕ) → Member s (usable n a b) → Member s b → Member s (spared n a b)
  usable-spared s t u = ⊎_elim (λ v. absurd ((in_without a b s v).1 u)) (λ v. v) (in_either (without a b) (spared n a b) s t)

  usable-counted : (j : ℕ) → j ≤ n → counted j (without a b) + min (spare b) (counted j (bit_and a b)) ≤ counted j (usable n a b)
  usable-counted j l =
      let m : ℕ = spared n a b in
      let u : ℕ = usable n a b in
      omega (
        arith,
        counted-split j u b,
        low-counted (spare b) (bit_and a b) n j l,
        counted-mono j m (bit_and u b) (λ s t. both-in u b s (either-in (without a b) m s (inr t)) (spared-shared s t).1),
        counted-mono j (without a b) (without u b) (λ s t. without_in u b s (either-in (without a b) m s (inl t)) (in_without a b s t).1),
      )

  module _ (width : a < 2 ^ n) where
    old-apart : 0 < a → 0 < b → Fails (all_meet a b) → Apart a b (old_choice n a b) (without b (old_choice n a b))
    old-apart la lb f =
        let q : ℕ = old_choice n a b in
        let few : ones (bit_and a b) < least_shared (ones a) (ones b) = above f in
        let low : Subset q (usable n a b) = low-inside (ones a / 2 + 1) (usable n a b) n in
        left
        (record {
          inside = λ s t. usable-inside s (low s t);
          more = omega (
            arith,
            ones_pos a la,
            low-size (ones a / 2 + 1) (usable n a b) n,
            usable-counted n (omega arith),
            ones_split a b,
            ones-count n {m = bit_and a b} (omega (arith, and_le_l a b)),
            ones-count n {m = without a b} (without-lt n a b width),
          );
        })
        (omega (
          arith,
          ones_pos b lb,
          ones_split b q,
          subset-ones (bit_and b q) (spared n a b) (λ s t. let (u, v) = in_both b q s t in usable-spared s (low s v) u),
          low-size (spare b) (bit_and a b) n,
        ))

    -- no pair has a lower one: among the first j servers its old majority has at most as many as are usable
    old-least : (q r : ℕ) → Apart a b q r → old_choice n a b ≤ q
    old-least q r x =
        low-least (ones a / 2 + 1) (usable n a b) n q (omega (arith, subset-le q a x.old.inside)) fewer (omega (arith, x.old.more))
      where
        fewer : (j : ℕ) → j ≤ n → counted j q ≤ counted j (usable n a b)
        fewer j l = omega (
          arith,
          (leaves x).new.more,
          ones_split b q,
          ap ones (and_comm b q),
          counted-le j (bit_and q b),
          counted-split j q b,
          counted-mono j (bit_and q b) (bit_and a b) (λ s t. let (u, v) = in_both q b s t in both-in a b s (x.old.inside s u) v),
          counted-mono j (without q b) (without a b) (λ s t. let (u, v) = in_without q b s t in without_in a b s (x.old.inside s u) v),
          usable-counted j l,
        )

module _ (n : ℕ) {a b q : ℕ} (width : b < 2 ^ n) where
  new-apart : Apart a b q (without b q) → Apart a b q (new_choice n b q)
  new-apart x =
      let low : Subset (new_choice n b q) (without b q) = low-inside (ones b / 2 + 1) (without b q) n in
      record {
        old = x.old;
        new = record {
          inside = λ s t. x.new.inside s (low s t);
          more = omega (
            arith,
            x.new.more,
            low-size (ones b / 2 + 1) (without b q) n,
            ones-count n {m = without b q} (without-lt n b q width),
          );
        };
        never = λ w. x.never (w.0, w.1, low w.0 w.2);
      }

  new-least : (r : ℕ) → Apart a b q r → new_choice n b q ≤ r
  new-least r x =
      low-least (ones b / 2 + 1) (without b q) n r (omega (arith, subset-le r b x.new.inside))
      (λ j l. counted-mono j r (without b q) (beside x)) (omega (arith, x.new.more))

module _ (a b : ℕ) (la : 0 < a) (lb : 0 < b) (f : Fails (all_meet a b)) where
  -- sets that are not empty have a lowest pair where the test fails
  pub some-apart : LowestApart a b (old_apart a b) (new_apart a b)
  some-apart = lowest-apart (old-apart a a b (fits-itself a) la lb f)

  choice-lowest : (n : ℕ) → a < 2 ^ n → b < 2 ^ n → LowestApart a b (old_choice n a b) (new_choice n b (old_choice n a b))
  choice-lowest n wa wb =
      record {
        pair = new-apart n wb (old-apart n a b wa la lb f);
        old-least = old-least n a b wa;
        new-least = new-least n wb;
      }

  -- what the code finds, step by step
  pub pair_found : (n m : ℕ) (p : Pair) → a < 2 ^ n → b < 2 ^ n → m ≡ spared n a b
      → p.old ≡ lowest_servers n (ones a / 2 + 1) (bit_or (without a b) m) → p.new ≡ new_choice n b p.old → p ≡ lowest_pair a b
  pair_found n m p wa wb e₁ e₂ e₃ =
      let (x, y) = lowest-unique (choice-lowest n wa wb) some-apart in
      let old : p.old ≡ old_choice n a b = e₂ ∙ rw e₁ in
      let new : p.new ≡ new_apart a b = e₃ ∙ rw old y in
      λ i. record { old = (old ∙ x) i; new = new i }

-- and only there
pub apart-fails : {a b q r : ℕ} → Apart a b q r → Fails (all_meet a b)
apart-fails {q} {r} x = fails (λ t. x.never (all-meet t q r x.old x.new))

-- so sets whose majorities all meet pass
pub meet_all : {a b : ℕ} → 0 < a → 0 < b → MajoritiesMeet a b → Passes (all_meet a b)
meet_all {a} {b} la lb meet =
    refuted (fails (λ f. let x = (some-apart a b la lb (record { no = f.yes })).pair in x.never (meet _ _ x.old x.new)))
