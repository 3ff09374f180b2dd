-- The manual's sheet: the rule of all its numbers, read off for any two sizes, and that these are the least numbers. Assumes nothing.
use mathlib.Core.Path.{◌≡◌, ap, ap₂, ◌∙◌}
use mathlib.Core.Bool.{Bool, true, false, ◌&&◌}
use mathlib.Core.List.{List, [], ◌∷◌}
use Prim.Native.Nat.{ℕ, zero, suc, ◌+◌, ◌-◌, ◌^◌, ◌≤◌, ◌<◌, min}
use native.Mathlib.Decide.{dec_le}
use native.Mathlib.Omega.{arith}
use lib.Dec.{leb}
use lib.ListN.{get_or}
use lib.Bits.{bit_and}
use lib.Count.{ones}
use borrow.Author.Tests.{le-leb, lt-leb}
use Rattle.words.specs.Lists.{between}
use Rattle.words.proofs.Tests.{Passes, Fails, fails, at_most, is-at-most}
use Rattle.members.specs.Members.{member, one, mask}
use Rattle.members.specs.Rules.{least_shared, all_meet, old_apart, new_apart}
use Rattle.members.specs.Sheet.{Sharing, Least}
use Rattle.members.proofs.Counting.{count, count_same}
use Rattle.members.proofs.Masks.{ones-shared, in_both, ones-mask, mask_lt, member-mask}
use Rattle.members.proofs.Majorities.{subset-ones, all-meet}
use Rattle.members.proofs.Pairs.{ones-zero, some-apart}

-- ---- the rule of all its numbers

module _ {A : Type 0} (f : ℕ → A) where
  -- what f gives for n numbers from i on
  abbrev values : ℕ → ℕ → List A
  values i zero = []
  values i (suc n) = f i ∷ values (suc i) n

  value-at : (d : A) (n i k : ℕ) → k < n → get_or (values i n) k d ≡ f (i + k)
  value-at d zero i k h = absurd (omega arith)
  value-at d (suc n) i zero h = ap f (omega arith)
  value-at d (suc n) i (suc k) h = value-at d n (suc i) k (omega arith) ∙ ap f (omega arith)

-- a row for each old size, and in it the rule's number for each new size, from 1 to 16 (that the code's array is this list is computed where
-- `entry` is cited)
abbrev pub sheet : List (List ℕ)
sheet = values (λ a. values (least_shared a) 1 16) 1 16

pub entry : (a b : ℕ) → 0 < a → a ≤ 16 → 0 < b → b ≤ 16 → get_or (get_or sheet (a - 1) []) (b - 1) 0 ≡ least_shared a b
entry a b la ha lb hb =
    let i : ℕ = 1 + (a - 1) in
    ap (λ (row : List ℕ). get_or row (b - 1) 0) (value-at (λ a. values (least_shared a) 1 16) [] 16 1 (a - 1) (omega arith))
    ∙ value-at (least_shared i) 0 16 1 (b - 1) (omega arith) ∙ ap₂ least_shared (omega arith) (omega arith)

-- ---- sets of any sizes that share any number of servers

-- how many of the servers 1 to n are among those from l + 1 to h
among : (l h n : ℕ) → count n (between (suc l) h) ≡ min n h - l
unfolding count
among l h zero = omega arith
among l h (suc k) = go (dec_le (suc l) (suc k)) (dec_le (suc k) h) (among l h k)
  where
    go : Dec (suc l ≤ suc k) → Dec (suc k ≤ h) → count k (between (suc l) h) ≡ min k h - l
        → one (between (suc l) h (suc k)) + count k (between (suc l) h) ≡ min (suc k) h - l
    go (yes x) (yes y) rest = rw (le-leb (suc l) (suc k) x, le-leb (suc k) h y) (omega arith)
    go (yes x) (no y) rest = rw (le-leb (suc l) (suc k) x, lt-leb (suc k) h (omega arith)) (omega arith)
    go (no x) y rest = rw (lt-leb (suc l) (suc k) (omega arith)) (omega arith)

-- the servers 1 to a and those from l + 1 to h share those from l + 1 to a
overlap : (l a h k : ℕ) → a ≤ h → (between 1 a (suc k) && between (suc l) h (suc k)) ≡ between (suc l) a (suc k)
overlap l a h k m = rw (le-leb 1 (suc k) (omega arith)) (go (dec_le (suc k) a) (leb (suc l) (suc k)))
  where
    go : Dec (suc k ≤ a) → (b : Bool) → (leb (suc k) a && (b && leb (suc k) h)) ≡ (b && leb (suc k) a)
    go (yes x) b = rw (le-leb (suc k) a x, le-leb (suc k) h (omega arith))
    go (no x) true = rw (lt-leb (suc k) a (omega arith))
    go (no x) false = rw (lt-leb (suc k) a (omega arith))

-- the servers 1 to a, and b servers of which t are the last of these
pub some_share : (n a b t : ℕ) → t ≤ a → t ≤ b → a + b ≤ n + t → (old new : ℕ) × (old < 2 ^ n) × (new < 2 ^ n) × Sharing a b t old new
some_share n a b t ta tb room =
    let l : ℕ = a - t in
    let h : ℕ = l + b in
    let old : ℕ = mask n (between 1 a) in
    let new : ℕ = mask n (between (suc l) h) in (
      old,
      new,
      mask_lt n (between 1 a),
      mask_lt n (between (suc l) h),
      record {
        old-size = omega (arith, ones-mask n (between 1 a), among 0 a n);
        new-size = omega (arith, ones-mask n (between (suc l) h), among l h n);
        shared = omega (
          arith,
          ones-shared n old new (mask_lt n (between 1 a)),
          count_same n (λ s. member s old && member s new) (between (suc l) a)
              (λ k u. ap₂ ◌&&◌ (member-mask n (between 1 a) k u) (member-mask n (between (suc l) h) k u) ∙ overlap l a h k (omega arith)),
          among l a n,
        );
      },
    )

-- ---- the least number

met : (old new : ℕ) → least_shared (ones old) (ones new) ≤ ones (bit_and old new) → Passes (all_meet old new)
met old new h = is-at-most h

not-met : (old new : ℕ) → ones (bit_and old new) < least_shared (ones old) (ones new) → Fails (all_meet old new)
not-met old new h = fails (λ t. let enough : least_shared (ones old) (ones new) ≤ ones (bit_and old new) = at_most t in omega arith)

-- more than the smaller set has is never shared
pub never : (old new : ℕ) → min (ones old) (ones new) < least_shared (ones old) (ones new) → Fails (all_meet old new)
never old new h =
    let both : ℕ = bit_and old new in
    not-met old new
    (omega (arith, subset-ones both old (λ s t. (in_both old new s t).0), subset-ones both new (λ s t. (in_both old new s t).1)))

not-empty : (m : ℕ) → 0 < ones m → 0 < m
not-empty zero h = absurd (omega (arith, ones-zero))
not-empty (suc m) h = omega arith

pub shared-least : (n a b : ℕ) → 0 < a → 0 < b → Least n a b (least_shared a b)
shared-least n a b la lb =
    record {
      enough = λ t old new h x. all-meet (met old new (omega (arith, x.old-size, x.new-size, x.shared)));
      fewer = λ t old new h x. (
        old_apart old new,
        new_apart old new,
        (some-apart old new (not-empty old (omega (arith, x.old-size))) (not-empty new (omega (arith, x.new-size)))
            (not-met old new (omega (arith, x.old-size, x.new-size, x.shared)))).pair,
      );
      there = λ t h. some_share n a b t;
    }
