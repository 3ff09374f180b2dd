-- How many of the servers 1 to n pass a test. Assumes nothing.
use mathlib.Core.Path.{◌≡◌, refl, sym, ap, subst}
use mathlib.Core.Bool.{Bool, true, false, not, ◌||◌, ◌&&◌}
use Prim.Native.Nat.{ℕ, zero, suc, ◌+◌, ◌*◌, ◌≤◌, ◌<◌}
use native.Mathlib.Decide.{dec_le, dec_lt}
use native.Mathlib.Omega.{arith}
use lib.Dec.{T}
use Rattle.members.specs.Members.{one}

unfoldable pub count : ℕ → (ℕ → Bool) → ℕ
count zero f = 0
count (suc k) f = one (f (suc k)) + count k f

-- ---- one test

pub one-le : (b : Bool) → one b ≤ 1
one-le true = omega arith
one-le false = omega arith

pub count-le : (n : ℕ) (f : ℕ → Bool) → count n f ≤ n
unfolding count
count-le zero f = omega arith
count-le (suc k) f = omega (arith, one-le (f (suc k)), count-le k f)

-- a positive count has a server behind it
pub count-some : (n : ℕ) (f : ℕ → Bool) → 0 < count n f → (s : ℕ) × (s ≤ n) × T (f s)
unfolding count
count-some zero f h = absurd (omega arith)
count-some (suc k) f h = go (f (suc k)) refl (count-some k f)
  where
    go : (b : Bool) → f (suc k) ≡ b → (0 < count k f → (s : ℕ) × (s ≤ k) × T (f s)) → (s : ℕ) × (s ≤ suc k) × T (f s)
    go true e rest = (suc k, omega arith, subst T (sym e) tt)
    go false e rest = let r = rest (omega (arith, ap one e)) in (r.0, omega (arith, r.1), r.2)

-- ---- two tests

-- the count depends on the answers for servers 1 to n alone
pub count_same : (n : ℕ) (f g : ℕ → Bool) → ((k : ℕ) → k < n → f (suc k) ≡ g (suc k)) → count n f ≡ count n g
unfolding count
count_same zero f g e = refl
count_same (suc j) f g e = omega (arith, ap one (e j (omega arith)), count_same j f g (λ k h. e k (omega arith)))

one-mono : (a b : Bool) → (T a → T b) → one a ≤ one b
one-mono true true h = omega arith
one-mono true false h = absurd (h tt)
one-mono false b h = omega arith

pub count-mono : (n : ℕ) (f g : ℕ → Bool) → ((s : ℕ) → T (f s) → T (g s)) → count n f ≤ count n g
unfolding count
count-mono zero f g h = omega arith
count-mono (suc k) f g h = omega (arith, one-mono (f (suc k)) (g (suc k)) (h (suc k)), count-mono k f g h)

pub count_none : (n : ℕ) (f : ℕ → Bool) → ((s : ℕ) → s ≤ n → T (f s) → ⊥) → count n f ≡ 0
unfolding count
count_none zero f h = refl
count_none (suc k) f h = omega (arith, one-mono (f (suc k)) false (h (suc k) (omega arith)), count_none k f (λ s l. h s (omega arith)))

-- ---- exactly one server

one-true : (b : Bool) → T b → one b ≡ 1
one-true true t = refl
one-true false t = absurd t

count-pos : (n : ℕ) (f : ℕ → Bool) (s : ℕ) → 0 < s → s ≤ n → T (f s) → 0 < count n f
unfolding count
count-pos zero f s p l t = absurd (omega arith)
count-pos (suc k) f s p l t = go (dec_le s k) (count-pos k f s p)
  where
    go : Dec (s ≤ k) → (s ≤ k → T (f s) → 0 < count k f) → 0 < one (f (suc k)) + count k f
    go (yes below) rest = omega (arith, rest below t)
    go (no above) rest = let last : s ≡ suc k = omega arith in omega (arith, one-true (f (suc k)) (subst (λ (x : ℕ). T (f x)) last t))

count-two : (n : ℕ) (f : ℕ → Bool) (s t : ℕ) → 0 < s → s < t → t ≤ n → T (f s) → T (f t) → 1 < count n f
unfolding count
count-two zero f s t p l h u v = absurd (omega arith)
count-two (suc k) f s t p l h u v = go (dec_le t k) (count-two k f s t p l)
  where
    go : Dec (t ≤ k) → (t ≤ k → T (f s) → T (f t) → 1 < count k f) → 1 < one (f (suc k)) + count k f
    go (yes below) rest = omega (arith, rest below u v)
    go (no above) rest =
        let last : t ≡ suc k = omega arith in
        omega (arith, one-true (f (suc k)) (subst (λ (x : ℕ). T (f x)) last v), count-pos k f s p (omega arith) u)

-- a count of 1 has one server behind it
pub count-one : (n : ℕ) (f : ℕ → Bool) (s t : ℕ) → count n f ≡ 1 → 0 < s → s ≤ n → T (f s) → 0 < t → t ≤ n → T (f t) → t ≡ s
count-one n f s t e ps ls us pt lt ut = go (dec_lt s t) (dec_lt t s)
  where
    go : Dec (s < t) → Dec (t < s) → t ≡ s
    go (yes l) m = absurd (omega (arith, count-two n f s t ps l lt us ut))
    go (no l) (yes m) = absurd (omega (arith, count-two n f t s pt m ls ut us))
    go (no l) (no m) = omega arith

-- and the other way round
pub one-count : (n : ℕ) (f : ℕ → Bool) (s : ℕ) → 0 < s → s ≤ n → T (f s) → ((t : ℕ) → T (f t) → t ≡ s) → count n f ≡ 1
unfolding count
one-count zero f s p l u only = absurd (omega arith)
one-count (suc k) f s p l u only = go (dec_le s k) (one-count k f s p)
  where
    go : Dec (s ≤ k) → (s ≤ k → T (f s) → ((t : ℕ) → T (f t) → t ≡ s) → count k f ≡ 1) → one (f (suc k)) + count k f ≡ 1
    go (yes below) rest = omega (arith, rest below u only, one-mono (f (suc k)) false (λ v. absurd (omega (arith, only (suc k) v))))
    go (no above) rest =
        let last : s ≡ suc k = omega arith in
        omega (arith, one-true (f (suc k)) (subst (λ (x : ℕ). T (f x)) last u), count_none k f (λ t h v. omega (arith, only t v)))

-- ---- two tests, split and joined

-- those that pass f are those that pass g too and those that do not
one_split : (a b : Bool) → one a ≡ one (a && b) + one (a && not b)
one_split true true = refl
one_split true false = refl
one_split false b = refl

pub count-split : (n : ℕ) (f g : ℕ → Bool) → count n f ≡ count n (λ s. f s && g s) + count n (λ s. f s && not (g s))
unfolding count
count-split zero f g = refl
count-split (suc k) f g = omega (arith, one_split (f (suc k)) (g (suc k)), count-split k f g)

-- what passes both tests is counted twice
one-both : (a b : Bool) → one a + one b ≡ one (a || b) + one (a && b)
one-both true b = refl
one-both false true = refl
one-both false false = refl

pub count-both : (n : ℕ) (f g : ℕ → Bool) → count n f + count n g ≡ count n (λ s. f s || g s) + count n (λ s. f s && g s)
unfolding count
count-both zero f g = refl
count-both (suc k) f g = omega (arith, one-both (f (suc k)) (g (suc k)), count-both k f g)

-- one of the two holds and the other does not
abbrev pub unlike : Bool → Bool → Bool
unlike true b = not b
unlike false b = b

one-unlike : (a b : Bool) → one a + one b ≡ one (unlike a b) + 2 * one (a && b)
one-unlike true true = refl
one-unlike true false = refl
one-unlike false true = refl
one-unlike false false = refl

pub count-unlike : (n : ℕ) (f g : ℕ → Bool) → count n f + count n g ≡ count n (λ s. unlike (f s) (g s)) + 2 * count n (λ s. f s && g s)
unfolding count
count-unlike zero f g = refl
count-unlike (suc k) f g = omega (arith, one-unlike (f (suc k)) (g (suc k)), count-unlike k f g)
