-- The beginning of a log. Assumes nothing.
use Prim.Native.Nat.{ℕ, ◌+◌, ◌≤◌, ◌<◌}
use native.Mathlib.Numerals.{add-one}
use native.Mathlib.Omega.{arith}
use mathlib.Core.Path.{◌≡◌, refl, sym, ◌∙◌}
use mathlib.Core.Bool.{Bool, true, false, and-true, and-false, and_assoc, ◌&&◌}
use mathlib.Core.List.{[], ◌∷◌}
use lib.Dec.{eqb, ltb}
use lib.ListN.{length, drop}
use lib.Seq.{drop-cons, drop-length}
use borrow.Author.Tests.{ltb-true}
use Rattle.algorithm.specs.Table.{no_entry, Log, term_at, prefix}
use Rattle.words.specs.Lists.{nth}

-- of a log that is no longer than the other: the question is whether ok, and whether what is left of the logs past position k is a prefix
pub record PrefixFrom (k : ℕ) (l m : Log) (ok : Bool) : Type 0 where
  pub fits : length l ≤ length m
  pub left : prefix l m ≡ (ok && prefix (drop k l) (drop k m))

module _ (l m : Log) where
  pub prefix-long : (n p : ℕ) (r : Bool) → n ≡ length l → p ≡ length m → r ≡ ltb p n → r ≡ true → false ≡ prefix l m
  unfolding prefix
  prefix-long n p r e f g h = let below = ltb-true p n (sym g ∙ h) in go l m (omega (arith, below))
    where
      go : (l m : Log) → length m < length l → false ≡ prefix l m
      go [] m h = absurd (omega arith)
      go (x ∷ l) [] h = refl
      go (x ∷ l) (y ∷ m) h = rw (← go l m (omega arith)) (sym (and-false (eqb x.term y.term)))

  pub prefix-next : (k n x y : ℕ) (ok s : Bool) → s ≡ eqb x y → x ≡ term_at l (k + 1) → y ≡ term_at m (k + 1) → n ≡ length l → k < n
      → PrefixFrom k l m ok → PrefixFrom (k + 1) l m (ok && s)
  unfolding prefix nth
  prefix-next k n x y ok s es ex ey e c o =
      record {
        fits = o.fits;
        left = o.left ∙ rw (drop-cons l k no_entry (omega arith), drop-cons m k no_entry (omega (arith, o.fits)), es, ex, ey, add-one, and_assoc);
      }

  pub prefix-all : (k n : ℕ) (ok : Bool) → n ≡ length l → k ≤ n → n ≤ k → PrefixFrom k l m ok → ok ≡ prefix l m
  unfolding prefix
  prefix-all k n ok e h c o = let all : k ≡ length l = omega (arith, e) in sym (o.left ∙ rw (all, drop-length l, and-true))
