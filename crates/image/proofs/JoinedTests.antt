-- Answers of tests that a loop joins, of each number below another and of each term of a log. Assumes nothing.
use Prim.Native.Nat.{ℕ, ◌+◌, ◌<◌}
use native.Mathlib.Numerals.{add-one}
use native.Mathlib.Omega.{arith}
use mathlib.Core.Path.{◌≡◌, refl, ap}
use mathlib.Core.Bool.{Bool, true, ◌&&◌}
use mathlib.Core.List.{[]}
use lib.ListN.{length, take, length-map, get_or-map}
use Rattle.words.specs.Lists.{nth, every, all_below}
use Rattle.words.proofs.Lists.{every_more}
use Rattle.algorithm.specs.Table.{Entry, no_entry, Log, term_at}
use Rattle.table.specs.Layout.{terms}

module _ (p : ℕ → Bool) where
  pub none_below : all_below 0 p ≡ true
  unfolding all_below
  none_below = refl

  pub one_more_below : (k : ℕ) → all_below (k + 1) p ≡ (all_below k p && p k)
  unfolding all_below
  one_more_below k = ap (λ (n : ℕ). all_below n p) (add-one k)

  pub no_term : every p [] ≡ true
  unfolding every
  no_term = refl

  pub one_more_term : (log : Log) (k : ℕ) → k < length log → every p (take (k + 1) (terms log)) ≡ (every p (take k (terms log)) && p (term_at log (k + 1)))
  unfolding nth
  one_more_term log k l =
      let there : k < length (terms log) = omega (arith, length-map log (λ (x : Entry). x.term)) in
      rw (add-one, every_more p (terms log) 0 k there, get_or-map (λ (x : Entry). x.term) log k no_entry)

pub ruleset each_below = (none_below, one_more_below)

pub ruleset each_term = (no_term, one_more_term)
