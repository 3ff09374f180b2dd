-- A loop over the words of a part, each tested. Assumes nothing.
use Prim.Native.Nat.{ℕ, ◌+◌, ◌*◌, ◌≤◌, ◌<◌}
use native.Mathlib.Numerals.{add-one}
use native.Mathlib.Omega.{arith}
use mathlib.Core.Path.{◌≡◌, refl, sym, ◌∙◌}
use mathlib.Core.Bool.{Bool, true, ◌&&◌}
use mathlib.Core.List.{List}
use lib.ListN.{length, get_or, drop, length-drop}
use lib.Seq.{get_or-drop}
use Rattle.words.specs.Lists.{every, between, part}
use Rattle.words.specs.Words.{words}
use Rattle.words.proofs.Lists.{every_more}
use Rattle.words.proofs.WordLaws.{length-words}

-- the first i words from word k are tested, and ok tells whether they pass
pub record Tested (b : List ℕ) (k low high i : ℕ) (ok : Bool) : Type 0 where
  pub tells : ok ≡ every (between low high) (part (words b) k i)

module _ (b : List ℕ) (k low high : ℕ) where
  pub tested-none : Tested b k low high 0 true
  unfolding every
  tested-none = record { tells = refl }

  pub tested-more : (n i w : ℕ) (ok : Bool) → 4 * (k + n) ≤ length b → i < n → Tested b k low high i ok → w ≡ get_or (words b) (k + i) 0
      → Tested b k low high (i + 1) (ok && between low high w)
  tested-more n i w ok h l e f =
      let d = drop k (words b) in
      let v : w ≡ get_or d i 0 = f ∙ sym (get_or-drop k (words b) i 0) in
      record {
        tells =
            rw (e.tells, v, add-one)
            (sym (every_more (between low high) d 0 i (simp length-drop (omega (arith, length-words b)))));
      }
