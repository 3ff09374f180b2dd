-- Laws of lists in parts: a place in the part in the middle, and one in each of two parts. Assumes nothing.
use Prim.Native.Nat.{ℕ, ◌+◌, ◌<◌}
use native.Mathlib.Nat.{zero-add, suc-add}
use native.Mathlib.Omega.{arith}
use mathlib.Core.Path.{◌≡◌, ap, ◌∙◌}
use mathlib.Core.List.{List, [], ◌∷◌, ◌++◌}
use lib.ListN.{length, get_or, set, length-set, get_or-append}
use lib.Seq.{get_or-append-add, set-append_left}

-- ---- a part in the middle, at a place

set_past : (xs ys : List ℕ) (n v : ℕ) → set (xs ++ ys) (length xs + n) v ≡ xs ++ set ys n v
set_past [] ys n v = ap (λ (k : ℕ). set ys k v) (zero-add n)
set_past (x ∷ xs) ys n v =
    ap (λ (k : ℕ). set (x ∷ (xs ++ ys)) k v) (suc-add (length xs) n) ∙ ap (λ (l : List ℕ). x ∷ l) (set_past xs ys n v)

pub get-mid : (xs r ys : List ℕ) (at n : ℕ) → length xs ≡ at → n < length r → get_or (xs ++ (r ++ ys)) (at + n) 0 ≡ get_or r n 0
get-mid xs r ys at n e h = rw (← e) (get_or-append-add xs (r ++ ys) n 0 ∙ get_or-append r ys 0 n h)

pub set-mid : (xs r ys : List ℕ) (at n v : ℕ) → length xs ≡ at → n < length r
    → set (xs ++ (r ++ ys)) (at + n) v ≡ xs ++ (set r n v ++ ys)
set-mid xs r ys at n v e h =
    rw (← e) (set_past xs (r ++ ys) n v ∙ ap (λ (l : List ℕ). xs ++ l) (set-append_left r ys n v h))

-- the same place put in both of two lists, the first of them k long
pub set_both : (xs ys : List ℕ) (k n v w : ℕ) → length xs ≡ k → n < k → set (set (xs ++ ys) n v) (k + n) w ≡ set xs n v ++ set ys n w
set_both xs ys k n v w e h =
    let long : length (set xs n v) ≡ k = length-set xs n v ∙ e in
    rw (set-append_left xs ys n v (omega arith), ← long) (set_past (set xs n v) ys n w)
