-- Lists counted from 1, parts of lists, a function changed at one place, and tests over a list or a range. Assumes nothing.
use Rattle.std.specs.Prelude.{ℕ, zero, suc, Bool, true, cond, ◌&&◌, List, [], ◌∷◌, leb, eqb, get_or, set, take, drop}

module _ {A : Type 0} where
  -- element i of a list, counted from 1, and d where there is none
  unfoldable pub nth : List A → ℕ → A → A
  nth l zero d = d
  nth l (suc k) d = get_or l k d

  -- the list with a for its element i; as it is where it has none
  unfoldable pub replace : List A → ℕ → A → List A
  replace l zero a = l
  replace l (suc k) a = set l k a

  -- n elements of a list, from place k on, the first place being 0
  abbrev pub part : List A → ℕ → ℕ → List A
  part l k n = take n (drop k l)

  -- f, but a at k
  unfoldable pub put : (ℕ → A) → ℕ → A → ℕ → A
  put f k a n = cond (eqb n k) a (f n)

  -- every element passes p
  unfoldable pub every : (A → Bool) → List A → Bool
  every p [] = true
  every p (a ∷ l) = p a && every p l

-- p holds of each number below k
unfoldable pub all_below : ℕ → (ℕ → Bool) → Bool
all_below zero p = true
all_below (suc k) p = all_below k p && p k

-- v is from low to high
abbrev pub between : ℕ → ℕ → ℕ → Bool
between low high v = leb low v && leb v high
