-- Laws of lists counted from 1. Assumes nothing.
use Prim.Native.Nat.{ℕ, zero, suc, ◌≤◌, ◌<◌}
use mathlib.Core.Bool.{Bool, and-true, and_assoc, ◌&&◌}
use mathlib.Core.List.{List, [], ◌∷◌, ◌++◌}
use mathlib.Core.Path.{◌≡◌, refl, ap, sym, ◌∙◌}
use native.Mathlib.Decide.{ℕ_discrete}
use native.Mathlib.Omega.{arith}
use lib.ListN.{length, get_or, take, set, length-set, replicate}
use lib.Seq.{get_or-set_same, get_or-set_other, set-get_or, set-set}
use borrow.Author.Tests.{eq-eqb, ne_eqb}
use Rattle.words.proofs.Tests.{Passes, both, together}
use Rattle.words.specs.Lists.{nth, replace, every, put}
use Rattle.words.proofs.Choice.{put_same}

module _ {A : Type 0} where
  -- ---- one element replaced

  pub length-replace : (l : List A) (i : ℕ) (a : A) → length (replace l i a) ≡ length l
  unfolding replace
  length-replace l zero a = refl
  length-replace l (suc k) a = length-set l k a

  -- the replaced list, as a function of the place
  pub nth-replace : (l : List A) (i : ℕ) (a d : A) → 1 ≤ i → i ≤ length l → (n : ℕ) → nth (replace l i a) n d ≡ put (λ m. nth l m d) i a n
  unfolding nth replace put
  nth-replace l zero a d h k n = absurd (omega arith)
  nth-replace l (suc i) a d h k zero = rw (ne_eqb 0 (suc i) (omega arith))
  nth-replace l (suc i) a d h k (suc n) = go (ℕ_discrete n i)
    where
      go : Dec (n ≡ i) → get_or (set l i a) n d ≡ put (λ m. nth l m d) (suc i) a (suc n)
      go (yes e) = rw (eq-eqb (suc n) (suc i) (omega arith), e) (get_or-set_same l i a d k)
      go (no e) = rw (ne_eqb (suc n) (suc i) (omega arith)) (get_or-set_other l i n a d e)

  -- putting back the element that is there changes nothing
  pub replace-nth : (l : List A) (i : ℕ) (d : A) → replace l i (nth l i d) ≡ l
  unfolding replace nth
  replace-nth l zero d = refl
  replace-nth l (suc k) d = set-get_or l k d

  pub nth-replaced : (l : List A) (i : ℕ) (a d : A) → 1 ≤ i → i ≤ length l → nth (replace l i a) i d ≡ a
  nth-replaced l i a d h k = nth-replace l i a d h k i ∙ put_same (λ m. nth l m d) i a

  pub replace-replace : (l : List A) (i : ℕ) (a b : A) → replace (replace l i a) i b ≡ replace l i b
  unfolding replace
  replace-replace l zero a b = refl
  replace-replace l (suc j) a b = set-set l j a b

  -- ---- every element

  module _ (p : A → Bool) where
    pub every-cons : (a : A) (l : List A) → Passes (every p (a ∷ l)) → Passes (p a) × Passes (every p l)
    unfolding every
    every-cons a l t = both {a = p a} t

    pub cons-every : (a : A) (l : List A) → Passes (p a) → Passes (every p l) → Passes (every p (a ∷ l))
    unfolding every
    cons-every a l h t = together {a = p a} h t

    nil-every : Passes (every p [])
    unfolding every
    nil-every = record { yes = tt }

    pub every-nth : (l : List A) (i : ℕ) (d : A) → Passes (every p l) → 1 ≤ i → i ≤ length l → Passes (p (nth l i d))
    unfolding nth
    every-nth l zero d t h k = absurd (omega arith)
    every-nth [] (suc i) d t h k = absurd (omega arith)
    every-nth (a ∷ l) (suc zero) d t h k = (every-cons a l t).0
    every-nth (a ∷ l) (suc (suc i)) d t h k = every-nth l (suc i) d (every-cons a l t).1 (omega arith) (omega arith)

    every_set : (l : List A) (k : ℕ) (a : A) → Passes (every p l) → Passes (p a) → Passes (every p (set l k a))
    every_set [] k a t h = t
    every_set (b ∷ l) zero a t h = cons-every a l h (every-cons b l t).1
    every_set (b ∷ l) (suc k) a t h = let (here, rest) = every-cons b l t in cons-every b (set l k a) here (every_set l k a rest h)

    pub every-replace : (l : List A) (i : ℕ) (a : A) → Passes (every p l) → Passes (p a) → Passes (every p (replace l i a))
    unfolding replace
    every-replace l zero a t h = t
    every-replace l (suc k) a t h = every_set l k a t h

    pub every-plus : (l : List A) (a : A) → Passes (every p l) → Passes (p a) → Passes (every p (l ++ (a ∷ [])))
    every-plus [] a t h = cons-every a [] h t
    every-plus (b ∷ l) a t h = let (here, rest) = every-cons b l t in cons-every b (l ++ (a ∷ [])) here (every-plus l a rest h)

    pub every_take : (n : ℕ) (l : List A) → Passes (every p l) → Passes (every p (take n l))
    every_take zero l t = nil-every
    every_take (suc n) [] t = t
    every_take (suc n) (b ∷ l) t = let (here, rest) = every-cons b l t in cons-every b (take n l) here (every_take n l rest)

    -- one element more
    pub every_more : (l : List A) (d : A) (i : ℕ) → i < length l → every p (take (suc i) l) ≡ (every p (take i l) && p (get_or l i d))
    unfolding every
    every_more [] d i h = absurd (omega arith)
    every_more (a ∷ l) d zero h = and-true (p a)
    every_more (a ∷ l) d (suc i) h =
        ap (λ (b : Bool). p a && b) (every_more l d i (omega arith)) ∙ sym (and_assoc (p a) (every p (take i l)) (p (get_or l i d)))

    pub every-replicate : (n : ℕ) (a : A) → Passes (p a) → Passes (every p (replicate n a))
    every-replicate zero a h = nil-every
    every-replicate (suc n) a h = cons-every a (replicate n a) h (every-replicate n a h)
