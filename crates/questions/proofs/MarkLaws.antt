-- Laws of the loops over the positions. Assumes nothing.
use Prim.Native.Nat.{ℕ, zero, suc, ◌+◌, ◌*◌, ◌≤◌, ◌<◌}
use native.Mathlib.Nat.{add-zero, add-suc}
use native.Mathlib.Numerals.{add-one}
use native.Mathlib.Omega.{arith}
use mathlib.Core.Path.{◌≡◌, refl, sym, ap, ◌∙◌}
use mathlib.Core.Bool.{Bool, true, false, not, cond, ◌||◌, and-true, and_comm, ◌&&◌}
use mathlib.Core.List.{List, [], ◌∷◌}
use lib.Dec.{eqb}
use lib.ListN.{length, get_or, take, drop, length-drop}
use lib.Seq.{get_or-drop, take_all}
use borrow.Author.Tests.{not-true}
use Rattle.members.specs.Members.{passing}
use Rattle.members.proofs.Masks.{and_both}
use Rattle.words.specs.Lists.{nth, part}
use Rattle.algorithm.specs.Table.{Table, count, server, mark, positions, held}
use Rattle.algorithm.specs.Actions.{same_term, some_marked, holds_marked, supports_at}
use Rattle.questions.specs.Questions.{narrowed_at, narrowed_past}

-- ---- some position is marked

-- one mark more
some_more : (l : List ℕ) (k v : ℕ) → k < length l → some_marked (take (suc k) l) v ≡ (eqb (get_or l k 0) v || some_marked (take k l) v)
unfolding some_marked
some_more [] k v h = absurd (omega arith)
some_more (m ∷ l) zero v h = refl
some_more (m ∷ l) (suc k) v h = ap (λ (b : Bool). eqb m v || b) (some_more l k v (omega arith)) ∙ turned (eqb m v) (eqb (get_or l k 0) v) (some_marked (take k l) v)
  where
    turned : (a b c : Bool) → (a || (b || c)) ≡ (b || (a || c))
    turned true true c = refl
    turned true false c = refl
    turned false b c = refl

pub marked-none : (v : ℕ) → false ≡ some_marked [] v
unfolding some_marked
marked-none v = refl

module _ (t : Table) (marked : length t.marks ≡ positions) (o v : ℕ) where
  marked_more : (k : ℕ) → o + k < positions → some_marked (part t.marks o (suc k)) v ≡ (eqb (mark t (o + suc k)) v || some_marked (part t.marks o k) v)
  unfolding nth
  marked_more k l =
      some_more (drop o t.marks) k v (simp length-drop (omega (arith, marked)))
      ∙ rw (get_or-drop o t.marks k 0, add-suc o k)

  pub marked_next : (k n m w : ℕ) (r s : Bool) → o + n ≤ positions → k < n → r ≡ some_marked (part t.marks o k) v → s ≡ eqb m w → m ≡ mark t (o + k + 1) → w ≡ v
      → (s || r) ≡ some_marked (part t.marks o (k + 1)) v
  marked_next k n m w r s l h e c f g = rw (e, c, f, g, add-one k, add-one (o + k), ← add-suc o k) (sym (marked_more k (omega arith)))

-- of all positions
pub marked-any : (l : List ℕ) (v : ℕ) (r : Bool) → length l ≡ positions → r ≡ some_marked (part l 0 positions) v → r ≡ some_marked l v
marked-any l v r marked e = e ∙ ap (λ (l : List ℕ). some_marked l v) (take_all positions l (omega (arith, marked)))

-- ---- a set narrowed

module _ (t : Table) (marked : length t.marks ≡ positions) (o i q : ℕ) where
  abbrev T : ℕ
  T = (server t i).term

  -- where no position is marked it stays
  unmarked : (k : ℕ) → o + k ≤ positions → some_marked (part t.marks o k) T ≡ false → q ≡ narrowed_past o k t i q
  unfolding narrowed_past
  unmarked zero l e = refl
  unmarked (suc k) l e =
      let none = apart (eqb (mark t (o + suc k)) T) (some_marked (part t.marks o k) T) (sym (marked_more t marked o T k (omega arith)) ∙ e) in
      unmarked k (omega arith) none.1 ∙ rw none.0
    where
      apart : (a b : Bool) → (a || b) ≡ false → (a ≡ false) × (b ≡ false)
      apart true b e = absurd (let z : ◌≡◌ {A = ℕ} 0 1 = cc in omega arith)
      apart false b e = (refl, e)

  pub past-unmarked : (k : ℕ) (r : Bool) → o + k ≤ positions → r ≡ some_marked (part t.marks o k) T → not r ≡ true → q ≡ narrowed_past o k t i q
  past-unmarked k r l e h = unmarked k l (sym e ∙ not-true r h)

module _ (o : ℕ) (t : Table) (i q : ℕ) where
  pub past-none : q ≡ narrowed_past o 0 t i q
  unfolding narrowed_past
  past-none = refl

  pub past_next : (k m r : ℕ) → m ≡ narrowed_past o k t i q → r ≡ narrowed_at t i (o + k + 1) m → r ≡ narrowed_past o (k + 1) t i q
  unfolding narrowed_past
  past_next k m r e f = f ∙ rw (e, add-one k, add-one (o + k), ← add-suc o k)

-- ---- every marked position is held

module _ (t : Table) (i q : ℕ) where
  -- server s has i's term and holds what is marked with it at positions 1 to k
  abbrev holds_to : ℕ → ℕ → Bool
  holds_to k s = same_term t i s && holds_marked k t (server t i).term (server t s).log

  -- those of q
  pub record Holding (k m : ℕ) : Type 0 where
    pub are : m ≡ passing (count t) (holds_to k) q

  -- two tests that answer alike have one mask
  alike : (f g : ℕ → Bool) → ((s : ℕ) → f s ≡ g s) → passing (count t) f q ≡ passing (count t) g q
  alike f g e = ap (λ (h : ℕ → Bool). passing (count t) h q) (λ d s. e s d)

  pub holding-none : (m : ℕ) → m ≡ passing (count t) (same_term t i) q → Holding 0 m
  unfolding holds_marked
  holding-none m e = record { are = e ∙ alike (same_term t i) (holds_to 0) (λ s. sym (and-true (same_term t i s))) }

  holding-next : (k m r : ℕ) → Holding k m → r ≡ narrowed_at t i (k + 1) m → Holding (k + 1) r
  unfolding holds_marked
  holding-next k m r h e = record { are = e ∙ go (eqb (mark t (k + 1)) (server t i).term) refl }
    where
      before : ℕ → Bool
      before s = holds_marked k t (server t i).term (server t s).log

      here : ℕ → Bool
      here s = held (server t s).log (k + 1) (server t i).term

      more : (b : Bool) → eqb (mark t (k + 1)) (server t i).term ≡ b → (s : ℕ) → holds_to (k + 1) s ≡ (same_term t i s && ((not b || here s) && before s))
      more b f s = rw (← f, add-one)

      -- the term is asked of each supporter again
      once : (a b c : Bool) → (a && b && (a && c)) ≡ (a && (c && b))
      once true b c = and_comm b c
      once false b c = refl

      go : (b : Bool) → eqb (mark t (k + 1)) (server t i).term ≡ b → cond b (passing (count t) (supports_at t i (k + 1)) m) m ≡ passing (count t) (holds_to (k + 1)) q
      go true f =
          ap (passing (count t) (supports_at t i (k + 1))) h.are ∙ and_both (count t) q (holds_to k) (supports_at t i (k + 1))
          ∙ alike (λ s. holds_to k s && supports_at t i (k + 1) s) (holds_to (k + 1))
          (λ s. once (same_term t i s) (before s) (here s) ∙ sym (more true f s))
      go false f = h.are ∙ alike (holds_to k) (holds_to (k + 1)) (λ s. sym (more false f s))

  holding-more : (j k m : ℕ) → Holding k m → Holding (k + j) (narrowed_past k j t i m)
  unfolding narrowed_past
  holding-more zero k m h = rw (add-zero k) h
  holding-more (suc j) k m h =
      rw (add-suc k j, ← add-one) (holding-next (k + j) (narrowed_past k j t i m) _ (holding-more j k m h) (rw (add-one, ← add-suc k j)))

  pub holding-eight : (k m r : ℕ) → Holding (8 * k) m → r ≡ narrowed_past (8 * k) 8 t i m → Holding (8 * (k + 1)) r
  holding-eight k m r h e = let next : 8 * (k + 1) ≡ 8 * k + 8 = omega arith in rw (next, e) (holding-more 8 (8 * k) m h)
