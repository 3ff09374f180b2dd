-- What a list of refusals says by the first that holds, and how a judge's tests give that one. Assumes nothing.
use Prim.Native.Nat.{ℕ}
use mathlib.Core.Bool.{Bool, true, false, cond, not, ◌||◌}
use mathlib.Core.List.{List, [], ◌∷◌, ◌++◌, append-nil, map}
use mathlib.Core.Path.{◌≡◌, refl, sym, ap, ap₂, ◌∙◌}
use lib.Dec.{T, eqb}
use borrow.Author.Rules.{rules}
use mir.Facts.{and_yes, eqb_no}
use Rattle.words.specs.Lists.{every}
use Rattle.words.specs.Refusal.{Shown, nothing, Refusal, refuse_showing, refuse, first, first_shown, Answer, answer, given, holds_in}
use Rattle.words.proofs.Tests.{Passes, Fails, false-fails, and-told}
use Rattle.words.proofs.Choice.{cond-elim}
use Rattle.words.proofs.Lists.{every-cons}

-- ---- a list of refusals, read by their numbers

-- none of them holds, whatever its number
abbrev pub NoneHold : List Refusal → Type 0
NoneHold rs = (k : ℕ) → Fails (holds_in k rs)

-- none of them has the number k
abbrev pub lacks : ℕ → List Refusal → Bool
lacks k rs = every (λ r. not (eqb r.number k)) rs

-- a refusal that fails before some of which none holds
pub one_more : (r : Refusal) (rs : List Refusal) → Fails r.holds → NoneHold rs → NoneHold (r ∷ rs)
one_more r rs h f k = cond-elim Fails (eqb r.number k) (λ _. h) (λ _. f k)

-- if k is given, and no refusal of the first list has that number, none of them holds
pub first-later : (k : ℕ) (rs later : List Refusal) → T (lacks k rs) → first (rs ++ later) ≡ k → NoneHold rs × (first later ≡ k)
unfolding first every
first-later k [] later p e = (λ _. record { no = tt }, e)
first-later k (r ∷ rs) later p e =
    let (here, others) = and_yes (not (eqb r.number k)) (lacks k rs) p in
    go r.holds refl here (first-later k rs later others) e
  where
    go : (b : Bool) → r.holds ≡ b → T (not (eqb r.number k)) → (first (rs ++ later) ≡ k → NoneHold rs × (first later ≡ k))
        → cond b r.number (first (rs ++ later)) ≡ k → NoneHold (r ∷ rs) × (first later ≡ k)
    go true f here rest z = absurd (eqb_no here z)
    go false f here rest z = let (n, l) = rest z in (one_more r rs (false-fails f) n, l)

-- where 0 is given, and is no refusal's number, none holds
pub none-hold : (rs : List Refusal) → T (lacks 0 rs) → first rs ≡ 0 → NoneHold rs
none-hold rs p e = (first-later 0 rs [] p (rw append-nil e)).0

fails-before : (k : ℕ) (xs ys : List Refusal) → Fails (holds_in k (xs ++ ys)) → Fails (holds_in k xs)
fails-before k [] ys h = record { no = tt }
fails-before k (r ∷ xs) ys h = go (eqb r.number k) (fails-before k xs ys) h
  where
    go : (b : Bool) → (Fails (holds_in k (xs ++ ys)) → Fails (holds_in k xs)) → Fails (cond b r.holds (holds_in k (xs ++ ys)))
        → Fails (cond b r.holds (holds_in k xs))
    go true rest h = h
    go false rest h = rest h

-- where none of two lists holds, none of the first does
pub none_before : (xs ys : List Refusal) → NoneHold (xs ++ ys) → NoneHold xs
none_before xs ys none k = fails-before k xs ys (none k)

-- ---- what two lists give

pub given-held : (xs ys : List Refusal) → (first xs ≡ 0 → ⊥) → given (xs ++ ys) ≡ given xs
unfolding first first_shown
given-held [] ys h = absurd (h refl)
given-held (r ∷ xs) ys h = go r.holds h (given-held xs ys)
  where
    go : (b : Bool) → (cond b r.number (first xs) ≡ 0 → ⊥) → ((first xs ≡ 0 → ⊥) → given (xs ++ ys) ≡ given xs)
        → answer (cond b r.number (first (xs ++ ys))) (cond b r.shows (first_shown (xs ++ ys))) ≡ answer (cond b r.number (first xs)) (cond b r.shows (first_shown xs))
    go true h rest = refl
    go false h rest = rest h

pub given-none : (xs ys : List Refusal) → T (lacks 0 xs) → first xs ≡ 0 → given (xs ++ ys) ≡ given ys
unfolding first first_shown every
given-none [] ys p e = refl
given-none (r ∷ xs) ys p e =
    let (here, later) = and_yes (not (eqb r.number 0)) (lacks 0 xs) p in
    go r.holds here e (given-none xs ys later)
  where
    go : (b : Bool) → T (not (eqb r.number 0)) → cond b r.number (first xs) ≡ 0 → (first xs ≡ 0 → given (xs ++ ys) ≡ given ys)
        → answer (cond b r.number (first (xs ++ ys))) (cond b r.shows (first_shown (xs ++ ys))) ≡ given ys
    go true here e rest = absurd (eqb_no here e)
    go false here e rest = rest e

-- ---- refusals that show nothing

-- the same refusals, each showing nothing; a list that is written out with `refuse` is its own
abbrev pub quiet : List Refusal → List Refusal
quiet rs = map (λ r. refuse r.number r.holds) rs

pub quiet-shown : (rs : List Refusal) → first_shown (quiet rs) ≡ nothing
unfolding first_shown
quiet-shown [] = refl
quiet-shown (r ∷ rs) = cond-elim (λ (s : Shown). s ≡ nothing) r.holds (λ _. refl) (λ _. quiet-shown rs)

-- ---- what is said of each is said of what is given

-- P is said of each refusal that holds
abbrev pub EachHeld : (Answer → Type 0) → List Refusal → Type 0
EachHeld P [] = Unit {0}
EachHeld P (r ∷ rs) = (Passes r.holds → P (answer r.number r.shows)) × EachHeld P rs

-- P is said of each answer that shows nothing and whose number passes a test: so it is of quiet refusals with such numbers
pub quiet_each : (P : Answer → Type 0) (test : ℕ → Bool) → ((k : ℕ) → Passes (test k) → P (answer k nothing)) → (rs : List Refusal)
    → T (every (λ r. test r.number) rs) → EachHeld P (quiet rs)
quiet_each P test each [] h = tt
quiet_each P test each (r ∷ rs) h =
    let (here, rest) = every-cons (λ r. test r.number) r rs (record { yes = h }) in
    (λ _. each r.number here, quiet_each P test each rs rest.yes)

pub each_append : (P : Answer → Type 0) (xs ys : List Refusal) → EachHeld P xs → EachHeld P ys → EachHeld P (xs ++ ys)
each_append P [] ys e f = f
each_append P (r ∷ xs) ys (h, e) f = (h, each_append P xs ys e f)

pub each_map : {P R : Answer → Type 0} (rs : List Refusal) → ((x : Answer) → P x → R x) → EachHeld P rs → EachHeld R rs
each_map [] f e = tt
each_map (r ∷ rs) f (h, e) = (λ p. f (answer r.number r.shows) (h p), each_map rs f e)

pub given-each : (P : Answer → Type 0) (rs : List Refusal) → P (answer 0 nothing) → EachHeld P rs → P (given rs)
unfolding first first_shown
given-each P [] none e = none
given-each P (r ∷ rs) none (h, e) = go r.holds h (given-each P rs none e)
  where
    go : (b : Bool) → (Passes b → P (answer r.number r.shows)) → P (given rs)
        → P (answer (cond b r.number (first rs)) (cond b r.shows (first_shown rs)))
    go true h rest = h (record { yes = tt })
    go false h rest = rest

-- ---- their order

-- the refusals have numbers of the list, and stand in its order
unfoldable pub in_order : List ℕ → List Refusal → Bool
in_order ks [] = true
in_order [] (r ∷ rs) = false
in_order (k ∷ ks) (r ∷ rs) = cond (eqb k r.number) (in_order ks rs) (in_order ks (r ∷ rs))

-- ---- a judge's tests

pub none : 0 ≡ first []
unfolding first
none = refl

-- r is the code's answer to the first refusal's test
module _ (k : ℕ) (b : Bool) (s : Shown) (rs : List Refusal) (r : Bool) (e : r ≡ b) where
  pub given-hit : r ≡ true → given (refuse_showing k b s ∷ rs) ≡ answer k s
  unfolding first first_shown
  given-hit o = rw (sym e ∙ o)

  pub given-miss : r ≡ false → given (refuse_showing k b s ∷ rs) ≡ given rs
  unfolding first first_shown
  given-miss o = rw (sym e ∙ o)

-- the same of the number alone
module _ (k : ℕ) (b : Bool) (rs : List Refusal) (r : Bool) (e : r ≡ b) where
  pub hit : r ≡ true → k ≡ first (refuse k b ∷ rs)
  hit o = sym (ap (λ (a : Answer). a.number) (given-hit k b nothing rs r e o))

  pub miss : (m : ℕ) → r ≡ false → m ≡ first rs → m ≡ first (refuse k b ∷ rs)
  miss m o f = f ∙ sym (ap (λ (a : Answer). a.number) (given-miss k b nothing rs r e o))

-- an answer that the code has turned round, or joined to another
pub turned : (r b : Bool) → r ≡ b → not r ≡ not b
turned r b e = ap not e

pub either : (r s a b : Bool) → r ≡ a → s ≡ b → (r || s) ≡ (a || b)
either r s a b e f = ap₂ ◌||◌ e f

-- what finds the first refusal from a judge's tests
pub ruleset judging = (rules, none, hit, miss, turned, and-told, either)
