-- What a step does where no refusal holds, and where one does. Assumes nothing.
use Prim.Native.Nat.{ℕ, zero, suc, ◌≤◌, ◌<◌}
use mathlib.Core.Bool.{Bool, true, false, cond, not, ◌||◌, ◌&&◌}
use mathlib.Core.List.{List, [], ◌++◌, append-nil}
use mathlib.Core.Logic.{◌⊎◌, inl, inr, ⊎_elim}
use mathlib.Core.Path.{◌≡◌, refl, sym, subst}
use native.Mathlib.Decide.{ℕ_discrete}
use native.Mathlib.Omega.{arith}
use lib.Dec.{T, eqb}
use lib.ListN.{get_or, drop}
use borrow.Author.Tests.{eqb-true, eqb-false}
use Rattle.members.specs.Members.{within}
use Rattle.words.proofs.RefusalLaws.{NoneHold, lacks, first-later, none-hold, in_order, EachHeld, each_map, given-each, given-none, given-held}
use Rattle.words.proofs.Tests.{Passes, Fails, neither, refuted, both-refuted}
use Rattle.algorithm.specs.Table.{Table, count, broken, positions, largest_bake}
use Rattle.words.specs.Lists.{every, between}
use Rattle.words.specs.Refusal.{nothing, Refusal, first, Answer, answer, given, first_shown}
use Rattle.algorithm.specs.Bytes.{Action, unknown, elect, reconfigure, send, spread, write, fetch, roll_back, commit, kinds, kind_of, i_of, j_of, set_of, bake_of, uses_set, uses_j, action_of, stretch, set_fits}
use Rattle.algorithm.specs.Run.{known, common_refusals, own_refusals, order, refusals, after, taken_shown, answered, step, wins, brought_by, writes}

-- ---- the numbers of an action's refusals

-- none is 0, and they stand in the order of refusals, behind the five that all kinds share
own-numbers : (t : Table) (a : Action) → T (lacks 0 (own_refusals t a)) × T (in_order (drop 5 order) (own_refusals t a))
unfolding every in_order
own-numbers t unknown = (tt, tt)
own-numbers t (elect i q) = (tt, tt)
own-numbers t (reconfigure i m) = (tt, tt)
own-numbers t (send i j) = (tt, tt)
own-numbers t (spread i j) = (tt, tt)
own-numbers t (write i B) = (tt, tt)
own-numbers t (fetch i j) = (tt, tt)
own-numbers t (roll_back i j) = (tt, tt)
own-numbers t (commit i q) = (tt, tt)
own-numbers t (stretch i j c) = (tt, tt)

-- where none of them holds, nothing is shown
pub none-given : (t : Table) (a : Action) → first (own_refusals t a) ≡ 0 → given (own_refusals t a) ≡ answer 0 nothing
unfolding first first_shown
none-given t a e = rw append-nil at (given-none (own_refusals t a) [] (own-numbers t a).0 e)

-- the refusals of an action stand in that order, so that the first that holds is the lowest, but that 25 comes before 14 to 24
pub lowest-first : (t : Table) (a : List ℕ) → T (in_order order (refusals t a))
unfolding in_order refusals
lowest-first t a = (own-numbers t (action_of a)).1

-- ---- an action whose servers and set are those of a table of n servers

-- its servers are known, its set is within n, its count one that a log can have and its bake one that an entry can have, as far as its kind uses them
abbrev pub Fits : ℕ → Action → Type 0
Fits n unknown = Unit {0}
Fits n (elect i q) = Passes (known n i) × Passes (within q n)
Fits n (reconfigure i m) = Passes (known n i) × Passes (within m n)
Fits n (send i j) = Passes (known n i) × Passes (known n j)
Fits n (spread i j) = Passes (known n i) × Passes (known n j)
Fits n (write i B) = Passes (known n i) × (B ≤ largest_bake)
Fits n (fetch i j) = Passes (known n i) × Passes (known n j)
Fits n (roll_back i j) = Passes (known n i) × Passes (known n j)
Fits n (commit i q) = Passes (known n i) × Passes (within q n)
Fits n (stretch i j c) = (Passes (known n i) × Passes (known n j)) × Passes (between 1 positions c)

fits : (n k i j m : ℕ) {B : ℕ} → B ≤ largest_bake → Fails (not (known n i) || uses_j k && not (known n j)) → Fails (uses_set k && not (set_fits n k m))
    → Fits n (get_or (kinds i j m B) k unknown)
fits n zero i j m w a b = tt
fits n (suc zero) i j m w a b = (refuted (neither a).0, refuted b)
fits n (suc (suc zero)) i j m w a b = (refuted (neither a).0, refuted b)
fits n (suc (suc (suc zero))) i j m w a b = both-refuted a
fits n (suc (suc (suc (suc zero)))) i j m w a b = both-refuted a
fits n (suc (suc (suc (suc (suc zero))))) i j m w a b = (refuted (neither a).0, w)
fits n (suc (suc (suc (suc (suc (suc zero)))))) i j m w a b = both-refuted a
fits n (suc (suc (suc (suc (suc (suc (suc zero))))))) i j m w a b = both-refuted a
fits n (suc (suc (suc (suc (suc (suc (suc (suc zero)))))))) i j m w a b = (refuted (neither a).0, refuted b)
fits n (suc (suc (suc (suc (suc (suc (suc (suc (suc zero))))))))) i j m w a b = (both-refuted a, refuted b)
fits n (suc (suc (suc (suc (suc (suc (suc (suc (suc (suc k)))))))))) i j m w a b = tt

-- ---- a step

-- a taken action: the table keeps the rules, the action fits it, and no refusal of its kind holds
pub record Taken (t : Table) (a : Action) : Type 0 where
  pub sound : Fails (broken t)
  pub fit : Fits (count t) a
  pub own : NoneHold (own_refusals t a)

-- 1 to 5 do not hold: the table keeps the rules, and the action fits it
pub common-fit : (t : Table) (a : List ℕ) → NoneHold (common_refusals t a) → Fails (broken t) × Fits (count t) (action_of a)
common-fit t a none = (none 1, fits (count t) (kind_of a) (i_of a) (j_of a) (set_of a) {B = bake_of a} (omega arith) (none 4) (none 5))

-- an action that gets 0 is taken
pub taken : (t : Table) (a : List ℕ) → first (refusals t a) ≡ 0 → Taken t (action_of a)
unfolding refusals every
taken t a e =
    let (form, later) = first-later 0 (common_refusals t a) (own_refusals t (action_of a)) tt e in
    let (sound, fit) = common-fit t a form in
    record { sound = sound; fit = fit; own = none-hold (own_refusals t (action_of a)) (own-numbers t (action_of a)).0 later }

-- a step that is taken gives the table after its action
pub record Done (t : Table) (a : List ℕ) : Type 0 where
  pub taken : Taken t (action_of a)
  pub number : (step t a).number ≡ 0
  pub table : (step t a).table ≡ after t (action_of a)
  pub won : brought_by wins t a ≡ wins t (action_of a)
  pub wrote : brought_by writes t a ≡ writes t (action_of a)

-- a step that is not taken leaves the table
pub record Rested (t : Table) (a : List ℕ) : Type 0 where
  pub table : (step t a).table ≡ t
  pub won : brought_by wins t a ≡ []
  pub wrote : brought_by writes t a ≡ []

-- every step is one or the other
pub outcome : (t : Table) (a : List ℕ) → Done t a ⊎ Rested t a
unfolding step brought_by
outcome t a = go (eqb (first (refusals t a)) 0) refl
  where
    go : (b : Bool) → eqb (first (refusals t a)) 0 ≡ b → Done t a ⊎ Rested t a
    go true e = inl (record { taken = taken t a (eqb-true _ _ e); number = eqb-true _ _ e; table = rw e; won = rw e; wrote = rw e })
    go false e = inr (record { table = rw e; won = rw e; wrote = rw e })

-- a refused step leaves the table as it was
pub refused-stays : (t : Table) (a : List ℕ) → 0 < (step t a).number → (step t a).table ≡ t
refused-stays t a h = ⊎_elim (λ d. absurd (omega (arith, d.number))) (λ r. r.table) (outcome t a)

-- ---- what is said of each refusal is said of the answer

-- P is said of what a taken action shows, of 1 to 5 where they hold, and, for an action that fits a table that keeps the rules, of its kind's own
pub step-each : (P : Answer → Type 0) (t : Table) (a : List ℕ) → (Taken t (action_of a) → P (answer 0 (taken_shown t (action_of a))))
    → EachHeld P (common_refusals t a) → (Fails (broken t) → Fits (count t) (action_of a) → EachHeld P (own_refusals t (action_of a)))
    → P (answered (step t a))
unfolding step refusals every
step-each P t a none common own = go (eqb (first (refusals t a)) 0) refl
  where
    of : (rs : List Refusal) → EachHeld P rs → ((first rs ≡ 0 → ⊥) → P (given rs))
    of rs each = given-each (λ x. (x.number ≡ 0 → ⊥) → P x) rs (λ n. absurd (n refl)) (each_map {P = P} {R = λ x. (x.number ≡ 0 → ⊥) → P x} rs (λ x h _. h) each)

    held : Dec (first (common_refusals t a) ≡ 0) → (first (common_refusals t a ++ own_refusals t (action_of a)) ≡ 0 → ⊥) → P (given (common_refusals t a ++ own_refusals t (action_of a)))
    held (yes e) =
        let (sound, fit) = common-fit t a (none-hold (common_refusals t a) tt e) in
        subst (λ (x : Answer). (x.number ≡ 0 → ⊥) → P x) (sym (given-none (common_refusals t a) (own_refusals t (action_of a)) tt e))
        (of (own_refusals t (action_of a)) (own sound fit))
    held (no n) =
        subst (λ (x : Answer). (x.number ≡ 0 → ⊥) → P x) (sym (given-held (common_refusals t a) (own_refusals t (action_of a)) n))
        (of (common_refusals t a) common)

    go : (b : Bool) → eqb (first (refusals t a)) 0 ≡ b
        → P (answer (first (refusals t a)) (cond b (taken_shown t (action_of a)) (first_shown (refusals t a))))
    go true e = let z : first (refusals t a) ≡ 0 = eqb-true _ _ e in rw z (none (taken t a z))
    go false e = held (ℕ_discrete (first (common_refusals t a)) 0) (λ z. eqb-false _ _ e z)
