-- From a fresh state the invariant holds, and the terms won by elections rise. Assumes nothing.
use Prim.Native.Nat.{ℕ, ◌+◌}
use mathlib.Core.List.{List, ◌++◌}
use mathlib.Core.Logic.{◌⊎◌, inl, inr, ⊎_elim}
use mathlib.Core.Path.{◌≡◌, ap, ◌∙◌, sym}
use native.Mathlib.Omega.{arith}
use Rattle.members.specs.Members.{Majority}
use Rattle.members.proofs.Masks.{member-some}
use Rattle.members.proofs.Majorities.{same_set}
use Rattle.algorithm.specs.Table.{Config, fresh_server, absent}
use Rattle.algorithm.specs.Actions.{winner}
use Rattle.algorithm.specs.Run.{Rising}
use Rattle.algorithm.proofs.Logless.{State, elect, reconfigure, send, spread, after, voted, Move, rests, takes, Moves, none, then, Fresh}
use Rattle.words.proofs.Choice.{put_same}
use Rattle.algorithm.proofs.Invariant.{Reaches, Has, here, Leads, Active, Inv}
use Rattle.algorithm.proofs.Steps.{step, inv-after, election-new}

-- ---- a fresh state

no-majority : (q : ℕ) → Majority q 0 → ⊥
no-majority q x = let (s, m, _) = same_set 0 q q x x in omega (arith, member-some s 0 (x.inside s m))

module _ {M : ℕ} {s : State} (is-fresh : Fresh M s) where
  no-primary : {i : ℕ} {C : Config} → Leads s i C → ⊥
  no-primary {i} l =
      ⊎_elim (λ e. omega (arith, ap (λ a. a.role) e, l.primary)) (λ e. omega (arith, ap (λ a. a.role) e, l.primary)) (is-fresh i)

  -- the fresh servers' configuration, or that of a server which is not there
  abbrev Kind : Config → Type 0
  Kind C = (C ≡ (fresh_server M).config) ⊎ (C ≡ absent.config)

  kind : {C : Config} → Has s C → Kind C
  kind h = ⊎_elim (λ e. inl (sym h.is ∙ ap (λ a. a.config) e)) (λ e. inr (sym h.is ∙ ap (λ a. a.config) e)) (is-fresh h.at)

  same : {C D : Config} → Kind C → Kind D → C.version ≡ D.version → C.set ≡ D.set
  same (inl c) (inl d) v = cc
  same (inl c) (inr d) v = absurd (omega (arith, ap (λ a. a.version) c, ap (λ a. a.version) d))
  same (inr c) (inl d) v = absurd (omega (arith, ap (λ a. a.version) c, ap (λ a. a.version) d))
  same (inr c) (inr d) v = cc

  full : {C : Config} → Kind C → Active s C → C.set ≡ M
  full (inl c) a = ap (λ a. a.set) c
  full {C} (inr c) a = let e : C.set ≡ 0 = ap (λ a. a.set) c in absurd (no-majority a.by (rw e at a.majority))

  zero-term : {C : Config} → Kind C → C.term ≡ 0
  zero-term (inl c) = ap (λ a. a.term) c
  zero-term (inr c) = ap (λ a. a.term) c

  pub inv-fresh : Inv s
  inv-fresh = record {
    own = λ l. absurd (no-primary l);
    sole = λ l _ _. absurd (no-primary l);
    newest = λ l _ _. absurd (no-primary l);
    same = λ c d _ v. same (kind c) (kind d) v;
    meet = λ c d a b. rw (full (kind c) a, full (kind d) b) (same_set M);
    heard = λ {C} c a d q x. let (n, m, _) = same_set C.set q q x x in (n, m, omega (arith, zero-term (kind d)));
    left = λ l _ _. absurd (no-primary l);
  }

-- ---- the terms won

pub inv-move : {s s' : State} {ts : List ℕ} → Move s s' ts → Inv s → Inv s'
inv-move rests inv = inv
inv-move (takes a can) inv = inv-after inv a can

elected : (s : State) (i q : ℕ) → Reaches (after s (elect i q)) ((s i).term + 1)
elected s i q = (i, omega (arith, ap (λ a. a.config.term) (put_same (voted s q ((s i).term + 1)) i (winner ((s i).term + 1) (s i)))))

reaches-move : {s s' : State} {ts : List ℕ} {b : ℕ} → Move s s' ts → Inv s → Reaches s b → Reaches s' b
reaches-move rests inv r = r
reaches-move (takes a can) inv (n, h) = (n, omega (arith, (step inv a can n).config.0))

rising-move : {s s' : State} {ts : List ℕ} {b : ℕ} (us : List ℕ) → Move s s' ts → Inv s → Reaches s b
    → ((d : ℕ) → Reaches s' d → Rising d us) → Rising b (ts ++ us)
rising-move {b} us rests inv r later = later b r
rising-move {s} us (takes (elect i q) can) inv (n, h) later =
    (omega (arith, election-new inv i q can (here s n)), later ((s i).term + 1) (elected s i q))
rising-move {b} us (takes (reconfigure i m) can) inv r later = later b (reaches-move (takes (reconfigure i m) can) inv r)
rising-move {b} us (takes (send i j) can) inv r later = later b (reaches-move (takes (send i j) can) inv r)
rising-move {b} us (takes (spread i j) can) inv r later = later b (reaches-move (takes (spread i j) can) inv r)

rising : {s s' : State} {ts : List ℕ} (b : ℕ) → Moves s s' ts → Inv s → Reaches s b → Rising b ts
rising b none inv r = tt
rising b (then {us = us} m rest) inv r = rising-move us m inv r (λ d reached. rising d rest (inv-move m inv) reached)

-- without logs, from a fresh state: the terms won rise, so that no term is won by two elections
pub wins-rise : {M : ℕ} {s s' : State} {ts : List ℕ} → Fresh M s → Moves s s' ts → Rising 0 ts
wins-rise f m = rising 0 m (inv-fresh f) (0, omega arith)
