-- Where the invariants hold, no action is refused with 24. Assumes nothing.
use Prim.Native.Nat.{ℕ}
use mathlib.Core.Bool.{Bool, true, false, not, ◌||◌, ◌&&◌}
use mathlib.Core.List.{List, [], ◌∷◌, append-nil}
use mathlib.Core.Logic.{◌≢◌}
use mathlib.Core.Path.{◌≡◌, refl}
use native.Mathlib.Decide.{ℕ_discrete}
use native.Mathlib.Omega.{arith}
use lib.Dec.{T, eqb}
use lib.ListN.{length}
use Rattle.words.specs.Lists.{every}
use Rattle.words.specs.Refusal.{Refusal, refuse, first}
use Rattle.words.proofs.Tests.{Passes, first_of, second-of, is-equal}
use Rattle.words.proofs.RefusalLaws.{lacks, first-later}
use Rattle.algorithm.specs.Table.{Table, count, server, mark}
use Rattle.algorithm.specs.Bytes.{Action, unknown, elect, reconfigure, send, spread, write, fetch, roll_back, commit, stretch, action_of}
use Rattle.algorithm.specs.Actions.{marked_otherwise, entry_refusals}
use Rattle.algorithm.specs.Run.{common_refusals, own_refusals, refusals, step}
use Rattle.algorithm.proofs.Refusals.{Fits, common-fit}
use Rattle.algorithm.proofs.Full.{CanCommit}
use Rattle.algorithm.proofs.Safety.{marked-so}
use Rattle.algorithm.proofs.Seen.{view}
use Rattle.algorithm.proofs.Taken.{can-commit}
use Rattle.algorithm.proofs.Safe.{Safe}

-- a list without the number does not give it
unnumbered : (rs : List Refusal) → T (lacks 24 rs) → first rs ≡ 24 → ⊥
unfolding first
unnumbered rs h z = omega (arith, (first-later 24 rs [] h (rw append-nil z)).1)

-- the position of a commit is free, or marked with the same term, so that the last refusal of a commit does not hold
not_last : (t : Table) → Safe (view t) → (i q : ℕ) → CanCommit (view t) i q → first (refuse 24 (marked_otherwise t i) ∷ []) ≡ 24 → ⊥
unfolding first
not_last t safe i q can z = go (eqb u 0) (eqb u (server t i).term) (free-or-same (ℕ_discrete u 0)) z
  where
    u : ℕ
    u = mark t (length (server t i).log)

    free-or-same : Dec (u ≡ 0) → Passes (eqb u 0 || eqb u (server t i).term)
    free-or-same (yes z) = first_of _ (is-equal z)
    free-or-same (no z) =
        second-of (eqb u 0) (is-equal (marked-so (view t) safe.configs safe.logs i q can (record { is = refl; positive = omega arith })))

    go : (a b : Bool) → Passes (a || b) → first (refuse 24 (not a && not b) ∷ []) ≡ 24 → ⊥
    go true b h z = omega arith
    go false true h z = omega arith
    go false false h z = absurd h.yes

module _ (t : Table) (safe : Safe (view t)) where
  -- 24 is the last that a commit looks at, and no other kind looks at it
  own-24 : (a : Action) → Fits (count t) a → first (own_refusals t a) ≡ 24 → ⊥
  unfolding every
  own-24 unknown fit z = unnumbered (own_refusals t unknown) tt z
  own-24 (elect i q) fit z = unnumbered (own_refusals t (elect i q)) tt z
  own-24 (reconfigure i m) fit z = unnumbered (own_refusals t (reconfigure i m)) tt z
  own-24 (send i j) fit z = unnumbered (own_refusals t (send i j)) tt z
  own-24 (spread i j) fit z = unnumbered (own_refusals t (spread i j)) tt z
  own-24 (write i B) fit z = unnumbered (own_refusals t (write i B)) tt z
  own-24 (fetch i j) fit z = unnumbered (own_refusals t (fetch i j)) tt z
  own-24 (roll_back i j) fit z = unnumbered (own_refusals t (roll_back i j)) tt z
  own-24 (stretch i j c) fit z = unnumbered (own_refusals t (stretch i j c)) tt z
  own-24 (commit i q) fit z =
      let (none, last) = first-later 24 (entry_refusals t i q) (refuse 24 (marked_otherwise t i) ∷ []) tt z in
      not_last t safe i q (can-commit t i q fit.1 none) last

  pub step-not-24 : (a : List ℕ) → (step t a).number ≢ 24
  unfolding step refusals every
  step-not-24 a z =
      let (form, own) = first-later 24 (common_refusals t a) (own_refusals t (action_of a)) tt z in
      own-24 (action_of a) (common-fit t a form).1 own
