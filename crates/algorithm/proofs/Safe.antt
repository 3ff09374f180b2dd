-- The invariants together: a fresh table has them, and every step keeps them. Assumes nothing.
use Prim.Native.Nat.{ℕ, zero, suc}
use mathlib.Core.List.{List, []}
use mathlib.Core.Logic.{inl, inr, ⊎_elim}
use mathlib.Core.Path.{◌≡◌, refl, ap}
use native.Mathlib.Omega.{arith}
use lib.ListN.{length, get_or, replicate}
use Rattle.words.specs.Lists.{nth}
use Rattle.algorithm.specs.Table.{server, mark, with_log, positions, fresh}
use Rattle.algorithm.specs.Run.{Written}
use Rattle.algorithm.proofs.Logless as logless
use Rattle.algorithm.proofs.Logless.{core, Fresh}
use Rattle.algorithm.proofs.Logs.{HasEntry}
use Rattle.algorithm.proofs.Invariant.{Inv}
use Rattle.algorithm.proofs.Steps.{inv-after}
use Rattle.algorithm.proofs.Elections.{inv-fresh}
use Rattle.algorithm.proofs.Full.{View, Marked, Action, config, write, fetch, roll-back, commit, OnLogs, Allowed, after, LogMoves, none, then, Moves, sets, logs}
use Rattle.algorithm.proofs.Seen.{view, server-fresh}
use Rattle.algorithm.proofs.LogInvariant.{LogInv}
use Rattle.algorithm.proofs.Safety.{logs-after}

pub record Safe (v : View) : Type 0 where
  pub configs : Inv v.core
  pub logs : LogInv v.core v.log (Marked v.mark)

-- ---- a fresh table

module _ (n M R F : ℕ) where
  pub core-fresh : Fresh M (core (fresh n M R F))
  core-fresh k = ⊎_elim (λ e. inl (ap (with_log []) e)) (λ e. inr (ap (with_log []) e)) (server-fresh n M R F k)

  pub no-entry : (k : ℕ) {p u : ℕ} → HasEntry (server (fresh n M R F) k).log p u → ⊥
  no-entry k h =
      let e : length (server (fresh n M R F) k).log ≡ 0 = ⊎_elim (λ e. ap (λ s. length s.log) e) (λ e. ap (λ s. length s.log) e) (server-fresh n M R F k) in
      omega (arith, h.some, h.within)

  pub no-mark : {p u : ℕ} → Marked (mark (fresh n M R F)) p u → ⊥
  unfolding nth
  no-mark {p} m = omega (arith, m.is, m.positive, unmarked p)
    where
      repeated : (d k p : ℕ) → get_or (replicate k d) p d ≡ d
      repeated d zero p = refl
      repeated d (suc k) zero = refl
      repeated d (suc k) (suc p) = repeated d k p

      unmarked : (p : ℕ) → mark (fresh n M R F) p ≡ 0
      unmarked zero = refl
      unmarked (suc p) = repeated 0 positions p

  pub safe-fresh : Safe (view (fresh n M R F))
  safe-fresh = record {
    configs = inv-fresh core-fresh;
    logs = record {
      agree = λ {m} h _ _. absurd (no-entry m h);
      sorted = λ {n} h _ _. absurd (no-entry n h);
      known = λ {n} h. absurd (no-entry n h);
      marked = λ m. absurd (no-mark m);
      complete = λ {n} h _ _. absurd (no-entry n h);
      leads = λ {i} l. record {
        entries = λ {n} h. absurd (no-entry n h);
        bounded = λ h. absurd (no-entry i h);
        complete = λ m _. absurd (no-mark m);
      };
      committed = λ _ _ m. absurd (no-mark m);
    };
  }

-- ---- a step

-- actions on logs and marks leave the rest as it is
core-stays : {v v' : View} {ws : List Written} → LogMoves v v' ws → v'.core ≡ v.core
core-stays none = refl
core-stays (then {v = v} {ws = ws} (config _) o can more) = elim o [ ]
core-stays (then (write i B) o can more) = core-stays more
core-stays (then (fetch i j) o can more) = core-stays more
core-stays (then (roll-back i j) o can more) = core-stays more
core-stays (then (commit i q) o can more) = core-stays more

-- with logs and marks left out, a step is one of the algorithm without them
pub projects : {v v' : View} {ts : List ℕ} {ws : List Written} → Moves v v' ts ws → logless.Move v.core v'.core ts
projects (sets a (can, _)) = logless.takes a can
projects {v} (logs m) = rw (core-stays m) logless.rests

safe-after : {v : View} (a : Action) → Allowed v a → Inv (after v a).core → Safe v → Safe (after v a)
safe-after {v} a can inv safe = record { configs = inv; logs = logs-after v safe.configs safe.logs a can }

pub safe-log : {v : View} (a : Action) → OnLogs a → Allowed v a → Safe v → Safe (after v a)
safe-log a o can safe = safe-after a can (rw (core-stays (then a o can none)) safe.configs) safe

safe-logs : {v v' : View} {ws : List Written} → LogMoves v v' ws → Safe v → Safe v'
safe-logs none safe = safe
safe-logs (then a o can more) safe = safe-logs more (safe-log a o can safe)

pub safe-moves : {v v' : View} {ts : List ℕ} {ws : List Written} → Moves v v' ts ws → Safe v → Safe v'
safe-moves (sets a can) safe = safe-after (config a) can (inv-after safe.configs a can.0) safe
safe-moves (logs m) safe = safe-logs m safe
