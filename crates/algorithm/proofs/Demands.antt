-- Demand 3, of every run from a fresh table, and what is proved beside it. Nothing is asked of n, M, R, F and the plan: n, M, R and F are
-- any numbers, every n from 1 to 16, every set within n, both rules and every floor among them, and a plan is any list of numbers. Assumes nothing.
use Prim.Native.Nat.{ℕ, zero, suc, ◌≤◌, ◌<◌}
use mathlib.Core.List.{List, [], ◌∷◌, ◌++◌, append-nil, append_assoc}
use mathlib.Core.Logic.{◌≢◌}
use mathlib.Core.Path.{◌≡◌, refl, sym, ◌∙◌}
use native.Mathlib.Omega.{arith}
use lib.Dec.{T}
use lib.ListN.{get_or}
use mir.Facts.{eqb_yes}
use Rattle.words.specs.Lists.{nth}
use Rattle.algorithm.specs.Table.{Table, server, primary, entry_at, term_at, bake_at, mark, fresh, held}
use Rattle.algorithm.specs.Run.{numbers, step, pieces, play, run_to, wins, brought_by, along, won_along, Rising, Written, writes, bakes_given}
use Rattle.algorithm.proofs.Logless as logless
use Rattle.algorithm.proofs.Logless.{core, Moves, none, then}
use Rattle.algorithm.proofs.Logs.{HasEntry}
use Rattle.algorithm.proofs.Invariant.{Leads}
use Rattle.algorithm.proofs.Elections.{wins-rise}
use Rattle.algorithm.proofs.Seen.{view}
use Rattle.algorithm.proofs.Taken.{held-is, is_held, moves}
use Rattle.algorithm.proofs.Runs.{play-keeps}
use Rattle.algorithm.proofs.Safe.{Safe, safe-fresh, core-fresh, projects, safe-moves}
use Rattle.algorithm.proofs.Bakes.{Traced, traced-moves, traced-fresh}
use Rattle.algorithm.proofs.Commit.{step-not-24}

-- ---- any table

-- a step with logs and marks left out is a step of the algorithm without them: a taken action of kinds 1 to 4, or no change
pub logless-step : (t : Table) (a : List ℕ) → logless.Move (core t) (core (step t a).table) (brought_by wins t a)
logless-step t a = projects (moves t a)

logless-play : (t : Table) (p : List (List ℕ)) → Moves (core t) (core (play t p).table) (won_along t p)
unfolding play along
logless-play t [] = none
logless-play t (a ∷ p) = then (logless-step t a) (logless-play (step t a).table p)

safe-step : (t : Table) (a : List ℕ) → Safe (view t) → Safe (view (step t a).table)
safe-step t a = safe-moves (moves t a)

never-given : (t : Table) → Safe (view t) → (p : List (List ℕ)) (k : ℕ) → get_or (numbers (play t p).replies) k 0 ≢ 24
unfolding play
never-given t safe [] k z = omega arith
never-given t safe (a ∷ p) zero z = step-not-24 t safe a z
never-given t safe (a ∷ p) (suc k) z = never-given (step t a).table (safe-step t a safe) p k z

-- with ws written before, ws and what the actions write is what was written
traced-play : (t : Table) → Safe (view t) → (p : List (List ℕ)) (ws : List Written) → Traced (core t) (view t).log ws
    → Traced (core (play t p).table) (view (play t p).table).log (ws ++ along writes t p)
unfolding play along
traced-play t safe [] ws traced = rw append-nil traced
traced-play t safe (a ∷ p) ws traced =
    rw (← append_assoc) (traced-play (step t a).table (safe-step t a safe) p _ (traced-moves (moves t a) safe ws traced))

-- ---- actions one after another, from a fresh table

-- After any list of actions, each of which is any list of numbers, short, long or unknown ones among them.
module _ (n M R F : ℕ) (plan : List (List ℕ)) where
  abbrev pub left : Table
  left = (play (fresh n M R F) plan).table

  -- the terms won rise, so that no term is won by two elections
  pub won-rise : Rising 0 (won_along (fresh n M R F) plan)
  won-rise = wins-rise (core-fresh n M R F) (logless-play (fresh n M R F) plan)

  -- refusal 24 is never given
  pub not-given-24 : (j : ℕ) → get_or (numbers (play (fresh n M R F) plan).replies) j 0 ≢ 24
  not-given-24 = never-given (fresh n M R F) (safe-fresh n M R F) plan

  safe : Safe (view left)
  safe = play-keeps (λ t. Safe (view t)) safe-step (fresh n M R F) plan (safe-fresh n M R F)

  -- nor to an action that follows
  pub next-not-24 : (a : List ℕ) → (step left a).number ≢ 24
  next-not-24 = step-not-24 left safe

  leads : (i : ℕ) → T (primary (server left i)) → Leads (core left) i (server left i).config
  leads i p = record { primary = eqb_yes p; is = refl }

  -- a primary's configuration term is its term, so that a reconfiguration puts the term that 000 puts
  pub primary-own-term : (i : ℕ) → T (primary (server left i)) → (server left i).config.term ≡ (server left i).term
  primary-own-term i p = safe.configs.own (leads i p)

  traced : Traced (core left) (view left).log (along writes (fresh n M R F) plan)
  traced = traced-play (fresh n M R F) (safe-fresh n M R F) plan [] (traced-fresh n M R F)

  -- every entry of a log is as its write gave it: in its term at its position one write was taken, and that gave its bake
  pub entry-written : (i p u : ℕ) → T (held (server left i).log p u) → bakes_given (fresh n M R F) plan u p ≡ bake_at (server left i).log p ∷ []
  entry-written i p u h = traced.entry {n = i} (held-is (record { yes = h }))

  -- every primary holds, at its position, each entry marked with a term not above its own: that term, and the bake of the one write that was taken
  -- in that term at that position
  pub primary-complete : (i p : ℕ) → T (primary (server left i)) → 0 < mark left p → mark left p ≤ (server left i).term
      → T (held (server left i).log p (mark left p)) × (bakes_given (fresh n M R F) plan (mark left p) p ≡ bake_at (server left i).log p ∷ [])
  primary-complete i p leader marked below =
      let h = (safe.logs.leads (leads i leader)).complete (record { is = refl; positive = marked }) (omega (arith, primary-own-term i leader)) in
      ((is_held h).yes, traced.entry {n = i} h)

  -- a term has one primary at most
  pub sole-primary : (i j : ℕ) → T (primary (server left i)) → T (primary (server left j))
      → (server left i).term ≡ (server left j).term → i ≡ j
  sole-primary i j p q e =
      safe.configs.sole (leads i p) (leads j q) (primary-own-term i p ∙ e ∙ sym (primary-own-term j q))

  -- two logs that have the same term at a position agree up to there, in terms and bakes
  pub logs-agree : (i j p u : ℕ) → T (held (server left i).log p u) → T (held (server left j).log p u)
      → (r : ℕ) → r ≤ p → entry_at (server left i).log r ≡ entry_at (server left j).log r
  unfolding nth
  logs-agree i j p u h g zero o = refl
  logs-agree i j p u h g (suc r) o =
      let a : HasEntry (server left i).log p u = held-is (record { yes = h }) in
      let b : HasEntry (server left j).log p u = held-is (record { yes = g }) in
      let same : term_at (server left i).log (suc r) ≡ term_at (server left j).log (suc r) = safe.logs.agree {m = i} {n = j} a b (omega arith) (suc r) o in
      let x = traced.entry {n = i} {p = suc r} (record { some = omega arith; within = omega (arith, a.within); is = refl }) in
      let y = traced.entry {n = j} {p = suc r} (record { some = omega arith; within = omega (arith, b.within); is = sym same }) in
      let bakes : bake_at (server left i).log (suc r) ≡ bake_at (server left j).log (suc r) = cc in
      λ k. record { term = same k; bake = bakes k }

-- ---- runs from a fresh table

-- After the first k actions of a plan. The whole plan has `piece_count plan` of them; beyond it actions are empty, and refused.
module _ (n M R F : ℕ) (plan : List ℕ) (k : ℕ) where
  abbrev pub end : Table
  end = (run_to k (fresh n M R F) plan).table

  pub terms-rise : Rising 0 (won_along (fresh n M R F) (pieces k plan))
  terms-rise = won-rise n M R F (pieces k plan)

  pub never-24 : (j : ℕ) → get_or (numbers (run_to k (fresh n M R F) plan).replies) j 0 ≢ 24
  never-24 = not-given-24 n M R F (pieces k plan)

  pub own-term : (i : ℕ) → T (primary (server end i)) → (server end i).config.term ≡ (server end i).term
  own-term = primary-own-term n M R F (pieces k plan)

  pub entries-written : (i p u : ℕ) → T (held (server end i).log p u) → bakes_given (fresh n M R F) (pieces k plan) u p ≡ bake_at (server end i).log p ∷ []
  entries-written = entry-written n M R F (pieces k plan)

  pub primaries-complete : (i p : ℕ) → T (primary (server end i)) → 0 < mark end p → mark end p ≤ (server end i).term
      → T (held (server end i).log p (mark end p)) × (bakes_given (fresh n M R F) (pieces k plan) (mark end p) p ≡ bake_at (server end i).log p ∷ [])
  primaries-complete = primary-complete n M R F (pieces k plan)

  pub one-primary : (i j : ℕ) → T (primary (server end i)) → T (primary (server end j))
      → (server end i).term ≡ (server end j).term → i ≡ j
  one-primary = sole-primary n M R F (pieces k plan)

  pub logs-match : (i j p u : ℕ) → T (held (server end i).log p u) → T (held (server end j).log p u)
      → (r : ℕ) → r ≤ p → entry_at (server end i).log r ≡ entry_at (server end j).log r
  logs-match = logs-agree n M R F (pieces k plan)
