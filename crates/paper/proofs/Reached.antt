-- Runs: every run is one of Algorithm 2; a fresh table shows its initial state; its two properties hold of every state that a run from a
-- fresh table shows; and there what document 01 asks of a commit beyond Algorithm 2 asks nothing. Assumes nothing.
use Prim.Native.Nat.{ℕ, zero, suc, ◌≤◌}
use mathlib.Core.List.{List, [], ◌∷◌}
use mathlib.Core.Path.{◌≡◌, refl, sym, ap, ◌∙◌, subst}
use native.Mathlib.Decide.{ℕ_discrete}
use native.Mathlib.Omega.{arith}
use lib.ListN.{length, length-replicate, get_or-replicate}
use Rattle.words.specs.Lists.{nth}
use Rattle.words.proofs.Tests.{Passes, together, equal, is-at-most, Fails}
use Rattle.members.specs.Members.{within}
use Rattle.members.proofs.Said.{Most}
use Rattle.members.proofs.Masks.{member-pos}
use Rattle.members.proofs.Meaning.{within-is}
use Rattle.algorithm.specs.Table.{Log, Server, Table, count, server, mark, absent, fresh_server, fresh, broken}
use Rattle.algorithm.specs.Bytes.{action_of}
use Rattle.algorithm.specs.Run.{step, play, pieces, run_to}
use Rattle.algorithm.proofs.Full.{CanCommit}
use Rattle.algorithm.proofs.Logless.{core}
use Rattle.algorithm.proofs.Logs.{HasEntry}
use Rattle.algorithm.proofs.Refusals.{refused-stays}
use Rattle.algorithm.proofs.Seen.{view, within-width}
use Rattle.algorithm.proofs.Sound.{SoundServer, SoundTable, table-sound, here-sound}
use Rattle.algorithm.proofs.Kept.{step-sound, fresh-sound}
use Rattle.algorithm.proofs.Taken.{moves}
use Rattle.algorithm.proofs.Runs.{play-keeps}
use Rattle.algorithm.proofs.Safe.{Safe, no-mark, safe-fresh, safe-moves}
use Rattle.algorithm.proofs.Safety.{marked-so}
use Rattle.algorithm.proofs.Invariant as invariant
use Rattle.paper.specs.Paper.{Set, Primary, State, IsServer, Initial, Action, CommitEntry, Requires, ElectionSafety, LeaderCompleteness}
use Rattle.paper.specs.Narrowings.{Narrowed}
use Rattle.paper.specs.Runs.{Steps, none, then}
use Rattle.paper.specs.Shown.{role_shown, set_shown, log_shown, shown, times_asked, Repeats, never, again, UpTo}
use Rattle.paper.proofs.Quorum.{most-of, most-some}
use Rattle.paper.proofs.Figures.{role-primary, length-shown, last-shown, in-log}
use Rattle.paper.proofs.Exactly.{both_of, taken-leads}

-- ---- every run is one of Algorithm 2

-- a step after another
in-turn : {b : Action} {k : ℕ} {t t' : Table} {z : State} → Repeats b k t t' → Steps (shown t') z → Steps (shown t) z
in-turn never rest = rest
in-turn {b} (again h more) rest = then b h (in-turn more rest)

-- from any table: what a run shows at its end is reached by Algorithm 2's steps, one for each taken action and, in a stretch, each entry copied
pub runs : (t : Table) (p : List (List ℕ)) → Steps (shown t) (shown (play t p).table)
unfolding play
runs t [] = none
runs t (bs ∷ p) = go (ℕ_discrete (step t bs).number 0) (runs (step t bs).table p)
  where
    go : Dec ((step t bs).number ≡ 0) → Steps (shown (step t bs).table) (shown (play (step t bs).table p).table)
        → Steps (shown t) (shown (play (step t bs).table p).table)
    go (yes e) rest =
        let Leading : Action → Type 0 = λ b. UpTo (times_asked (action_of bs)) b t (step t bs).table in
        let (b, h, _) = both_of Leading Leading (action_of bs) (taken-leads t bs e) (taken-leads t bs e) in
        in-turn h.steps rest
    go (no e) rest = subst (λ (x : Table). Steps (shown x) (shown (play (step t bs).table p).table)) (refused-stays t bs (omega arith)) rest

-- ---- a fresh table

module _ (n M R F : ℕ) (set : Passes (within M n)) where
  server-fresh : (i : ℕ) → 1 ≤ i → i ≤ count (fresh n M R F) → server (fresh n M R F) i ≡ fresh_server M
  unfolding nth
  server-fresh zero a b = absurd (omega arith)
  server-fresh (suc k) a b = get_or-replicate n k (fresh_server M) absent (omega (arith, length-replicate n (fresh_server M)))

  -- a fresh table shows the paper's initial state, with m_init the set M
  pub fresh-initial : Initial (shown (fresh n M R F)) (set_shown M)
  fresh-initial = record {
    some = (within-is set).some;
    servers = λ x u. (member-pos x M u, omega (arith, (within-is set).all x u, length-replicate n (fresh_server M)));
    term = λ i (a, b). ap (λ (s : Server). s.term) (server-fresh i a b);
    state = λ i (a, b). ap (λ (s : Server). role_shown s.role) (server-fresh i a b);
    config = λ i (a, b). ap (λ (s : Server). set_shown s.config.set) (server-fresh i a b);
    config_version = λ i (a, b). ap (λ (s : Server). s.config.version) (server-fresh i a b);
    config_term = λ i (a, b). ap (λ (s : Server). s.config.term) (server-fresh i a b);
    log = λ i (a, b). ap (λ (s : Server). log_shown s.log) (server-fresh i a b);
    committed = λ p u (m, o). no-mark n M R F (record { is = m; positive = o });
  }

-- ---- what a table shows that the invariants of demand 3 hold of

module _ (z : Table) (sound : SoundTable z) (safe : Safe (view z)) where
  server-sound : (i : ℕ) → IsServer (shown z) i → SoundServer (count z) (server z i)
  server-sound i (a, b) = here-sound sound i (together (is-at-most a) (is-at-most b))

  leader : (i : ℕ) → IsServer (shown z) i → (shown z).state i ≡ Primary → invariant.Leads (core z) i (server z i).config
  leader i a p = record { primary = equal ((role-primary (server-sound i a)).1 p); is = refl }

  -- a primary's configuration term is its term
  own : (i : ℕ) → IsServer (shown z) i → (shown z).state i ≡ Primary → (server z i).config.term ≡ (server z i).term
  own i a p = safe.configs.own (leader i a p)

  -- Lemma 1 where the invariants hold
  pub election-safe : ElectionSafety (shown z)
  election-safe i j a b ne (p, q, e) = ne (safe.configs.sole (leader i a p) (leader j b q) (own i a p ∙ e ∙ sym (own j b q)))

  -- Theorem 2 where they hold
  pub leader-complete : LeaderCompleteness (shown z)
  leader-complete i a p u (m, o) (leads, below) =
      (in-log z i p u).0 ((safe.logs.leads (leader i a leads)).complete (record { is = m; positive = o }) (omega (arith, own i a leads)))

  -- what document 01 asks of a commit beyond Algorithm 2, refusal 24 and that the leader's last entry is its own, holds by itself
  module _ (i : ℕ) (here : IsServer (shown z) i) (Q : Set) (can : Requires (shown z) (CommitEntry i Q)) where
    abbrev l : Log
    l = (server z i).log

    abbrev u : ℕ
    u = (server z i).term

    most : Most (server z i).config.set (λ j. ((server z j).term ≡ u) × HasEntry (server z j).log (length l) u)
    most =
        most-of (shown z) (server z i).config.set (within-width (count z) (server-sound i here).config.set) Q can.0
        (λ j v. let (e, t) = can.2 j v in (t, rw (length-shown l) at ((in-log z j (length (log_shown l)) u).1 e)))

    held : HasEntry l (length l) u
    held =
        let (j, (_, h)) = most-some most in
        let e : (server z i).config.term ≡ u = own i here can.1 in
        rw e at ((safe.logs.leads (leader i here can.1)).entries {n = j} {p = length l} (rw e h))

    commit : CanCommit (view z) i most.by
    commit = record {
      primary = (leader i here can.1).primary;
      majority = most.majority;
      some = held.some;
      own = held.is;
      held = most.all;
    }

    pub commit-free : Narrowed z.rule z.floor (shown z) (CommitEntry i Q)
    commit-free = (
      last-shown l ∙ held.is,
      λ v (m, o).
          marked-so (view z) safe.configs safe.logs i most.by commit (record { is = ap (mark z) (sym (length-shown l)) ∙ m; positive = o }),
    )

-- ---- what a run from a fresh table shows

-- actions one after another keep the invariants
pub play-safe : (t : Table) (p : List (List ℕ)) → Safe (view t) → Safe (view (play t p).table)
play-safe t p = play-keeps (λ t. Safe (view t)) (λ t a. safe-moves (moves t a)) t p

module _ (n M R F : ℕ) (some : 1 ≤ n) (few : n ≤ 16) (set : Passes (within M n)) (rule : R ≤ 1) (floor : F ≤ 16) (plan : List ℕ) (k : ℕ) where
  -- the state after the first k actions of a plan
  abbrev pub reached : State
  reached = shown (run_to k (fresh n M R F) plan).table

  sound : SoundTable (run_to k (fresh n M R F) plan).table
  sound = table-sound (play-keeps (λ t. Fails (broken t)) step-sound (fresh n M R F) (pieces k plan) (fresh-sound n M R F some few set rule floor))

  safe : Safe (view (run_to k (fresh n M R F) plan).table)
  safe = play-safe (fresh n M R F) (pieces k plan) (safe-fresh n M R F)

  -- Lemma 1
  pub election-safety : ElectionSafety reached
  election-safety = election-safe (run_to k (fresh n M R F) plan).table sound safe

  -- Theorem 2
  pub leader-completeness : LeaderCompleteness reached
  leader-completeness = leader-complete (run_to k (fresh n M R F) plan).table sound safe

  -- a commit that Algorithm 2 allows is not narrowed
  pub commit-not-narrowed : (i : ℕ) → IsServer reached i → (Q : Set) → Requires reached (CommitEntry i Q) → Narrowed R F reached (CommitEntry i Q)
  commit-not-narrowed = commit-free (run_to k (fresh n M R F) plan).table sound safe
