-- The paper's Lemma 1 and Theorem 2 of Algorithm 2 itself, with at most 16 servers, its commits as they are and its other actions narrowed: of
-- every state that its own steps reach from its own initial state, without a word on tables. A table follows each step, and demand 3 holds of
-- that table. Assumes nothing.
use Prim.Native.Nat.{ℕ, ◌≤◌}
use mathlib.Core.Logic.{⊎_elim}
use mathlib.Core.Path.{◌≡◌, refl, sym, ◌∙◌, subst}
use native.Mathlib.Omega.{arith}
use lib.ListN.{length-replicate}
use Rattle.words.proofs.Tests.{Passes, Fails}
use Rattle.members.specs.Members.{within, mask}
use Rattle.algorithm.specs.Table.{Table, count, broken, fresh_server, fresh}
use Rattle.algorithm.specs.Run.{step}
use Rattle.algorithm.proofs.Seen.{view}
use Rattle.algorithm.proofs.Sound.{SoundTable, table-sound}
use Rattle.algorithm.proofs.Runs.{step-rule, step-floor}
use Rattle.algorithm.proofs.Taken.{moves}
use Rattle.algorithm.proofs.Kept.{step-sound, fresh-sound}
use Rattle.algorithm.proofs.Safe.{Safe, safe-fresh, safe-moves}
use Rattle.paper.specs.Paper.{Set, State, IsServer, OfServers, Initial, Action, Requires, ElectionSafety, LeaderCompleteness}
use Rattle.paper.specs.Narrowings.{Narrowed}
use Rattle.paper.specs.Runs.{OnServers, AlikeAt, Commits, NarrowSteps, none, then}
use Rattle.paper.specs.Shown.{set_shown, shown}
use Rattle.paper.proofs.Quorum.{mask-shown, mask-within}
use Rattle.paper.proofs.Reached.{fresh-initial, election-safe, leader-complete, commit-free}
use Rattle.paper.proofs.Whole.{config-servers, goes}
use Rattle.paper.proofs.Near.{near-requires, near-narrowed, near-assigns}

-- alike at the numbers 1 to m, which is n
over : {m n : ℕ} (s z : State) → m ≡ n → AlikeAt (λ j. (1 ≤ j) × (j ≤ m)) s z → AlikeAt (λ j. (1 ≤ j) × (j ≤ n)) s z
over s z e = subst (λ (k : ℕ). AlikeAt (λ j. (1 ≤ j) × (j ≤ k)) s z) e

-- s is alike what the table shows, at every server
abbrev Shows : Table → State → Type 0
Shows t s = AlikeAt (IsServer (shown t)) (shown t) s

-- ---- a table follows

-- where demand 3's invariants hold, only other actions than commits have to be narrowed
narrowed : (R F : ℕ) (t : Table) → Fails (broken t) → Safe (view t) → (a : Action) → OnServers (shown t) a → Requires (shown t) a → Commits a
    → Narrowed R F (shown t) a
narrowed R F t sound safe a on can (i, Q, e) =
    subst (λ (b : Action). OnServers (shown t) b → Requires (shown t) b → Narrowed R F (shown t) b) (sym e)
    (λ on can. commit-free t (table-sound sound) safe i on Q can) on can

-- a table whose invariants hold follows steps under its rule and with its floor to another
follow : {R F : ℕ} {s z : State} (t : Table) → t.rule ≡ R → t.floor ≡ F → Fails (broken t) → Safe (view t) → Shows t s → NarrowSteps R F s z
    → (x : Table) × SoundTable x × Safe (view x) × Shows x z
follow t rule floor sound safe near none = (t, table-sound sound, safe, near)
follow {R} {F} t rule floor sound safe near (then {s} {s'} a on binds step_of_lem rest) =
    let its : (i : ℕ) → IsServer (shown t) i → OfServers (shown t) ((shown t).config i) = config-servers t sound in
    let on-t : OnServers (shown t) a = rw near.servers at on in
    let can : Requires (shown t) a = near-requires s (shown t) near its a on-t step_of_lem.requires in
    let (bs, e, led) = goes t sound a on-t can (rw (rule, floor) (⊎_elim (near-narrowed s (shown t) near its R F a on-t) (narrowed R F t sound safe a on-t can) binds)) in
    let next : AlikeAt (IsServer (shown t)) (shown (step t bs).table) s' =
    near-assigns (IsServer (shown t)) (shown t) s (shown (step t bs).table) s' near led.servers step_of_lem.servers a on-t led.assigns step_of_lem.assigns in
    let shows : Shows (step t bs).table s' = over (shown (step t bs).table) s' (sym led.servers) next in
    follow (step t bs).table (step-rule t bs ∙ rule) (step-floor t bs ∙ floor) (step-sound t bs sound) (safe-moves (moves t bs) safe) shows rest

-- ---- the paper's initial state is a fresh table's

module _ (R F : ℕ) (s : State) (m : Set) (init : Initial s m) where
  abbrev n : ℕ
  n = s.servers

  abbrev M : ℕ
  M = mask n m

  fits : Passes (within M n)
  fits = mask-within n m init.servers init.some.0 init.some.1

  counted : count (fresh n M R F) ≡ n
  counted = length-replicate n (fresh_server M)

  start : Shows (fresh n M R F) s
  start =
      let f : Initial (shown (fresh n M R F)) (set_shown M) = fresh-initial n M R F fits in
      record {
        servers = sym counted;
        term = λ j h. init.term j (rw counted at h) ∙ sym (f.term j h);
        state = λ j h. init.state j (rw counted at h) ∙ sym (f.state j h);
        config = λ j h. init.config j (rw counted at h) ∙ sym (mask-shown n m init.servers) ∙ sym (f.config j h);
        config_version = λ j h. init.config_version j (rw counted at h) ∙ sym (f.config_version j h);
        config_term = λ j h. init.config_term j (rw counted at h) ∙ sym (f.config_term j h);
        log = λ j h. init.log j (rw counted at h) ∙ sym (f.log j h);
        committed = λ p u. (λ c. absurd (init.committed p u c), λ c. absurd (f.committed p u c));
      }

-- ---- the two properties

module _ (v : State) {z : State} (near : AlikeAt (IsServer v) v z) where
  election : ElectionSafety v → ElectionSafety z
  election f i j a b ne (p, q, e) =
      let x : IsServer v i = rw near.servers at a in
      let y : IsServer v j = rw near.servers at b in
      f i j x y ne (sym (near.state i x) ∙ p, sym (near.state j y) ∙ q, sym (near.term i x) ∙ e ∙ near.term j y)

  completeness : LeaderCompleteness v → LeaderCompleteness z
  completeness f i a p u c (leads, below) =
      let x : IsServer v i = rw near.servers at a in
      rw (near.log i x) (f i x p u ((near.committed p u).0 c) (sym (near.state i x) ∙ leads, omega (arith, near.term i x)))

module _ (R F : ℕ) (rule : R ≤ 1) (floor : F ≤ 16) (s z : State) (m : Set) (few : s.servers ≤ 16) (init : Initial s m) (steps : NarrowSteps R F s z) where
  followed : (x : Table) × SoundTable x × Safe (view x) × Shows x z
  followed =
      let (a, b) = init.servers init.some.0 init.some.1 in
      let M : ℕ = mask s.servers m in
      follow (fresh s.servers M R F) refl refl (fresh-sound s.servers M R F (omega arith) few (fits R F s m init) rule floor) (safe-fresh s.servers M R F)
      (start R F s m init) steps

  -- Lemma 1
  pub lemma-1 : ElectionSafety z
  lemma-1 = let (t, sound, safe, near) = followed in election (shown t) near (election-safe t sound safe)

  -- Theorem 2
  pub theorem-2 : LeaderCompleteness z
  theorem-2 = let (t, sound, safe, near) = followed in completeness (shown t) near (leader-complete t sound safe)
