-- The algorithm without logs and marks: roles, terms and configurations, and actions 1 to 4 alone. It allows more than document 01 does:
-- a new set's majorities need only meet the old one's, and nothing is bounded. Assumes nothing.
use Prim.Native.Nat.{ℕ, ◌+◌, ◌≤◌, ◌<◌}
use mathlib.Core.Bool.{cond, not}
use mathlib.Core.List.{List, [], ◌∷◌, ◌++◌}
use mathlib.Core.Logic.{◌⊎◌}
use mathlib.Core.Path.{◌≡◌}
use lib.Dec.{T}
use Rattle.members.specs.Members.{member, Member, Majority}
use Rattle.members.specs.Rules.{MajoritiesMeet}
use Rattle.members.proofs.Said.{All, Most}
use Rattle.words.specs.Lists.{put}
use Rattle.algorithm.specs.Table.{Server, Table, absent, server, with_config, with_log, fresh_server, newer}
use Rattle.algorithm.specs.Actions.{stepped_down, winner, next_config}

-- the servers by their numbers n; their logs are not looked at
abbrev pub State : Type 0
State = ℕ → Server

-- the servers of a table, their logs left out
abbrev pub core : Table → State
core t n = with_log [] (server t n)

-- kinds 1 to 4
pub data Action : Type 0 where
  elect reconfigure : ℕ → ℕ → Action
  send spread : ℕ → ℕ → Action

-- i can be elected by the set Q
pub record CanElect (s : State) (i q : ℕ) : Type 0 where
  pub majority : Majority q (s i).config.set
  pub self : Member i q
  pub terms : All q (λ n. (s n).term ≤ (s i).term)
  pub configs : All q (λ n. T (not (newer (s n).config (s i).config)))

-- i can reconfigure to the set M
pub record CanReconfigure (s : State) (i m : ℕ) : Type 0 where
  pub primary : (s i).role ≡ 1
  pub self : Member i m
  pub meet : MajoritiesMeet (s i).config.set m
  pub Q1 : Most (s i).config.set (λ n. ((s n).config.version ≡ (s i).config.version) × ((s n).config.term ≡ (s i).config.term))
  pub Q2 : Most (s i).config.set (λ n. (s n).term ≡ (s i).term)

-- i's configuration can be sent to j
pub record CanSend (s : State) (i j : ℕ) : Type 0 where
  pub secondary : (s j).role ≡ 0
  pub newer : T (newer (s i).config (s j).config)

-- what an action asks of a state
abbrev pub Allowed : State → Action → Type 0
Allowed s (elect i q) = CanElect s i q
Allowed s (reconfigure i m) = CanReconfigure s i m
Allowed s (send i j) = CanSend s i j
Allowed s (spread i j) = (s j).term < (s i).term

-- the members of Q have the term u and are secondary
unfoldable pub voted : State → ℕ → ℕ → State
voted s Q u n = cond (member n Q) (stepped_down u (s n)) (s n)

-- the state after an action
abbrev pub after : State → Action → State
after s (elect i q) = put (voted s q ((s i).term + 1)) i (winner ((s i).term + 1) (s i))
after s (reconfigure i m) = put s i (with_config (next_config m (s i).config) (s i))
after s (send i j) = put s j (with_config (s i).config (s j))
after s (spread i j) = put s j (stepped_down (s i).term (s j))

-- the term that an action wins, if it is an election
abbrev pub won : State → Action → List ℕ
won s (elect i q) = ((s i).term + 1) ∷ []
won s (reconfigure i m) = []
won s (send i j) = []
won s (spread i j) = []

-- One step from s to s', with the terms ts won: an allowed action is taken, or nothing changes.
pub data Move (s : State) : State → List ℕ → Type 0 where
  rests : Move s s []
  takes : (a : Action) → Allowed s a → Move s (after s a) (won s a)

-- Steps one after another, with the terms won in order.
pub data Moves : State → State → List ℕ → Type 0 where
  none : {s : State} → Moves s s []
  then : {s s' s'' : State} {ts us : List ℕ} → Move s s' ts → Moves s' s'' us → Moves s s'' (ts ++ us)

-- every number has a fresh server with the set M, or none
abbrev pub Fresh : ℕ → State → Type 0
Fresh M s = (n : ℕ) → (s n ≡ fresh_server M) ⊎ (s n ≡ absent)
