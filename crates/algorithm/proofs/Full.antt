-- The algorithm whole, as the theory sees it: a table as functions of a server's number and of a position. Assumes nothing.
use Prim.Native.Nat.{ℕ, ◌+◌, ◌-◌, ◌<◌}
use mathlib.Core.Bool.{not}
use mathlib.Core.List.{List, [], ◌∷◌, ◌++◌, append-nil}
use mathlib.Core.Logic.{◌⊎◌}
use mathlib.Core.Path.{◌≡◌}
use lib.Dec.{T}
use lib.ListN.{length, take}
use Rattle.members.specs.Members.{Majority}
use Rattle.members.proofs.Said.{All, Most}
use Rattle.algorithm.specs.Table.{entry_of, Log, entry_at, term_at, last, ahead}
use Rattle.algorithm.specs.Run.{Written}
use Rattle.algorithm.proofs.Logless as logless
use Rattle.algorithm.proofs.Logless.{State}
use Rattle.words.specs.Lists.{put}
use Rattle.algorithm.proofs.Logs.{HasEntry, Prefix}

pub record View : Type 0 where
  pub core : State
  pub log : ℕ → Log
  -- the term committed at a position, or 0
  pub mark : ℕ → ℕ

pub record Marked (mark : ℕ → ℕ) (p t : ℕ) : Type 0 where
  pub is : mark p ≡ t
  pub positive : 0 < t

pub data Action : Type 0 where
  config : logless.Action → Action
  write fetch roll-back commit : ℕ → ℕ → Action

-- P1: i's term is on a mark, and most of i's set is in that term with all that such marks name
pub record Settled (v : View) (i : ℕ) : Type 0 where
  pub position : ℕ
  pub marked : Marked v.mark position (v.core i).term
  pub most : Most (v.core i).config.set
      (λ n. ((v.core n).term ≡ (v.core i).term) × ((p : ℕ) → Marked v.mark p (v.core i).term → HasEntry (v.log n) p (v.core i).term))

-- what logs and marks ask of an action on configurations
abbrev pub LogsAllow : View → logless.Action → Type 0
LogsAllow v (logless.elect i q) = All q (λ n. T (not (ahead (v.log n) (v.log i))))
LogsAllow v (logless.reconfigure i m) = Settled v i
LogsAllow v (logless.send i j) = Unit {0}
LogsAllow v (logless.spread i j) = Unit {0}

pub record CanFetch (v : View) (i j : ℕ) : Type 0 where
  pub secondary : (v.core i).role ≡ 0
  pub longer : length (v.log i) < length (v.log j)
  pub same : (length (v.log i) ≡ 0) ⊎ (last (v.log i) ≡ term_at (v.log j) (length (v.log i)))

pub record CanRollBack (v : View) (i j : ℕ) : Type 0 where
  pub secondary : (v.core i).role ≡ 0
  pub less : last (v.log i) < last (v.log j)
  pub no-prefix : ¬ Prefix (v.log i) (v.log j)

pub record CanCommit (v : View) (i q : ℕ) : Type 0 where
  pub primary : (v.core i).role ≡ 1
  pub majority : Majority q (v.core i).config.set
  pub some : 0 < length (v.log i)
  pub own : last (v.log i) ≡ (v.core i).term
  pub held : All q (λ n. ((v.core n).term ≡ (v.core i).term) × HasEntry (v.log n) (length (v.log i)) (v.core i).term)

abbrev pub Allowed : View → Action → Type 0
Allowed v (config a) = logless.Allowed v.core a × LogsAllow v a
Allowed v (write i B) = (v.core i).role ≡ 1
Allowed v (fetch i j) = CanFetch v i j
Allowed v (roll-back i j) = CanRollBack v i j
Allowed v (commit i q) = CanCommit v i q

abbrev pub after : View → Action → View
after v (config a) = record { core = logless.after v.core a; log = v.log; mark = v.mark }
after v (write i B) = record { core = v.core; log = put v.log i (v.log i ++ (entry_of (v.core i).term B ∷ [])); mark = v.mark }
after v (fetch i j) =
    record { core = v.core; log = put v.log i (v.log i ++ (entry_at (v.log j) (length (v.log i) + 1) ∷ [])); mark = v.mark }
after v (roll-back i j) = record { core = v.core; log = put v.log i (take (length (v.log i) - 1) (v.log i)); mark = v.mark }
after v (commit i q) = record { core = v.core; log = v.log; mark = put v.mark (length (v.log i)) (v.core i).term }

-- an action on logs and marks alone
abbrev pub OnLogs : Action → Type 0
OnLogs (config a) = ⊥
OnLogs (write i B) = Unit {0}
OnLogs (fetch i j) = Unit {0}
OnLogs (roll-back i j) = Unit {0}
OnLogs (commit i q) = Unit {0}

-- what an action writes
abbrev pub wrote : View → Action → List Written
wrote v (config a) = []
wrote v (write i B) = record { term = (v.core i).term; position = length (v.log i) + 1; bake = B } ∷ []
wrote v (fetch i j) = []
wrote v (roll-back i j) = []
wrote v (commit i q) = []

-- Allowed actions on logs and marks, one after another, and what they write.
pub data LogMoves : View → View → List Written → Type 0 where
  none : {v : View} → LogMoves v v []
  then : {v v' : View} {ws : List Written} (a : Action) → OnLogs a → Allowed v a → LogMoves (after v a) v' ws → LogMoves v v' (wrote v a ++ ws)

-- What a step of a table is, from v to v', with the terms ts won and ws written: one allowed action on configurations, or any number on logs
-- and marks.
pub data Moves (v : View) : View → List ℕ → List Written → Type 0 where
  sets : (a : logless.Action) → Allowed v (config a) → Moves v (after v (config a)) (logless.won v.core a) []
  logs : {v' : View} {ws : List Written} → LogMoves v v' ws → Moves v v' [] ws

pub rests : {v : View} → Moves v v [] []
rests = logs none

pub one : {v : View} (a : Action) → OnLogs a → Allowed v a → Moves v (after v a) [] (wrote v a)
one {v} a o can = logs (rw (append-nil (wrote v a)) at (then a o can none))
