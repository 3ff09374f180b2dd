-- The state of the paper that a table shows, the paper's action that an action of document 01 is, and its steps from table to table. Assumes nothing.
use Rattle.std.specs.Prelude.{ℕ, zero, suc, ◌≤◌, ◌<◌, List, map, ◌≡◌}
use Rattle.members.specs.Members.{member}
use Rattle.algorithm.specs.Table.{Entry, Log, Table, count, server, mark}
use Rattle.algorithm.specs.Bytes as house
use Rattle.paper.specs.Paper.{Set, Role, Primary, Secondary, State, Action, Reconfig, BecomeLeader, CommitEntry, SendConfig, UpdateTerms, GetEntries, RollbackEntries, ClientRequest, Requires, Step}

-- 0 is secondary, 1 primary (a table with another role is broken)
abbrev pub role_shown : ℕ → Role
role_shown zero = Secondary
role_shown (suc k) = Primary

-- the members of a mask
abbrev pub set_shown : ℕ → Set
set_shown m x = member x m

-- the terms of a log's entries
abbrev pub log_shown : Log → List ℕ
log_shown l = map (λ (e : Entry). e.term) l

-- a mark that is not 0 is a committed pair
abbrev pub mark_shown : Table → ℕ → ℕ → Type 0
mark_shown t p u = (mark t p ≡ u) × (0 < u)

-- the state of the paper that a table shows
abbrev pub shown : Table → State
shown t = record {
  servers = count t;
  term = λ i. (server t i).term;
  state = λ i. role_shown (server t i).role;
  config = λ i. set_shown (server t i).config.set;
  config_version = λ i. (server t i).config.version;
  config_term = λ i. (server t i).config.term;
  log = λ i. log_shown (server t i).log;
  committed = mark_shown t;
}

-- P of the paper's action that an action is, once or, as a stretch, several times; an unknown one is none
abbrev pub OfPaper : (Action → Type 0) → house.Action → Type 0
OfPaper P house.unknown = ⊥
OfPaper P (house.elect i Q) = P (BecomeLeader i (set_shown Q))
OfPaper P (house.reconfigure i M) = P (Reconfig i (set_shown M))
OfPaper P (house.send i j) = P (SendConfig i j)
OfPaper P (house.spread i j) = P (UpdateTerms i j)
OfPaper P (house.write i B) = P (ClientRequest i)
OfPaper P (house.fetch i j) = P (GetEntries i j)
OfPaper P (house.roll_back i j) = P (RollbackEntries i j)
OfPaper P (house.commit i Q) = P (CommitEntry i (set_shown Q))
OfPaper P (house.stretch i j c) = P (GetEntries i j)

-- how often it is that action at most: a stretch as often as its count says
abbrev pub times_asked : house.Action → ℕ
times_asked house.unknown = 1
times_asked (house.elect i Q) = 1
times_asked (house.reconfigure i M) = 1
times_asked (house.send i j) = 1
times_asked (house.spread i j) = 1
times_asked (house.write i B) = 1
times_asked (house.fetch i j) = 1
times_asked (house.roll_back i j) = 1
times_asked (house.commit i Q) = 1
times_asked (house.stretch i j c) = c

-- k steps of Algorithm 2, all by the action b, from what t shows to what z shows; tables show the states between them too
pub data Repeats (b : Action) : ℕ → Table → Table → Type 0 where
  never : {t : Table} → Repeats b 0 t t
  again : {k : ℕ} {t t' z : Table} → Step (shown t) b (shown t') → Repeats b k t' z → Repeats b (suc k) t z

-- such steps lead from t to z: one at least and c at most, and fewer than c only where Algorithm 2 does not allow one more
pub record UpTo (c : ℕ) (b : Action) (t z : Table) : Type 0 where
  pub times : ℕ
  pub some : 1 ≤ times
  pub most : times ≤ c
  pub steps : Repeats b times t z
  pub stops : times < c → ¬ Requires (shown z) b
