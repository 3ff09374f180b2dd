-- Steps of Algorithm 2 one after another, and states that are alike. Assumes nothing.
use Rattle.std.specs.Prelude.{ℕ, ◌⊎◌, ◌≡◌}
use Rattle.paper.specs.Paper.{Set, State, IsServer, SameCommitted, Action, Reconfig, BecomeLeader, CommitEntry, SendConfig, UpdateTerms, GetEntries, RollbackEntries, ClientRequest, Step}
use Rattle.paper.specs.Narrowings.{Narrowed}

-- the numbers of servers that an action names are in S
abbrev pub Named : (ℕ → Type 0) → Action → Type 0
Named S (Reconfig i new) = S i
Named S (SendConfig i j) = S i × S j
Named S (BecomeLeader i Q) = S i
Named S (UpdateTerms i j) = S i × S j
Named S (ClientRequest i) = S i
Named S (GetEntries i j) = S i × S j
Named S (RollbackEntries i j) = S i × S j
Named S (CommitEntry i Q) = S i

-- the servers that an action names are servers
abbrev pub OnServers : State → Action → Type 0
OnServers s a = Named (IsServer s) a

-- the same state, variable by variable, at the numbers in S
pub record AlikeAt (S : ℕ → Type 0) (s z : State) : Type 0 where
  pub servers : z.servers ≡ s.servers
  pub term : (j : ℕ) → S j → z.term j ≡ s.term j
  pub state : (j : ℕ) → S j → z.state j ≡ s.state j
  pub config : (j : ℕ) → S j → z.config j ≡ s.config j
  pub config_version : (j : ℕ) → S j → z.config_version j ≡ s.config_version j
  pub config_term : (j : ℕ) → S j → z.config_term j ≡ s.config_term j
  pub log : (j : ℕ) → S j → z.log j ≡ s.log j
  pub committed : SameCommitted s z

-- the same state at every number
abbrev pub Alike : State → State → Type 0
Alike s z = AlikeAt (λ _. Unit {0}) s z

-- steps one after another
pub data Steps : State → State → Type 1 where
  none : {s : State} → Steps s s
  then : {s s' s'' : State} (a : Action) → Step s a s' → Steps s' s'' → Steps s s''

-- an action is a commit
abbrev pub Commits : Action → Type 0
Commits a = (i : ℕ) × (Q : Set) × (a ≡ CommitEntry i Q)

-- steps under the rule R and with the floor F, each by servers, and not forbidden unless it is a commit: the narrowings of a commit ask nothing in
-- a state that is reached
pub data NarrowSteps (R F : ℕ) : State → State → Type 1 where
  none : {s : State} → NarrowSteps R F s s
  then : {s s' s'' : State} (a : Action) → OnServers s a → Narrowed R F s a ⊎ Commits a → Step s a s' → NarrowSteps R F s' s''
      → NarrowSteps R F s s''
