-- What document 01 asks beyond Algorithm 2, a predicate each, and the floor, which document 02 adds. The first five are the narrowings that document
-- 01 lists itself and request (iv) leaves (the ceilings are three predicates); the last is not on its list and stands in its action 8. In a table that
-- a run reaches, 2 and the last ask nothing (proofs/Reached.antt).
-- Assumes nothing.
use Rattle.std.specs.Prelude.{ℕ, zero, suc, ◌≤◌, ◌<◌, ◌≢◌, ◌≡◌, length}
use Rattle.paper.specs.Paper.{Set, ◌∈◌, size, State, at, CommittedAt, Action, Reconfig, BecomeLeader, CommitEntry, SendConfig, UpdateTerms, GetEntries, RollbackEntries, ClientRequest}

-- 1, the ceilings: a term has a largest value
abbrev pub TermCeiling : State → ℕ → Type 0
TermCeiling s i = s.term i < 1000000000

-- so has a version
abbrev pub VersionCeiling : State → ℕ → Type 0
VersionCeiling s i = s.config_version i < 1000000000

-- and so has a log's length
abbrev pub LogCeiling : State → ℕ → Type 0
LogCeiling s i = length (s.log i) < 64

-- 2, refusal 24: the position is not committed with another term
abbrev pub MarkedOnce : State → ℕ → Type 0
MarkedOnce s i = (u : ℕ) → s.committed (length (s.log i)) u → u ≡ s.term i

-- 3: one server is added or removed, so that there is one server in which the sets differ, and no other
abbrev pub OneServer : State → ℕ → Set → Type 0
OneServer s i new = (x : ℕ) × (s.config i x ≢ new x) × ((y : ℕ) → s.config i y ≢ new y → y ≡ x)

-- that is asked under rule 1, which has the number 0; under rule 2 the overlap that line 19 asks for is enough
abbrev pub SingleChange : ℕ → State → ℕ → Set → Type 0
SingleChange zero s i new = OneServer s i new
SingleChange (suc k) s i new = Unit {0}

-- 4, the leader is in its own new set
abbrev pub LeaderStays : ℕ → Set → Type 0
LeaderStays i new = i ∈ new

-- 5, an entry of its own term is committed, also while nothing is
abbrev pub OwnCommit : State → ℕ → Type 0
OwnCommit s i = (p : ℕ) × (u : ℕ) × CommittedAt s (s.term i) p u

-- the floor: the new set has at least so many members
abbrev pub AboveFloor : ℕ → State → Set → Type 0
AboveFloor F s new = F ≤ size s.servers new

-- beyond the list: the leader's own last entry is of its own term, though it need not be in Q
abbrev pub OwnEntry : State → ℕ → Type 0
OwnEntry s i = at (s.log i) (length (s.log i)) ≡ s.term i

-- which of them stand above which action, under the rule R and with the floor F
abbrev pub Narrowed : ℕ → ℕ → State → Action → Type 0
Narrowed R F s (Reconfig i new) = VersionCeiling s i × LeaderStays i new × SingleChange R s i new × AboveFloor F s new × OwnCommit s i
Narrowed R F s (SendConfig i j) = Unit {0}
Narrowed R F s (BecomeLeader i Q) = TermCeiling s i
Narrowed R F s (UpdateTerms i j) = Unit {0}
Narrowed R F s (ClientRequest i) = LogCeiling s i
Narrowed R F s (GetEntries i j) = Unit {0}
Narrowed R F s (RollbackEntries i j) = Unit {0}
Narrowed R F s (CommitEntry i Q) = OwnEntry s i × MarkedOnce s i
