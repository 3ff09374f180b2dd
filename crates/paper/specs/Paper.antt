-- Algorithm 2 of document 000 (Appendix A), in its order; L is the number of one of its lines. Nothing of this project is cited here.
-- Servers are numbers, `Server` is 1 to n. `≜` with a condition is a type; ∃ is a pair, ∀ a function. Assumes nothing.
use Rattle.std.specs.Prelude.{ℕ, zero, suc, ◌+◌, ◌-◌, ◌*◌, ◌≤◌, ◌<◌, Bool, cond, List, [], ◌∷◌, ◌++◌, ◌≢◌, ◌⊎◌, ◌↔◌, ◌≡◌, T, length, get_or, take}

-- a set of servers (000, section 2.1): which numbers are in it
abbrev pub Set : Type 0
Set = ℕ → Bool

infix 4 ◌∈◌ ◌⊆◌
-- x is in S
abbrev pub ◌∈◌ : ℕ → Set → Type 0
x ∈ S = T (S x)

-- every member of A is one of B
abbrev pub ◌⊆◌ : Set → Set → Type 0
A ⊆ B = (x : ℕ) → x ∈ A → x ∈ B

-- |S|: how many of the servers 1 to n are in S
unfoldable pub size : ℕ → Set → ℕ
size zero S = 0
size (suc k) S = cond (S (suc k)) 1 0 + size k S

-- ---- L4 to L11: the state

-- what a server is at a time
pub data Role : Type 0 where
  Primary Secondary : Role

-- the variables, each a function of the server's number
pub record State : Type 1 where
  -- n; no variable of the paper, and no action changes it
  pub servers : ℕ
  pub term : ℕ → ℕ
  pub state : ℕ → Role
  pub config : ℕ → Set
  pub config_version : ℕ → ℕ
  pub config_term : ℕ → ℕ
  pub log : ℕ → List ℕ
  -- the pairs (index, term) that are committed
  pub committed : ℕ → ℕ → Type 0

-- i ∈ Server
abbrev pub IsServer : State → ℕ → Type 0
IsServer s i = (1 ≤ i) × (i ≤ s.servers)

-- m ∈ 2^Server
abbrev pub OfServers : State → Set → Type 0
OfServers s m = (x : ℕ) → x ∈ m → IsServer s x

-- Quorums(m): q is a subset of m, and |q| * 2 > |m|
abbrev pub Quorums : State → Set → Set → Type 0
Quorums s m q = (q ⊆ m) × (size s.servers m < size s.servers q * 2)

-- every quorum of a meets every quorum of b
abbrev pub QuorumsOverlap : State → Set → Set → Type 0
QuorumsOverlap s a b = (q r : Set) → Quorums s a q → Quorums s b r → (x : ℕ) × (x ∈ q) × (x ∈ r)

-- L[k], from 1; where there is no such element (the paper asks for none) 0
abbrev pub at : List ℕ → ℕ → ℕ
at l zero = 0
at l (suc k) = get_or l k 0

-- server i has the term t at the index ind
abbrev pub InLog : State → ℕ → ℕ → ℕ → Type 0
InLog s ind t i = (k : ℕ) × ((1 ≤ k) × (k ≤ length (s.log i))) × (k ≡ ind) × (at (s.log i) k ≡ t)

-- m begins with l
abbrev pub IsPrefix : List ℕ → List ℕ → Type 0
IsPrefix l m = (length l ≤ length m) × (l ≡ take (length l) m)

-- LogTerm and 1 more, so that the empty log's -1 is 0: it is only ever compared with another LogTerm, by < and =
abbrev pub log_term : List ℕ → ℕ
log_term [] = 0
log_term (e ∷ l) = at (e ∷ l) (length (e ∷ l)) + 1

-- the same of server i's log
abbrev pub LogTerm : State → ℕ → ℕ
LogTerm s i = log_term (s.log i)

-- i's log is as far as j's: by the last term, then by the length
abbrev pub LogGeq : State → ℕ → ℕ → Type 0
LogGeq s i j = (LogTerm s j < LogTerm s i) ⊎ ((LogTerm s i ≡ LogTerm s j) × (length (s.log j) ≤ length (s.log i)))

-- j's log is longer, and i's last entry is in it
abbrev pub LogCheck : State → ℕ → ℕ → Type 0
LogCheck s i j =
    (length (s.log i) < length (s.log j))
    × ((s.log i ≡ []) ⊎ (at (s.log i) (length (s.log i)) ≡ at (s.log j) (length (s.log i))))

-- i's last term is behind j's, and j's log does not begin with i's
abbrev pub CanRollback : State → ℕ → ℕ → Type 0
CanRollback s i j = (LogTerm s i < LogTerm s j) × (¬ IsPrefix (s.log i) (s.log j))

-- all of Q have the entry and are in its term
abbrev pub IsCommitted : State → ℕ → ℕ → Set → Type 0
IsCommitted s ind t Q = (j : ℕ) → j ∈ Q → InLog s ind t j × (s.term j ≡ t)

-- the pair (index, term) is in CommittedAt(t)
abbrev pub CommittedAt : State → ℕ → ℕ → ℕ → Type 0
CommittedAt s t index term = s.committed index term × (term ≡ t)

-- Q is a quorum of server i's configuration
abbrev pub QuorumsAt : State → ℕ → Set → Type 0
QuorumsAt s i Q = Quorums s (s.config i) Q

-- a configuration: its members, its version and its term
pub record Config : Type 0 where
  pub m : Set
  pub v : ℕ
  pub t : ℕ

-- C of server i
abbrev pub C : State → ℕ → Config
C s i = record { m = s.config i; v = s.config_version i; t = s.config_term i }

-- Definition 3: D < E
abbrev pub Older : Config → Config → Type 0
Older D E = (D.t < E.t) ⊎ ((D.t ≡ E.t) × (D.v < E.v))

-- D ≤ E
abbrev pub NotNewer : Config → Config → Type 0
NotNewer D E = Older D E ⊎ ((D.v ≡ E.v) × (D.t ≡ E.t))

-- a quorum has i's version and configuration term
abbrev pub Q1 : State → ℕ → Type 0
Q1 s i =
    (Q : Set) × QuorumsAt s i Q × ((j : ℕ) → j ∈ Q → (s.config_version j ≡ s.config_version i) × (s.config_term j ≡ s.config_term i))

-- a quorum is in i's term
abbrev pub Q2 : State → ℕ → Type 0
Q2 s i = (Q : Set) × QuorumsAt s i Q × ((j : ℕ) → j ∈ Q → s.term j ≡ s.term i)

-- nothing is committed at all, or something is in i's term
abbrev pub P1a : State → ℕ → Type 0
P1a s i = ((p u : ℕ) → ¬ (s.committed p u)) ⊎ ((p : ℕ) × (u : ℕ) × CommittedAt s (s.term i) p u)

-- what was committed in i's term is committed by Q still
abbrev pub P1b : State → ℕ → Set → Type 0
P1b s i Q = (p u : ℕ) → CommittedAt s (s.term i) p u → IsCommitted s p (s.term i) Q

-- P1a, and P1b for a quorum
abbrev pub P1 : State → ℕ → Type 0
P1 s i = (Q : Set) × QuorumsAt s i Q × (P1a s i × P1b s i Q)

-- L2 to L11: s is initial, with m for m_init
pub record Initial (s : State) (m : Set) : Type 0 where
  -- L3: m is a set of servers, and not empty
  pub some : (x : ℕ) × (x ∈ m)
  pub servers : OfServers s m
  -- L4: L5 to L10 for all servers
  pub term : (i : ℕ) → IsServer s i → s.term i ≡ 0
  pub state : (i : ℕ) → IsServer s i → s.state i ≡ Secondary
  pub config : (i : ℕ) → IsServer s i → s.config i ≡ m
  pub config_version : (i : ℕ) → IsServer s i → s.config_version i ≡ 1
  pub config_term : (i : ℕ) → IsServer s i → s.config_term i ≡ 0
  pub log : (i : ℕ) → IsServer s i → s.log i ≡ []
  -- L11
  pub committed : (p u : ℕ) → ¬ (s.committed p u)

-- L13: the actions, with what the paper chooses for each
pub data Action : Type 0 where
  Reconfig BecomeLeader CommitEntry : ℕ → Set → Action
  SendConfig UpdateTerms GetEntries RollbackEntries : ℕ → ℕ → Action
  ClientRequest : ℕ → Action

-- the `require` lines, in their order
abbrev pub Requires : State → Action → Type 0
-- L15: L16, L17, L18, L19
Requires s (Reconfig i new) =
    OfServers s new × (s.state i ≡ Primary) × (Q1 s i × Q2 s i × P1 s i) × QuorumsOverlap s (s.config i) new
-- L23: L24, L25
Requires s (SendConfig i j) = (s.state j ≡ Secondary) × Older (C s j) (C s i)
-- L28: L29, L30, L31, L32, L33
Requires s (BecomeLeader i Q) =
    Quorums s (s.config i) Q
    × (i ∈ Q)
    × ((v : ℕ) → v ∈ Q → NotNewer (C s v) (C s i))
    × ((v : ℕ) → v ∈ Q → s.term v < s.term i + 1)
    × ((v : ℕ) → v ∈ Q → LogGeq s i v)
-- L39: L40
Requires s (UpdateTerms i j) = s.term j < s.term i
-- L44: L45
Requires s (ClientRequest i) = s.state i ≡ Primary
-- L48: L49, L50
Requires s (GetEntries i j) = (s.state i ≡ Secondary) × LogCheck s i j
-- L53: L54, L55
Requires s (RollbackEntries i j) = (s.state i ≡ Secondary) × CanRollback s i j
-- L58: L59, L60, L61
Requires s (CommitEntry i Q) =
    Quorums s (s.config i) Q × (s.state i ≡ Primary) × IsCommitted s (length (s.log i)) (s.term i) Q

-- ---- assignments: f is a variable before, g after; what an assignment names is read in the state before

-- g is f
abbrev pub Same : {A : Type 0} → (ℕ → A) → (ℕ → A) → Type 0
Same f g = (j : ℕ) → g j ≡ f j

-- f[k] ← a
pub record Sets {A : Type 0} (f : ℕ → A) (k : ℕ) (a : A) (g : ℕ → A) : Type 0 where
  pub here : g k ≡ a
  pub elsewhere : (j : ℕ) → j ≢ k → g j ≡ f j

-- f[j] ← a, for all j ∈ Q
pub record SetsAll {A : Type 0} (f : ℕ → A) (Q : Set) (a : A) (g : ℕ → A) : Type 0 where
  pub here : (j : ℕ) → j ∈ Q → g j ≡ a
  pub elsewhere : (j : ℕ) → ¬ (j ∈ Q) → g j ≡ f j

-- f[k] ← a; f[j] ← b, for all j ∈ Q \ {k}
pub record SetsApart {A : Type 0} (f : ℕ → A) (k : ℕ) (a : A) (Q : Set) (b : A) (g : ℕ → A) : Type 0 where
  pub here : g k ≡ a
  pub others : (j : ℕ) → j ∈ Q → j ≢ k → g j ≡ b
  pub elsewhere : (j : ℕ) → ¬ (j ∈ Q) → j ≢ k → g j ≡ f j

-- what is committed stays
abbrev pub SameCommitted : State → State → Type 0
SameCommitted s z = (p u : ℕ) → z.committed p u ↔ s.committed p u

-- the configurations stay
abbrev pub SameConfigs : State → State → Type 0
SameConfigs s z =
    Same s.config z.config × Same s.config_version z.config_version × Same s.config_term z.config_term

-- terms and states stay
abbrev pub SameRoles : State → State → Type 0
SameRoles s z = Same s.term z.term × Same s.state z.state

-- z is the state after: the assignments in their order, and then what stays
abbrev pub Assigns : State → Action → State → Type 0
-- L20, L21
Assigns s (Reconfig i new) z =
    Sets s.config i new z.config
    × Sets s.config_version i (s.config_version i + 1) z.config_version
    × Same s.config_term z.config_term
    × SameRoles s z
    × Same s.log z.log
    × SameCommitted s z
-- L26, a line for each part of C
Assigns s (SendConfig i j) z =
    Sets s.config j (s.config i) z.config
    × Sets s.config_version j (s.config_version i) z.config_version
    × Sets s.config_term j (s.config_term i) z.config_term
    × SameRoles s z
    × Same s.log z.log
    × SameCommitted s z
-- L34 and L35, L36, L37
Assigns s (BecomeLeader i Q) z =
    SetsApart s.state i Primary Q Secondary z.state
    × SetsAll s.term Q (s.term i + 1) z.term
    × Sets s.config_term i (s.term i + 1) z.config_term
    × (Same s.config z.config × Same s.config_version z.config_version)
    × Same s.log z.log
    × SameCommitted s z
-- L41, L42
Assigns s (UpdateTerms i j) z =
    Sets s.state j Secondary z.state
    × Sets s.term j (s.term i) z.term
    × SameConfigs s z
    × Same s.log z.log
    × SameCommitted s z
-- L46
Assigns s (ClientRequest i) z =
    Sets s.log i (s.log i ++ (s.term i ∷ [])) z.log × SameRoles s z × SameConfigs s z × SameCommitted s z
-- L51
Assigns s (GetEntries i j) z =
    Sets s.log i (s.log i ++ (at (s.log j) (length (s.log i) + 1) ∷ [])) z.log
    × SameRoles s z
    × SameConfigs s z
    × SameCommitted s z
-- L56
Assigns s (RollbackEntries i j) z =
    Sets s.log i (take (length (s.log i) - 1) (s.log i)) z.log × SameRoles s z × SameConfigs s z × SameCommitted s z
-- L62
Assigns s (CommitEntry i Q) z =
    ((p u : ℕ) → z.committed p u ↔ (s.committed p u ⊎ ((p ≡ length (s.log i)) × (u ≡ s.term i))))
    × SameRoles s z
    × SameConfigs s z
    × Same s.log z.log

-- an action that is allowed leads from s to z
pub record Step (s : State) (a : Action) (z : State) : Type 0 where
  pub requires : Requires s a
  pub assigns : Assigns s a z
  pub servers : z.servers ≡ s.servers

-- Lemma 1: no two servers are primary in one term
abbrev pub ElectionSafety : State → Type 0
ElectionSafety s =
    (i j : ℕ) → IsServer s i → IsServer s j → i ≢ j → ¬ ((s.state i ≡ Primary) × (s.state j ≡ Primary) × (s.term i ≡ s.term j))

-- Theorem 2: a primary has what was committed in earlier terms
abbrev pub LeaderCompleteness : State → Type 0
LeaderCompleteness s =
    (i : ℕ) → IsServer s i → (p u : ℕ) → s.committed p u → (s.state i ≡ Primary) × (u < s.term i) → InLog s p u i
