-- The nine kinds of action: for each the refusals that are its own, in the order in which they are looked at, and the table after it.
-- Assumes nothing.
use Rattle.std.specs.Prelude.{ℕ, zero, suc, ◌+◌, Bool, true, false, cond, not, ◌||◌, ◌&&◌, List, [], ◌∷◌, ◌++◌, leb, ltb, eqb, length}
use Rattle.words.specs.Refusal.{Shown, nothing, Refusal, refuse, refuse_showing, first, unless_refused}
use Rattle.members.specs.Members.{member, majority, some_pass, most_pass, lowest_in}
use Rattle.members.specs.Rules.{may_follow, below_floor, old_apart, new_apart}
use Rattle.algorithm.specs.Table.{Config, config_of, entry_of, Log, Server, Table, count, server, primary, secondary, entry_at, term_at, mark, with_servers, with_server, changed, with_mark, with_role, with_term, with_config, with_entry, without_last, ceiling, positions, newer, last, ahead, held, prefix}

-- ---- what the kinds share

-- what is shown of one server
abbrev pub one_server : ℕ → Shown
one_server s = record { server = s; copied = 0; old = 0; new = 0 }

-- refusal k, which holds where some member of Q has a fault, and shows the lowest member that has it
abbrev pub refuse_fault : ℕ → Table → (ℕ → Bool) → ℕ → Refusal
refuse_fault k t fault Q = refuse_showing k (some_pass (count t) fault Q) (one_server (lowest_in (count t) fault Q))

-- the server with the term T, secondary
abbrev pub stepped_down : ℕ → Server → Server
stepped_down T s = with_role 0 (with_term T s)

-- ---- 1: elect i by the set Q

-- server s has a larger term than i
abbrev pub larger_term : Table → ℕ → ℕ → Bool
larger_term t i s = ltb (server t i).term (server t s).term

-- server s has a newer configuration than i
abbrev pub newer_config : Table → ℕ → ℕ → Bool
newer_config t i s = newer (server t s).config (server t i).config

-- server s has a log that is ahead of i's
abbrev pub log_ahead : Table → ℕ → ℕ → Bool
log_ahead t i s = ahead (server t s).log (server t i).log

-- 8 and 9: the voters' terms and configurations
abbrev pub config_refusals : Table → ℕ → ℕ → List Refusal
config_refusals t i Q = refuse_fault 8 t (larger_term t i) Q ∷ refuse_fault 9 t (newer_config t i) Q ∷ []

-- 7 to 9: these, and before them who votes
abbrev pub voter_refusals : Table → ℕ → ℕ → List Refusal
voter_refusals t i Q =
    refuse 7 (not (majority Q (server t i).config.set) || not (member i Q)) ∷ config_refusals t i Q

-- 10: the voters' logs
abbrev pub log_refusals : Table → ℕ → ℕ → List Refusal
log_refusals t i Q = refuse_fault 10 t (log_ahead t i) Q ∷ []

-- 11: i has the last term
abbrev pub last_term_refusals : Table → ℕ → List Refusal
last_term_refusals t i = refuse 11 (eqb (server t i).term ceiling) ∷ []

-- elect: 7 to 11
abbrev pub elect_refusals : Table → ℕ → ℕ → List Refusal
elect_refusals t i Q = voter_refusals t i Q ++ (log_refusals t i Q ++ last_term_refusals t i)

-- of the servers k, k + 1, .., the members of Q with the term T, secondary; the others as they are
unfoldable pub voters_from : ℕ → ℕ → ℕ → List Server → List Server
voters_from k Q T [] = []
voters_from k Q T (s ∷ ss) = cond (member k Q) (stepped_down T s) s ∷ voters_from (suc k) Q T ss

-- every member of Q has the term T and is secondary
abbrev pub voted : Table → ℕ → ℕ → Table
voted t Q T = with_servers (voters_from 1 Q T t.servers) t

-- the server as primary, with T for its term and its configuration term; its set, version and log stay
abbrev pub winner : ℕ → Server → Server
winner T s = with_role 1 (with_term T (with_config (config_of s.config.set s.config.version T) s))

-- all of Q goes to the term T that follows i's; i is its primary, with T for a configuration term too, and the rest of Q is secondary
abbrev pub elect_after : Table → ℕ → ℕ → Table
elect_after t i Q =
    let a = server t i in
    let T = a.term + 1 in
    with_server (voted t Q T) i (winner T a)

-- ---- 2: reconfigure i to the set M

-- server s has i's version and configuration term
abbrev pub same_config : Table → ℕ → ℕ → Bool
same_config t i s =
    eqb (server t s).config.version (server t i).config.version && eqb (server t s).config.term (server t i).config.term

-- server s has i's term
abbrev pub same_term : Table → ℕ → ℕ → Bool
same_term t i s = eqb (server t s).term (server t i).term

-- one of the marks is of the term T (never 0 here: a primary's is asked for)
unfoldable pub some_marked : List ℕ → ℕ → Bool
some_marked [] T = false
some_marked (m ∷ ms) T = eqb m T || some_marked ms T

-- the log l holds every entry marked with the term T at the positions 1 to k
unfoldable pub holds_marked : ℕ → Table → ℕ → Log → Bool
holds_marked zero t T l = true
holds_marked (suc k) t T l = (not (eqb (mark t (suc k)) T) || held l (suc k) T) && holds_marked k t T l

-- server s has i's term and holds every entry marked with it
abbrev pub holds_committed : Table → ℕ → ℕ → Bool
holds_committed t i s = same_term t i s && holds_marked positions t (server t i).term (server t s).log

-- Q1: those of i's set that share its version and configuration term are a majority of it
abbrev pub q1 : Table → ℕ → Bool
q1 t i = most_pass (count t) (same_config t i) (server t i).config.set

-- Q2: so are those that share its term
abbrev pub q2 : Table → ℕ → Bool
q2 t i = most_pass (count t) (same_term t i) (server t i).config.set

-- P1: i's term is on a mark, and those of i's set that share the term and hold all that it marks are a majority of it
abbrev pub p1 : Table → ℕ → Bool
p1 t i = some_marked t.marks (server t i).term && most_pass (count t) (holds_committed t i) (server t i).config.set

-- what is shown of two majorities, one of the old set and one of the new
abbrev pub two_sets : ℕ → ℕ → Shown
two_sets old new = record { server = 0; copied = 0; old = old; new = new }

-- what is shown where a set may not follow another: under rule 1 nothing, under rule 2 the lowest pair of majorities apart
abbrev pub apart_shown : ℕ → ℕ → ℕ → Shown
apart_shown zero old new = nothing
apart_shown (suc k) old new = two_sets (old_apart old new) (new_apart old new)

-- 6, 11 to 13 and 25: the leader and its new set
abbrev pub new_set_refusals : Table → ℕ → ℕ → List Refusal
new_set_refusals t i M =
    let a = server t i in
    refuse 6 (not (primary a))
    ∷ refuse 11 (eqb a.config.version ceiling)
    ∷ refuse 12 (not (member i M))
    ∷ refuse_showing 13 (not (may_follow t.rule a.config.set M)) (apart_shown t.rule a.config.set M)
    ∷ refuse 25 (below_floor t.floor M)
    ∷ []

-- 14 and 15: Q1 and Q2
abbrev pub majority_refusals : Table → ℕ → List Refusal
majority_refusals t i = refuse 14 (not (q1 t i)) ∷ refuse 15 (not (q2 t i)) ∷ []

-- 16: P1
abbrev pub mark_refusals : Table → ℕ → List Refusal
mark_refusals t i = refuse 16 (not (p1 t i)) ∷ []

-- reconfigure: 6, 11 to 13, 25 and 14 to 16, in this order
abbrev pub reconfigure_refusals : Table → ℕ → ℕ → List Refusal
reconfigure_refusals t i M = new_set_refusals t i M ++ (majority_refusals t i ++ mark_refusals t i)

-- the configuration with the set M and the next version; its term is C's
abbrev pub next_config : ℕ → Config → Config
next_config M C = config_of M (C.version + 1) C.term

-- i's set is M, and its version has grown by 1
abbrev pub reconfigure_after : Table → ℕ → ℕ → Table
reconfigure_after t i M =
    let a = server t i in
    with_server t i (with_config (next_config M a.config) a)

-- ---- 3: send i's configuration to j

-- send: 6, which looks at j alone, and 17
abbrev pub send_refusals : Table → ℕ → ℕ → List Refusal
send_refusals t i j =
    let a = server t i in
    let b = server t j in
    refuse 6 (not (secondary b)) ∷ refuse 17 (not (newer a.config b.config)) ∷ []

-- j has i's configuration
abbrev pub send_after : Table → ℕ → ℕ → Table
send_after t i j = with_server t j (with_config (server t i).config (server t j))

-- ---- 4: spread i's term to j

-- spread: 18
abbrev pub spread_refusals : Table → ℕ → ℕ → List Refusal
spread_refusals t i j = refuse 18 (not (ltb (server t j).term (server t i).term)) ∷ []

-- j has i's term and is secondary
abbrev pub spread_after : Table → ℕ → ℕ → Table
spread_after t i j = with_server t j (stepped_down (server t i).term (server t j))

-- ---- 5: write the bake B at i

-- write: 6 and 19
abbrev pub write_refusals : Table → ℕ → List Refusal
write_refusals t i =
    let a = server t i in
    refuse 6 (not (primary a)) ∷ refuse 19 (leb positions (length a.log)) ∷ []

-- i's term stands at the end of its log, with the bake B
abbrev pub write_after : Table → ℕ → ℕ → Table
write_after t i B = changed t i (with_entry (entry_of (server t i).term B))

-- ---- 6: fetch to i from j

-- l is empty, or m has l's last entry at the same position
abbrev pub joins : Log → Log → Bool
joins l m = eqb (length l) 0 || eqb (last l) (term_at m (length l))

-- fetch: 6 and 20
abbrev pub fetch_refusals : Table → ℕ → ℕ → List Refusal
fetch_refusals t i j =
    let a = server t i in
    let b = server t j in
    refuse 6 (not (secondary a))
    ∷ refuse 20 (not (ltb (length a.log) (length b.log)) || not (joins a.log b.log))
    ∷ []

-- j's entry behind i's length, its term and its bake, stands at the end of i's log
abbrev pub fetch_after : Table → ℕ → ℕ → Table
fetch_after t i j = changed t i (with_entry (entry_at (server t j).log (length (server t i).log + 1)))

-- ---- 7: roll back i against j

-- roll back: 6 and 21
abbrev pub roll_back_refusals : Table → ℕ → ℕ → List Refusal
roll_back_refusals t i j =
    let a = server t i in
    let b = server t j in
    refuse 6 (not (secondary a)) ∷ refuse 21 (not (ltb (last a.log) (last b.log)) || prefix a.log b.log) ∷ []

-- i's last entry is gone
abbrev pub roll_back_after : Table → ℕ → ℕ → Table
roll_back_after t i j = changed t i without_last

-- ---- 8: commit at i by the set Q

-- server s has i's term, and holds an entry of that term at position p
abbrev pub supports_at : Table → ℕ → ℕ → ℕ → Bool
supports_at t i p s = same_term t i s && held (server t s).log p (server t i).term

-- it does not: it has another term, or lacks the entry
abbrev pub opposes_at : Table → ℕ → ℕ → ℕ → Bool
opposes_at t i p s = not (supports_at t i p s)

-- the server has no entry, or the last one is of another term than its own
abbrev pub lacks_entry : Server → Bool
lacks_entry a = eqb (length a.log) 0 || not (eqb (last a.log) a.term)

-- the position of i's last entry is marked with another term than i's
abbrev pub marked_otherwise : Table → ℕ → Bool
marked_otherwise t i =
    let m = mark t (length (server t i).log) in
    not (eqb m 0) && not (eqb m (server t i).term)

-- 6, 7, 22 and 23: the leader, its voters and its last entry, which is of its own term where 22 does not hold
abbrev pub entry_refusals : Table → ℕ → ℕ → List Refusal
entry_refusals t i Q =
    let a = server t i in
    refuse 6 (not (primary a))
    ∷ refuse 7 (not (majority Q a.config.set))
    ∷ refuse 22 (lacks_entry a)
    ∷ refuse_fault 23 t (opposes_at t i (length a.log)) Q
    ∷ []

-- commit: 6, 7 and 22 to 24
abbrev pub commit_refusals : Table → ℕ → ℕ → List Refusal
commit_refusals t i Q = entry_refusals t i Q ++ (refuse 24 (marked_otherwise t i) ∷ [])

-- the position of i's last entry is marked with i's term
abbrev pub commit_after : Table → ℕ → ℕ → Table
commit_after t i Q =
    let a = server t i in
    with_mark t (length a.log) a.term

-- ---- 9: fetch a stretch of c entries to i from j; its refusals are those of a fetch

-- single fetches one after another: how many were taken, and the table after them
pub record Fetched : Type 0 where
  pub copied : ℕ
  pub table : Table

-- no fetch, of the table t
abbrev pub no_fetch : Table → Fetched
no_fetch t = record { copied = 0; table = t }

-- a fetch, and then those of f
abbrev pub one_fetch : Fetched → Fetched
one_fetch f = record { copied = suc f.copied; table = f.table }

-- c fetches to i from j, without the first that would be refused and those behind it
unfoldable pub fetches : ℕ → Table → ℕ → ℕ → Fetched
fetches zero t i j = no_fetch t
fetches (suc c) t i j = unless_refused (first (fetch_refusals t i j)) (one_fetch (fetches c (fetch_after t i j) i j)) (no_fetch t)

-- what is shown of k entries copied
abbrev pub copied_shown : ℕ → Shown
copied_shown k = record { server = 0; copied = k; old = 0; new = 0 }
