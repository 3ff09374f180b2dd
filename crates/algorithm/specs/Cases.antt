-- The worked cases of document 01 that are marked to be proved, in its order, each with what it must give, under rule 1 and with no floor, and behind
-- "send 1 to 1" at a primary request (iv)'s at a secondary; and those of document 02 on the two rules, on floors and on bakes. Assumes nothing.
use Rattle.std.specs.Prelude.{ℕ, List, [], ◌∷◌, ◌++◌, length, replicate}
use Rattle.members.specs.Members.{one}
use Rattle.algorithm.specs.Table.{config_of, entries, Server, Table, server, bake_at, with_servers, with_server, with_mark, with_role, with_term, with_config, with_log, fresh_server, fresh, newer, ahead}
use Rattle.words.specs.Words.{half}
use Rattle.algorithm.specs.Actions.{winner}
use Rattle.algorithm.specs.Run.{numbers, replies_bytes, pieces, run, bakes_given}

infix 20 ◌gives◌
-- what a case gives, and what it must give: replies (0 for taken), truth values as 0 and 1, lengths
pub record Case : Type 0 where
  pub gives : List ℕ
  pub expected : List ℕ

-- a case
abbrev pub ◌gives◌ : List ℕ → List ℕ → Case
g gives e = record { gives = g; expected = e }

-- an action's bytes
abbrev pub action_bytes : ℕ → ℕ → ℕ → ℕ → List ℕ
action_bytes kind i j m = kind ∷ i ∷ j ∷ 0 ∷ (half m ++ (0 ∷ 0 ∷ []))

-- the numbers of a plan's replies
abbrev pub replies : Table → List ℕ → List ℕ
replies t p = numbers (run t p).replies

-- two secondaries with these logs
abbrev pub two : List ℕ → List ℕ → Table
two l m =
    with_server (with_server (fresh 2 3 0 0) 1 (with_log (entries l) (fresh_server 3))) 2 (with_log (entries m) (fresh_server 3))

-- one server, primary of term 1
abbrev pub alone : Table
alone = with_server (fresh 1 1 0 0) 1 (winner 1 (fresh_server 1))

-- roll back 1 against 2, twice
abbrev pub back_twice : List ℕ
back_twice = action_bytes 7 1 2 0 ++ action_bytes 7 1 2 0

-- the cases, a line each, and a second one for the log that rolls back to empty
unfoldable pub cases : List Case
cases =
    (replies (fresh 1 1 0 0) (action_bytes 1 1 0 1) gives 0 ∷ [])
    ∷ (replies (fresh 4 15 0 0) (action_bytes 1 1 0 3) gives 7 ∷ [])
    ∷ (replies (fresh 4 15 0 0) (action_bytes 1 1 0 7) gives 0 ∷ [])
    ∷ (one (newer (config_of 1 1 2) (config_of 1 9 1)) ∷ [] gives 1 ∷ [])
    ∷ (one (ahead (entries (2 ∷ [])) (entries (1 ∷ 1 ∷ 1 ∷ []))) ∷ [] gives 1 ∷ [])
    ∷ (one (ahead (entries (1 ∷ 1 ∷ [])) (entries (1 ∷ []))) ∷ [] gives 1 ∷ [])
    ∷ (replies (two (1 ∷ []) (2 ∷ 2 ∷ [])) (action_bytes 6 1 2 0) gives 20 ∷ [])
    ∷ (replies (two (1 ∷ []) (1 ∷ 2 ∷ [])) (action_bytes 6 1 2 0) gives 0 ∷ [])
    ∷ (replies (two (1 ∷ 1 ∷ []) (2 ∷ [])) back_twice gives 0 ∷ 0 ∷ [])
    ∷ (length (server (run (two (1 ∷ 1 ∷ []) (2 ∷ [])) back_twice).table 1).log ∷ [] gives 0 ∷ [])
    ∷ (replies (two (1 ∷ []) (1 ∷ 2 ∷ [])) (action_bytes 7 1 2 0) gives 21 ∷ [])
    ∷ (replies alone (action_bytes 3 1 1 0) gives 6 ∷ [])
    ∷ (replies (fresh 1 1 0 0) (action_bytes 3 1 1 0) gives 17 ∷ [])
    ∷ (replies alone (action_bytes 4 1 1 0) gives 18 ∷ [])
    ∷ (replies (fresh 4 15 0 0) (action_bytes 8 1 0 3) gives 6 ∷ [])
    ∷ []

-- ---- which set may follow which (document 02, request (i))

-- a server of term 1 with the set M and one entry
abbrev pub following : ℕ → Server
following M = with_log (entries (1 ∷ [])) (with_term 1 (with_config (config_of M 1 1) (fresh_server M)))

-- five such servers under the rule R and with the floor F; server 1 leads, and the entry is committed
abbrev pub led : ℕ → ℕ → ℕ → Table
led R F M =
    with_mark (with_server (with_servers (replicate 5 (following M)) (fresh 5 M R F)) 1 (with_role 1 (following M))) 1 1

-- the eight bytes of the reply where server 1 changes its set from M to N under the rule R and with the floor F
abbrev pub change : ℕ → ℕ → ℕ → ℕ → List ℕ
change R F M N = replies_bytes (run (led R F M) (action_bytes 2 1 0 N)).replies

-- taken
abbrev pub allowed : List ℕ
allowed = replicate 8 0

-- refused, and the two majorities that are shown
abbrev pub not_allowed : ℕ → ℕ → List ℕ
not_allowed q r = 13 ∷ 0 ∷ 0 ∷ 0 ∷ (half q ++ half r)

-- {1,2,3,4} to {1,2,3,5}, {1,2,3} to {1,2,4} and the unchanged set, under rule 2 and under rule 1; the unchanged set's version grows
unfoldable pub changes : List Case
changes =
    (change 1 0 15 23 gives allowed)
    ∷ (change 1 0 7 11 gives not_allowed 5 10)
    ∷ (change 1 0 7 7 gives allowed)
    ∷ (change 0 0 15 23 gives not_allowed 0 0)
    ∷ (change 0 0 7 11 gives not_allowed 0 0)
    ∷ (change 0 0 7 7 gives not_allowed 0 0)
    ∷ ((server (run (led 1 0 7) (action_bytes 2 1 0 7)).table 1).config.version ∷ [] gives 2 ∷ [])
    ∷ []

-- ---- the floor (document 02, request (vii))

-- refused, with fewer members than the floor
abbrev pub too_few : List ℕ
too_few = 25 ∷ replicate 7 0

-- two servers of which server 1 has just won term 1, with the floor F
abbrev pub unheard : ℕ → Table
unheard F = with_server (fresh 2 3 0 F) 1 (winner 1 (fresh_server 3))

-- {1,2} to {1} with the floors 2, 1 and 0; sets that grow, below the floor and up to it; the unchanged set under rule 2; a floor above n; 13
-- before 25, and 25 before 14; and a first set, an election and a configuration sent, all below the floor
unfoldable pub floors : List Case
floors =
    (change 0 2 3 1 gives too_few)
    ∷ (change 0 1 3 1 gives allowed)
    ∷ (change 0 0 3 1 gives allowed)
    ∷ (change 0 3 1 3 gives too_few)
    ∷ (change 0 3 3 7 gives allowed)
    ∷ (change 1 4 7 7 gives too_few)
    ∷ (change 1 3 7 7 gives allowed)
    ∷ (change 0 6 15 31 gives too_few)
    ∷ (change 1 4 7 11 gives not_allowed 5 10)
    ∷ (replies (unheard 2) (action_bytes 2 1 0 1) gives 25 ∷ [])
    ∷ (replies (unheard 1) (action_bytes 2 1 0 1) gives 14 ∷ [])
    ∷ (replies (fresh 3 3 0 16) (action_bytes 1 1 0 3) gives 0 ∷ [])
    ∷ (replies (unheard 16) (action_bytes 3 1 2 0) gives 0 ∷ [])
    ∷ []

-- ---- bakes (document 02, request (viii))

-- a write at server 1 with these last four bytes
abbrev pub writing : List ℕ → List ℕ
writing bake = 5 ∷ 1 ∷ 0 ∷ 0 ∷ bake

-- server 1 wins and writes twice; server 2 fetches the first entry, and server 3 copies both
abbrev pub baked : List ℕ
baked =
    action_bytes 1 1 0 3
    ++ writing (1 ∷ 2 ∷ 3 ∷ 4 ∷ [])
    ++ writing (replicate 4 255)
    ++ action_bytes 6 2 1 0
    ++ action_bytes 9 3 1 2

-- the bake that this leaves at server i at position p
abbrev pub bake_left : ℕ → ℕ → ℕ
bake_left i p = bake_at (server (run (fresh 3 7 0 0) baked).table i).log p

-- a fetch to server 1 from server 2, which has one to give, with these last four bytes
abbrev pub fetching : List ℕ → List ℕ
fetching rest = replies (two (1 ∷ []) (1 ∷ 2 ∷ [])) (6 ∷ 1 ∷ 2 ∷ 0 ∷ rest)

-- both writes are taken, their bakes copied, and the second one's known by its term and position; a fetch has none of those bytes, and a write
-- neither a second server nor byte 3
unfoldable pub bakes : List Case
bakes =
    (replies (fresh 3 7 0 0) baked gives replicate 5 0)
    ∷ (bake_left 2 1 ∷ bake_left 3 1 ∷ bake_left 3 2 ∷ [] gives 67305985 ∷ 67305985 ∷ 4294967295 ∷ [])
    ∷ (bakes_given (fresh 3 7 0 0) (pieces 5 baked) 1 2 gives 4294967295 ∷ [])
    ∷ (fetching (0 ∷ 0 ∷ 0 ∷ 0 ∷ []) gives 0 ∷ [])
    ∷ (fetching (1 ∷ 2 ∷ 0 ∷ 0 ∷ []) gives 3 ∷ [])
    ∷ (fetching (0 ∷ 0 ∷ 3 ∷ 4 ∷ []) gives 3 ∷ [])
    ∷ (replies alone (5 ∷ 1 ∷ 1 ∷ 0 ∷ replicate 4 0) gives 3 ∷ [])
    ∷ (replies alone (5 ∷ 1 ∷ 0 ∷ 1 ∷ replicate 4 0) gives 3 ∷ [])
    ∷ []
