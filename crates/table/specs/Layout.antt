-- A table in words: 17 rows of 134. Row 0 has the number of servers, the rule, the floor, three 0, the 64 marks and 64 more 0; row s has server s, and
-- 0 where there is none. Assumes nothing.
use Rattle.std.specs.Prelude.{ℕ, zero, suc, ◌+◌, ◌*◌, Bool, true, false, not, ◌&&◌, List, [], ◌∷◌, ◌++◌, map, eqb, length, get_or, take, drop, replicate}
use Rattle.algorithm.specs.Table.{Entry, entry_of, Log, Server, Table, count, positions, most_servers, broken, server_with, config_of}
use Rattle.words.specs.Words.{words, bytes}

-- ---- sizes

-- the words of a row: six, and two for each position
abbrev pub row_words : ℕ
row_words = 6 + (positions + positions)

-- the words of a table: row 0, and a row for each server that there may be
abbrev pub table_words : ℕ
table_words = row_words * (1 + most_servers)

-- the bytes of a table, four to a word
abbrev pub table_bytes : ℕ
table_bytes = 4 * table_words

-- ---- from a table to bytes

-- l with 0 after it, k long
unfoldable pub padded : ℕ → List ℕ → List ℕ
padded zero l = []
padded (suc k) [] = 0 ∷ padded k []
padded (suc k) (x ∷ l) = x ∷ padded k l

-- the terms of a log
abbrev pub terms : Log → List ℕ
terms l = map (λ (e : Entry). e.term) l

-- its bakes
abbrev pub bakes : Log → List ℕ
bakes l = map (λ (e : Entry). e.bake) l

-- a row, of one server: its figures, the length of its log, the terms of its log, and their bakes
abbrev pub row : Server → List ℕ
row s =
    s.role
    ∷ s.term
    ∷ s.config.set
    ∷ s.config.version
    ∷ s.config.term
    ∷ length s.log
    ∷ (padded positions (terms s.log) ++ padded positions (bakes s.log))

-- row 0: the number of servers, the rule, the floor, and the marks; where other rows have bakes it has 0
abbrev pub head : Table → List ℕ
head t = count t ∷ t.rule ∷ t.floor ∷ 0 ∷ 0 ∷ 0 ∷ (padded positions t.marks ++ replicate positions 0)

-- k rows: those of the servers, then rows of 0
unfoldable pub rows : ℕ → List Server → List ℕ
rows zero ss = []
rows (suc k) [] = replicate row_words 0 ++ rows k []
rows (suc k) (s ∷ ss) = row s ++ rows k ss

-- the words of a table
unfoldable pub layout : Table → List ℕ
layout t = head t ++ rows most_servers t.servers

-- the bytes of a table
unfoldable pub stored : Table → List ℕ
stored t = bytes (layout t)

-- ---- from bytes to a table

-- the log of these terms, with their bakes; a bake that is missing is 0
unfoldable pub log_of : List ℕ → List ℕ → Log
log_of [] bs = []
log_of (T ∷ ts) [] = entry_of T 0 ∷ log_of ts []
log_of (T ∷ ts) (B ∷ bs) = entry_of T B ∷ log_of ts bs

-- the server whose row the words begin with
unfoldable pub server_of : List ℕ → Server
server_of d =
    server_with (get_or d 0 0) (get_or d 1 0) (config_of (get_or d 2 0) (get_or d 3 0) (get_or d 4 0))
    (log_of (take (get_or d 5 0) (drop 6 d)) (take (get_or d 5 0) (drop (6 + positions) d)))

-- the servers of the first k rows
unfoldable pub servers_of : ℕ → List ℕ → List Server
servers_of zero d = []
servers_of (suc k) d = server_of d ∷ servers_of k (drop row_words d)

-- the table that these words lay out
unfoldable pub table_of : List ℕ → Table
table_of c =
    record { servers = servers_of (get_or c 0 0) (drop row_words c); marks = take positions (drop 6 c); rule = get_or c 1 0; floor = get_or c 2 0 }

-- the table in a slice
unfoldable pub table_in : List ℕ → Table
table_in b = table_of (words b)

-- ---- a slice that is not broken

-- the two lists are equal
unfoldable pub same : List ℕ → List ℕ → Bool
same [] [] = true
same [] (y ∷ m) = false
same (x ∷ l) [] = false
same (x ∷ l) (y ∷ m) = eqb x y && same l m

-- the slice has the length of a table, is the bytes of the table in it, and that table breaks no rule
unfoldable pub whole : List ℕ → Bool
whole b = eqb (length b) table_bytes && same b (stored (table_in b)) && not (broken (table_in b))
