-- The table: its figures, its rules, a fresh one, and how configurations and logs compare. (What a majority is stands in `members`.) Assumes nothing.
use Rattle.std.specs.Prelude.{ℕ, zero, suc, ◌-◌, Bool, not, ◌||◌, ◌&&◌, true, false, List, [], ◌∷◌, ◌++◌, map, leb, eqb, ltb, length, take, replicate}
use Rattle.words.specs.Lists.{nth, replace, every, between}
use Rattle.members.specs.Members.{within}

-- ---- figures

-- a configuration: a set of servers, a version, a configuration term
pub record Config : Type 0 where
  pub set : ℕ
  pub version : ℕ
  pub term : ℕ

-- the configuration of these three
abbrev pub config_of : ℕ → ℕ → ℕ → Config
config_of M v T = record { set = M; version = v; term = T }

-- an entry of a log: its term, and the bake that it names
pub record Entry : Type 0 where
  pub term : ℕ
  pub bake : ℕ

-- the entry of these two
abbrev pub entry_of : ℕ → ℕ → Entry
entry_of T B = record { term = T; bake = B }

-- what stands for an entry that is not in a log
abbrev pub no_entry : Entry
no_entry = entry_of 0 0

-- a log: its entries in order
abbrev pub Log : Type 0
Log = List Entry

-- the log of these terms, with bake 0 in each entry
abbrev pub entries : List ℕ → Log
entries l = map (λ T. entry_of T 0) l

-- a server: its role is 0 for secondary, 1 for primary
pub record Server : Type 0 where
  pub role : ℕ
  pub term : ℕ
  pub config : Config
  pub log : Log

-- the servers in the order of their numbers; a mark a position: the term that was committed there, or 0; the rule: 0 for rule 1, 1 for rule 2;
-- and the floor: the least number of members that a new set may have
pub record Table : Type 0 where
  pub servers : List Server
  pub marks : List ℕ
  pub rule : ℕ
  pub floor : ℕ

-- n, the number of servers
abbrev pub count : Table → ℕ
count t = length t.servers

-- the server of these
abbrev pub server_with : ℕ → ℕ → Config → Log → Server
server_with r T C l = record { role = r; term = T; config = C; log = l }

-- what stands for a server that is not in the table
abbrev pub absent : Server
absent = server_with 0 0 (config_of 0 0 0) []

-- server i
abbrev pub server : Table → ℕ → Server
server t i = nth t.servers i absent

-- its role is primary
abbrev pub primary : Server → Bool
primary s = eqb s.role 1

-- its role is secondary
abbrev pub secondary : Server → Bool
secondary s = eqb s.role 0

-- the entry at a position, or none
abbrev pub entry_at : Log → ℕ → Entry
entry_at l p = nth l p no_entry

-- the term at a position, or 0
abbrev pub term_at : Log → ℕ → ℕ
term_at l p = (entry_at l p).term

-- the bake at a position, or 0
abbrev pub bake_at : Log → ℕ → ℕ
bake_at l p = (entry_at l p).bake

-- the term committed at a position, or 0
abbrev pub mark : Table → ℕ → ℕ
mark t p = nth t.marks p 0

-- ---- a table with other figures

-- the table with these servers
abbrev pub with_servers : List Server → Table → Table
with_servers ss t = record { servers = ss; marks = t.marks; rule = t.rule; floor = t.floor }

-- the table with these marks
abbrev pub with_marks : List ℕ → Table → Table
with_marks ms t = record { servers = t.servers; marks = ms; rule = t.rule; floor = t.floor }

-- the table with s as server i
abbrev pub with_server : Table → ℕ → Server → Table
with_server t i s = with_servers (replace t.servers i s) t

-- the table with server i changed by f
abbrev pub changed : Table → ℕ → (Server → Server) → Table
changed t i f = with_server t i (f (server t i))

-- the table with the mark v at position p
abbrev pub with_mark : Table → ℕ → ℕ → Table
with_mark t p v = with_marks (replace t.marks p v) t

-- the server with the role v
abbrev pub with_role : ℕ → Server → Server
with_role v s = server_with v s.term s.config s.log

-- the server with the term T
abbrev pub with_term : ℕ → Server → Server
with_term T s = server_with s.role T s.config s.log

-- the server with the configuration C
abbrev pub with_config : Config → Server → Server
with_config C s = server_with s.role s.term C s.log

-- the server with the log l
abbrev pub with_log : Log → Server → Server
with_log l s = server_with s.role s.term s.config l

-- the server with the entry e behind its log
abbrev pub with_entry : Entry → Server → Server
with_entry e s = with_log (s.log ++ (e ∷ [])) s

-- the server without its last entry
abbrev pub without_last : Server → Server
without_last s = with_log (take (length s.log - 1) s.log) s

-- ---- rules

-- the largest term and the largest version
abbrev pub ceiling : ℕ
ceiling = 1000000000

-- the largest bake: what four bytes hold
abbrev pub largest_bake : ℕ
largest_bake = 4294967295

-- the number of positions: the longest log, and the marks
abbrev pub positions : ℕ
positions = 64

-- the most servers that a table has
abbrev pub most_servers : ℕ
most_servers = 16

-- a configuration: its set has some of n servers and no other, its version is from 1, and both its counters are up to the ceiling
abbrev pub sound_config : ℕ → Config → Bool
sound_config n c = within c.set n && between 1 ceiling c.version && leb c.term ceiling

-- an entry: a term 1 to the ceiling, and a bake up to the largest
abbrev pub sound_entry : Entry → Bool
sound_entry e = between 1 ceiling e.term && leb e.bake largest_bake

-- a server: secondary, or primary of a term from 1; its term up to the ceiling; its configuration, and each of at most 64 entries, as above
abbrev pub sound_server : ℕ → Server → Bool
sound_server n s =
    (primary s && leb 1 s.term || secondary s)
    && leb s.term ceiling
    && sound_config n s.config
    && leb (length s.log) positions
    && every sound_entry s.log

-- the marks: one for each position, up to the ceiling, 0 for none
abbrev pub sound_marks : List ℕ → Bool
sound_marks ms = eqb (length ms) positions && every (λ m. leb m ceiling) ms

-- the number of servers: from 1 to the most
abbrev pub sound_count : ℕ → Bool
sound_count n = between 1 most_servers n

-- the rule: one of the two
abbrev pub sound_rule : ℕ → Bool
sound_rule R = leb R 1

-- the floor: from 0 to the most servers, whatever n is
abbrev pub sound_floor : ℕ → Bool
sound_floor F = leb F most_servers

-- the table is broken: the number of servers, one of them, the marks, the rule or the floor are not as above
unfoldable pub broken : Table → Bool
broken t =
    not
    (sound_count (count t) && every (sound_server (count t)) t.servers && sound_marks t.marks && sound_rule t.rule && sound_floor t.floor)

-- a server before any action, with the set M
abbrev pub fresh_server : ℕ → Server
fresh_server M = server_with 0 0 (config_of M 1 0) []

-- n such servers under the rule R and with the floor F, and no marks; where n is not 1 to 16, M is empty or not within n, R is above 1, or F is
-- above 16, this table is broken
abbrev pub fresh : ℕ → ℕ → ℕ → ℕ → Table
fresh n M R F = record { servers = replicate n (fresh_server M); marks = replicate positions 0; rule = R; floor = F }

-- ---- marks as an image and a report give them

-- m before the marks ms, but a 0 with nothing behind it is left out
abbrev pub kept : ℕ → List ℕ → List ℕ
kept zero [] = []
kept (suc m) [] = suc m ∷ []
kept m (x ∷ ms) = m ∷ x ∷ ms

-- the marks without the zeros at their end
unfoldable pub trimmed : List ℕ → List ℕ
trimmed [] = []
trimmed (m ∷ ms) = kept m (trimmed ms)

-- ---- comparisons

-- the numbers a and p come after b and q: by the first, and where these are equal by the second
abbrev pub later : ℕ → ℕ → ℕ → ℕ → Bool
later a p b q = ltb b a || eqb a b && ltb q p

-- C is newer than D: by its configuration term, and where these are equal by its version
abbrev pub newer : Config → Config → Bool
newer C D = later C.term C.version D.term D.version

-- the last entry's term; of an empty log 0
abbrev pub last : Log → ℕ
last l = term_at l (length l)

-- l is ahead of m: by its last entry, and where these are equal by its length
abbrev pub ahead : Log → Log → Bool
ahead l m = later (last l) (length l) (last m) (length m)

-- the entry (p, T) is held by l: l has the term T at position p
abbrev pub held : Log → ℕ → ℕ → Bool
held l p T = between 1 (length l) p && eqb (term_at l p) T

-- l is a prefix of m
unfoldable pub prefix : Log → Log → Bool
prefix [] m = true
prefix (e ∷ l) [] = false
prefix (e ∷ l) (f ∷ m) = eqb e.term f.term && prefix l m
