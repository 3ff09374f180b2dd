-- The image of a table: the opening, the contents, the bodies. Assumes nothing.
use Rattle.std.specs.Prelude.{ℕ, zero, suc, ◌+◌, ◌*◌, Bool, cond, eqb, length, get_or}
use mathlib.Core.List.{List, [], ◌∷◌, ◌++◌, map, flatten}
use Rattle.algorithm.specs.Table.{Log, Server, absent, Table, count, trimmed, positions, most_servers}
use Rattle.words.specs.Lists.{every}
use Rattle.words.specs.Words.{half, bytes}
use Rattle.table.specs.Layout.{terms, bakes}
use Rattle.image.specs.Contents.{first_body, figure_bytes, entry_bytes}

-- every bake of a server's log is 0
abbrev pub unbaked : Server → Bool
unbaked s = every (λ B. eqb B 0) (bakes s.log)

-- the width of the entries in a table's image: 0 exactly where every bake of the table is 0
unfoldable pub wide : Table → ℕ
wide t = cond (every unbaked t.servers) 0 1

-- the letters SITE, the number of servers, the width, the rule, the floor
abbrev pub opening : Table → List ℕ
opening t = 83 ∷ 73 ∷ 84 ∷ 69 ∷ count t ∷ wide t ∷ t.rule ∷ t.floor ∷ []

-- the marks in four bytes each
abbrev pub marks_body : List ℕ → List ℕ
marks_body ms = bytes (trimmed ms)

-- of each entry its term and its bake
unfoldable pub baked_words : Log → List ℕ
baked_words [] = []
baked_words (e ∷ l) = e.term ∷ e.bake ∷ baked_words l

-- the words of a log, by the width of its entries
abbrev pub log_words : ℕ → Log → List ℕ
log_words zero l = terms l
log_words (suc w) l = baked_words l

-- role, 0, set in two bytes; term, version, configuration term and the log's words in four bytes each
abbrev pub server_body : ℕ → Server → List ℕ
server_body w s =
    s.role ∷ 0 ∷ (half s.config.set ++ bytes (s.term ∷ s.config.version ∷ s.config.term ∷ log_words w s.log))

-- the marks' body, then those of the servers in order
abbrev pub bodies : Table → List (List ℕ)
bodies t = marks_body t.marks ∷ map (server_body (wide t)) t.servers

-- body e: 0 is that of the marks, s that of server s
abbrev pub body_of : Table → ℕ → List ℕ
body_of t e = get_or (bodies t) e (server_body (wide t) absent)

-- the entries of bodies that follow one another from an offset on: for each its offset and its length
unfoldable pub contents : ℕ → List (List ℕ) → List ℕ
contents at [] = []
contents at (b ∷ bs) = half at ++ (half (length b) ++ contents (at + length b) bs)

-- the opening, the contents, and the bodies one after another
unfoldable pub image : Table → List ℕ
image t = opening t ++ (contents (first_body (count t)) (bodies t) ++ flatten (bodies t))

-- the length of the longest image: that of the most servers, with every log full, a bake in one of them, and a mark at the last position
abbrev pub longest_image : ℕ
longest_image = first_body most_servers + 4 * positions + most_servers * (figure_bytes + entry_bytes 1 * positions)
