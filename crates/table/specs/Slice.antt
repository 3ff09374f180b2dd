-- A server's figures by value, and what the functions ask and promise of a slice that holds a table. Assumes nothing.
use Rattle.std.specs.Prelude.{ℕ, ◌≤◌, ◌<◌, ◌≡◌, List, [], ◌∷◌}
use lib.ListN.{length, replicate}
use Rattle.words.specs.Words.{words}
use Rattle.algorithm.specs.Table.{config_of, Log, Server, absent, Table, count, positions, most_servers, last, server_with}
use Rattle.table.specs.declared.figures.Figures.{Figures}
use Rattle.table.specs.Layout.{table_bytes, layout, table_in}
use Rattle.table.specs.declared.rows.Row.{Row}

-- the figures of a server: all but its log
abbrev pub figures_of : Server → Figures
figures_of s =
    record {
      role = s.role;
      term = record { 0 = s.term };
      set = s.config.set;
      version = record { 0 = s.config.version };
      config = record { 0 = s.config.term };
    }

-- the server with these figures and this log
abbrev pub figured : Figures → Log → Server
figured f l = server_with f.role f.term.0 (config_of f.set f.version.0 f.config.0) l

-- a log of n entries has room in a row, and the set m in 16 bits
pub record Room (n m : ℕ) : Type 0 where
  pub short : n ≤ positions
  pub small : m < 65536

-- a server that has room in a row
abbrev pub Roomy : Server → Type 0
Roomy s = Room (length s.log) s.config.set

-- all of them have
abbrev pub AllRoomy : List Server → Type 0
AllRoomy [] = Unit {0}
AllRoomy (s ∷ ss) = Roomy s × AllRoomy ss

-- a table that has room in the slice
pub record Shaped (t : Table) : Type 0 where
  pub few : count t ≤ most_servers
  pub roomy : AllRoomy t.servers
  pub marked : length t.marks ≡ positions

-- the slice holds the table
pub record Holds (b : List ℕ) (t : Table) : Type 0 where
  pub sized : length b ≡ table_bytes
  pub laid : words b ≡ layout t
  pub shaped : Shaped t

-- the slice holds a table
abbrev pub Held : List ℕ → Type 0
Held b = Holds b (table_in b)

-- the slice b has become b', which holds t, a table of as many servers
pub record Became (b b' : List ℕ) (t : Table) : Type 0 where
  pub holds : Holds b' t
  pub held : Held b'
  pub same : count (table_in b') ≡ count (table_in b)

-- s is a server of the table t
pub record Within (t : Table) (s : ℕ) : Type 0 where
  pub some : 1 ≤ s
  pub known : s ≤ count t

-- n servers of which nothing is known yet, under the rule R and with the floor F, and no marks
abbrev pub blank : ℕ → ℕ → ℕ → Table
blank n R F = record { servers = replicate n absent; marks = replicate positions 0; rule = R; floor = F }

-- what the code reads of a server at once: its figures, and of its log the length and the last entry
abbrev pub seen : Server → Row
seen s =
    record {
      figures = figures_of s;
      length = record { 0 = lib.ListN.length s.log };
      last = record { 0 = Rattle.algorithm.specs.Table.last s.log };
    }
