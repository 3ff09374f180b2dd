-- The lines that `rehearse` prints, as bytes: one by one, those of a table and its actions, and the case that document 01 prints. Assumes nothing.
use Rattle.std.specs.Prelude.{ℕ, suc, ◌+◌, ◌*◌, ◌-◌, ◌/◌, ◌%◌, cond, List, [], ◌∷◌, ◌++◌, map, eqb, length, take}
use Prim.Native.String.{String}
use Rattle.words.specs.Refusal.{Shown, Answer, unless_refused}
use Rattle.algorithm.specs.Table.{Server, positions, most_servers, trimmed, Table}
use Rattle.algorithm.specs.Run.{run}
use Rattle.algorithm.specs.Cases.{action_bytes}
use Rattle.table.specs.Slice.{seen}
use Rattle.table.specs.declared.rows.Row.{Row}
use Rattle.buffer.specs.Buffer.{text, number_room, decimal, field_room, field, fields}

-- ---- lines on actions

-- two majorities, where some are shown
unfoldable pub pair : Shown → List ℕ
pair s = cond (eqb s.old 0) [] (fields (s.old ∷ s.new ∷ []))

-- how many entries were copied, where some were
unfoldable pub copies : Shown → List ℕ
copies s = cond (eqb s.copied 0) [] (field s.copied)

-- the server that stands in the way, where one is shown; and else two majorities
unfoldable pub beside : Shown → List ℕ
beside s = cond (eqb s.server 0) (pair s) (text " at" ++ field s.server)

-- a reply: 0 is taken
unfoldable pub reply : Answer → List ℕ
reply a = unless_refused a.number (text " taken" ++ copies a.shown) (text " refused" ++ field a.number ++ beside a.shown)

-- action k has the reply a
unfoldable pub replied_line : ℕ → Answer → List ℕ
replied_line k a = decimal k ++ reply a ++ text "\n"

-- fewer than 8 bytes, but some, are left for action k
unfoldable pub cut_line : ℕ → List ℕ
cut_line k = decimal k ++ text " cut\n"

-- ---- lines on the input

-- the reader refuses the image with the number r
unfoldable pub bad_site_line : ℕ → List ℕ
bad_site_line r = text "bad site" ++ field r ++ text "\n"

-- the input is longer than allowed
unfoldable pub too_long_line : List ℕ
too_long_line = text "too long\n"

-- ---- lines on the last table

-- a role: 1 is primary
unfoldable pub letter : ℕ → List ℕ
letter r = cond (eqb r 1) (text " P") (text " S")

-- the figures behind the role
abbrev pub figures : Row → List ℕ
figures a = a.figures.term.0 ∷ a.figures.set ∷ a.figures.version.0 ∷ a.figures.config.0 ∷ a.length.0 ∷ a.last.0 ∷ []

-- the row a under the number s
unfoldable pub shown_row : ℕ → Row → List ℕ
shown_row s a = text "row" ++ field s ++ letter a.figures.role ++ fields (figures a) ++ text "\n"

-- the line of server number s, with a's figures
abbrev pub row_line : ℕ → Server → List ℕ
row_line s a = shown_row s (seen a)

-- the marks of a table
unfoldable pub marks_line : List ℕ → List ℕ
marks_line ms = text "marks" ++ fields (trimmed ms) ++ text "\n"

-- ---- room: how many bytes a line has at most

-- a reply without its number and the line's end
abbrev pub reply_room : ℕ
reply_room = 8 + field_room + 2 * field_room

-- the line of a reply
abbrev pub replied_room : ℕ
replied_room = number_room + reply_room + 1

-- that of a server
abbrev pub row_room : ℕ
row_room = 5 + field_room + 6 * field_room + 1

-- all lines of a table
abbrev pub table_room : ℕ
table_room = row_room * most_servers + (5 + field_room * positions + 1)

-- a line for each thing in a list, the first of which has the number k
unfoldable pub numbered : {A : Type 0} → (ℕ → A → List ℕ) → ℕ → List A → List (List ℕ)
numbered line k [] = []
numbered line k (a ∷ rest) = line k a ∷ numbered line (suc k) rest

-- the lines of replies
abbrev pub replied_lines : List Answer → List (List ℕ)
replied_lines rs = numbered replied_line 1 rs

-- the lines of servers
abbrev pub row_lines : List Server → List (List ℕ)
row_lines ss = numbered row_line 1 ss

-- the lines of the last table
unfoldable pub table_lines : Table → List (List ℕ)
table_lines t = row_lines t.servers ++ (marks_line t.marks ∷ [])

-- the bytes of the whole actions
abbrev pub whole_actions : List ℕ → List ℕ
whole_actions p = take (length p - length p % 8) p

-- a line for what stands behind the whole actions, if anything does: it is counted as the next action
unfoldable pub cut_lines : List ℕ → List (List ℕ)
cut_lines p = cond (eqb (length p % 8) 0) [] (cut_line (length p / 8 + 1) ∷ [])

-- the whole actions are played on the table: their replies, what is left over, the table that is left
unfoldable pub played_lines : Table → List ℕ → List (List ℕ)
played_lines t p =
    let r = run t (whole_actions p) in
    replied_lines r.replies ++ (cut_lines p ++ table_lines r.table)

-- the nine actions of the case that document 01 prints: kind, i, j and the set of each
abbrev pub plan : List ℕ
plan =
    action_bytes 1 1 0 3
    ++ action_bytes 5 1 0 0
    ++ action_bytes 6 2 1 0
    ++ action_bytes 2 1 0 15
    ++ action_bytes 3 1 2 0
    ++ action_bytes 2 1 0 15
    ++ action_bytes 8 1 0 3
    ++ action_bytes 2 1 0 15
    ++ action_bytes 1 3 0 6

-- what that case must print, with the server that document 02 adds to its ninth line
abbrev pub lines : List String
lines =
    "1 taken\n"
    ∷ "2 taken\n"
    ∷ "3 taken\n"
    ∷ "4 refused 14\n"
    ∷ "5 taken\n"
    ∷ "6 refused 16\n"
    ∷ "7 taken\n"
    ∷ "8 taken\n"
    ∷ "9 refused 8 at 2\n"
    ∷ "row 1 P 1 15 2 1 1 1\n"
    ∷ "row 2 S 1 7 1 1 1 1\n"
    ∷ "row 3 S 0 7 1 0 0 0\n"
    ∷ "row 4 S 0 7 1 0 0 0\n"
    ∷ "marks 1\n"
    ∷ []

-- the same as bytes
unfoldable pub expected : List (List ℕ)
expected = map text lines
