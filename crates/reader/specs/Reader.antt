-- The reader: its refusals, what it gives where none holds, and the table while it is filled. Assumes nothing.
use Rattle.std.specs.Prelude.{ℕ, zero, suc, not, ◌≡◌, List, [], ◌∷◌, ◌++◌, ltb, eqb, length, Result}
use Rattle.words.specs.Refusal.{nothing, Refusal, refuse, first, answer, unless_refused}
use Rattle.algorithm.specs.declared.Refused.{Refused}
use Rattle.algorithm.specs.Run.{result_of, verdict_of}
use Rattle.algorithm.specs.Table.{Server, Table, with_marks, sound_count}
use Rattle.table.specs.Layout.{table_bytes, stored}
use Rattle.table.specs.Slice.{blank}
use Rattle.image.specs.Contents.{opened, count_in, wide_in, rule_in, floor_in, stop, laid_out, body, marks_in, server_in, sound_bodies}

-- the refusals for an image and the slice that a table is to be read into
abbrev pub read_refusals : List ℕ → List ℕ → List Refusal
read_refusals im slice =
    refuse 1 (not (eqb (length slice) table_bytes))
    ∷ refuse 30 (ltb (length im) 8)
    ∷ refuse 31 (not (opened im))
    ∷ refuse 32 (not (sound_count (count_in im)))
    ∷ refuse 33 (not (laid_out im))
    ∷ refuse 34 (not (sound_bodies im))
    ∷ []

-- the number of the first that holds, or 0: read
unfoldable pub read_reply : List ℕ → List ℕ → ℕ
read_reply im slice = first (read_refusals im slice)

-- the refusal with that number, or nothing to tell: read
abbrev pub read_verdict : List ℕ → List ℕ → Result (Unit {0}) Refused
read_verdict im slice = verdict_of (answer (read_reply im slice) nothing)

-- the first k servers
unfoldable pub servers_to : ℕ → List ℕ → List Server
servers_to zero im = []
servers_to (suc k) im = servers_to k im ++ (server_in (wide_in im) (body im (suc k)) ∷ [])

-- the table that is read, where nothing is refused
abbrev pub read_table : List ℕ → Table
read_table im = record { servers = servers_to (count_in im) im; marks = marks_in (body im 0); rule = rule_in im; floor = floor_in im }

-- where the bytes after the image begin
abbrev pub read_end : List ℕ → ℕ
read_end im = stop im (count_in im)

-- what is answered: the refusal, or that place
abbrev pub read_result : List ℕ → List ℕ → Result ℕ Refused
read_result im slice = result_of (answer (read_reply im slice) nothing) (read_end im)

-- the slice afterwards: refused, it is as it was
abbrev pub read_bytes : List ℕ → List ℕ → List ℕ
read_bytes im slice = unless_refused (read_reply im slice) (stored (read_table im)) slice

-- the end afterwards, likewise
abbrev pub end_after : List ℕ → List ℕ → ℕ → ℕ
end_after im slice e = unless_refused (read_reply im slice) (read_end im) e

-- what is answered to an image, a slice and an end: the number, the slice and the end afterwards
pub record ReadAnswer (im slice : List ℕ) (e r : ℕ) (slice' : List ℕ) (e' : ℕ) : Type 0 where
  pub reply : r ≡ read_reply im slice
  pub bytes : slice' ≡ read_bytes im slice
  pub end : e' ≡ end_after im slice e

-- the table read, but for its servers, of which nothing is known yet
unfoldable pub unread : List ℕ → Table
unread im = with_marks (marks_in (body im 0)) (blank (count_in im) (rule_in im) (floor_in im))
