-- The writer: its refusals, and what it gives where none holds. Assumes nothing.
use Rattle.std.specs.Prelude.{ℕ, ◌<◌, not, ◌≡◌, List, [], ◌∷◌, ◌++◌, ltb, length, drop, Result}
use Rattle.words.specs.Refusal.{nothing, Refusal, refuse, first, answer, unless_refused}
use Rattle.algorithm.specs.declared.Refused.{Refused}
use Rattle.algorithm.specs.Run.{result_of}
use Rattle.algorithm.specs.Table.{server}
use Rattle.table.specs.Layout.{table_in, whole}
use Rattle.table.specs.Slice.{Held}
use Rattle.image.specs.Image.{image}

-- the image of the table in a slice
abbrev pub image_of : List ℕ → List ℕ
image_of slice = image (table_in slice)

-- the refusals for a table's slice and the buffer that its image is to be written into
abbrev pub writer_refusals : List ℕ → List ℕ → List Refusal
writer_refusals slice buffer = refuse 1 (not (whole slice)) ∷ refuse 35 (ltb (length buffer) (length (image_of slice))) ∷ []

-- the number of the first that holds, or 0: written
unfoldable pub write_reply : List ℕ → List ℕ → ℕ
write_reply slice buffer = first (writer_refusals slice buffer)

-- what is answered: the refusal with that number, or where the image ends
abbrev pub write_result : List ℕ → List ℕ → Result ℕ Refused
write_result slice buffer = result_of (answer (write_reply slice buffer) nothing) (length (image_of slice))

-- the buffer afterwards: it begins with the image and is as it was behind it; refused, it is as it was
abbrev pub write_bytes : List ℕ → List ℕ → List ℕ
write_bytes slice buffer = unless_refused (write_reply slice buffer) (image_of slice ++ drop (length (image_of slice)) buffer) buffer

-- the end afterwards, likewise
abbrev pub end_after_write : List ℕ → List ℕ → ℕ → ℕ
end_after_write slice buffer e = unless_refused (write_reply slice buffer) (length (image_of slice)) e

-- what is answered to a table's slice, a buffer and an end: the number, the buffer and the end afterwards
pub record WriteAnswer (slice buffer : List ℕ) (e r : ℕ) (buffer' : List ℕ) (e' : ℕ) : Type 0 where
  pub reply : r ≡ write_reply slice buffer
  pub bytes : buffer' ≡ write_bytes slice buffer
  pub end : e' ≡ end_after_write slice buffer e

-- the slice holds a table, of which each role, the rule and the floor are bytes
pub record Savable (b : List ℕ) : Type 0 where
  pub held : Held b
  pub roles : (s : ℕ) → (server (table_in b) s).role < 256
  pub rule : (table_in b).rule < 256
  pub floor : (table_in b).floor < 256
