-- All that `rehearse` prints and all that `save` writes, of the bytes of the input. Assumes nothing.
use Rattle.std.specs.Prelude.{ℕ, ◌+◌, ◌≤◌, Bool, cond, not, ◌||◌, true, false, ◌≡◌, ltb, eqb, length, drop, replicate, take, Result, Ok, Err}
use mathlib.Core.List.{List, [], ◌∷◌, flatten}
use Rattle.algorithm.specs.Run.{run}
use Rattle.table.specs.Layout.{table_bytes, table_in}
use Rattle.reader.specs.Reader.{read_reply, read_table, read_end}
use Rattle.report.specs.Lines.{bad_site_line, too_long_line, played_lines}
use Rattle.image.specs.Image.{image}
use Rattle.buffer.specs.Buffer.{field_room, Wrote, Grew}
use Rattle.buffer.specs.declared.Output.{Output}
use Rattle.engine.specs.Engine.{Ready}

-- the longest input that is played
abbrev pub longest : ℕ
longest = 65536

-- the number that the reader answers to the input, into a slice of a table's length
abbrev pub site_reply : List ℕ → ℕ
site_reply input = read_reply input (replicate table_bytes 0)

-- the input is not played: it is too long, or its image is refused
abbrev pub faulty : List ℕ → Bool
faulty input = ltb longest (length input) || not (eqb (site_reply input) 0)

-- the line that tells why
abbrev pub fault_line : List ℕ → List ℕ
fault_line input = cond (ltb longest (length input)) too_long_line (bad_site_line (site_reply input))

-- ---- what `rehearse` prints

-- the bytes behind the image: its actions
abbrev pub plan_of : List ℕ → List ℕ
plan_of input = drop (read_end input) input

-- the lines of any input
unfoldable pub input_lines : List ℕ → List (List ℕ)
input_lines input = cond (faulty input) (fault_line input ∷ []) (played_lines (read_table input) (plan_of input))

-- the bytes of all lines
abbrev pub printed : List ℕ → List ℕ
printed input = flatten (input_lines input)

-- ---- what `save` writes

-- bytes for one stream: standard output gets an image, or standard error words; the other gets nothing
pub data Written : Type 0 where
  to_output : List ℕ → Written
  to_error : List ℕ → Written

-- the words of `rehearse` where it does not play the input, and else the image of the table that the run of all bytes behind the image leaves
unfoldable pub saved : List ℕ → Written
saved input = cond (faulty input) (to_error (fault_line input)) (to_output (image (run (read_table input) (plan_of input)).table))

-- the bytes, whichever stream gets them
abbrev pub bytes_of : Written → List ℕ
bytes_of (to_output l) = l
bytes_of (to_error l) = l

-- the answer: how many bytes that is, of an image or else of words
abbrev pub answer_of : Written → Result ℕ ℕ
answer_of (to_output l) = Ok (length l)
answer_of (to_error l) = Err (length l)

-- the answer to an input and a buffer b: r, with the bytes at the start of the buffer, which is b' then
pub record SaveAnswer (input b : List ℕ) (r : Result ℕ ℕ) (b' : List ℕ) : Type 0 where
  pub answer : r ≡ answer_of (saved input)
  pub wrote : Wrote b b' 0 (bytes_of (saved input)) (length (bytes_of (saved input)))

-- what an answer has the program write of a buffer
abbrev pub sent : Result ℕ ℕ → List ℕ → Written
sent (Ok n) b = to_output (take n b)
sent (Err n) b = to_error (take n b)

-- the input is not played: the line that tells why is put out, and ends at a place
pub record Unplayed (input : List ℕ) (o p : Output) (end : ℕ) : Type 0 where
  pub fault : faulty input ≡ true
  pub told : Grew (8 + field_room + 1) o p (fault_line input)
  pub place : end ≡ p.at

-- the input is played: t holds its table, its actions begin at a place, and nothing is put out
pub record Playable (input : List ℕ) (o p : Output) (t : List ℕ) (at : ℕ) : Type 0 where
  pub faultless : faulty input ≡ false
  pub short : length input ≤ longest
  pub within : at ≤ length input
  pub place : at ≡ read_end input
  pub ready : Ready t
  pub table : table_in t ≡ read_table input
  pub same : p ≡ o

-- the one or the other, by the answer
abbrev pub OpenAnswer : List ℕ → Output → Output → List ℕ → Result ℕ ℕ → Type 0
OpenAnswer input o p t (Ok at) = Playable input o p t at
OpenAnswer input o p t (Err end) = Unplayed input o p end
