-- What the definition of the output amounts to. Assumes nothing.
use Prim.Native.Nat.{ℕ, ◌≤◌}
use native.Mathlib.Omega.{arith}
use mathlib.Core.Path.{◌≡◌, refl, ◌∙◌}
use mathlib.Core.Bool.{false}
use mathlib.Core.List.{List, ◌++◌, flatten}
use lib.Count.{ones}
use lib.ListN.{length, replicate, length-replicate}
use lib.Seq.{drop_at}
use borrow.Author.Tests.{le-ltb, eq-eqb}
use Rattle.members.specs.Members.{mask}
use Rattle.algorithm.specs.Table.{Table, trimmed, broken, fresh}
use Rattle.words.specs.Lists.{nth, every}
use Rattle.words.specs.Words.{bytes}
use Rattle.table.specs.Layout.{table_bytes}
use Rattle.image.specs.Image.{wide, contents, image}
use Rattle.reader.specs.Reader.{read_table}
use Rattle.reader.proofs.ReadBack.{end_back}
use Rattle.reader.proofs.ReadTheorems.{read_back}
use Rattle.report.specs.Lines.{played_lines, plan, expected}
use Rattle.report.proofs.Worked.{case-holds}
use Rattle.rehearsal.specs.Programs.{longest, site_reply, faulty, plan_of, input_lines}

-- An input that begins with the image of a table is played: that table and the bytes behind its image are found in it.
pub image-opened : (t : Table) (p : List ℕ) → broken t ≡ false → length (image t ++ p) ≤ longest
    → (faulty (image t ++ p) ≡ false) × (read_table (image t ++ p) ≡ t) × (plan_of (image t ++ p) ≡ p)
image-opened t p h small =
    let slice : List ℕ = replicate table_bytes 0 in
    let (read, table, _, _) = read_back t p slice 0 h (length-replicate {A = ℕ} table_bytes 0) in (
      rw (le-ltb longest (length (image t ++ p)) small, eq-eqb (site_reply (image t ++ p)) 0 read),
      table,
      rw (end_back t h p, drop_at (image t) p (length (image t)) refl),
    )

-- So its lines are those of that table and of those bytes.
pub image-lines : (t : Table) (p : List ℕ) → broken t ≡ false → length (image t ++ p) ≤ longest → input_lines (image t ++ p) ≡ played_lines t p
unfolding input_lines
image-lines t p h small = let (sound, table, rest) = image-opened t p h small in rw (sound, table, rest)

-- ---- the case that document 01 gives whole, from the bytes of its input to those of its output

case-sound : broken (fresh 4 7 0 0) ≡ false
unfolding broken every nth mask ones
case-sound = refl

case-short : length (image (fresh 4 7 0 0) ++ plan) ≤ longest
unfolding image contents flatten trimmed bytes wide every
case-short = omega arith

pub whole-case : input_lines (image (fresh 4 7 0 0) ++ plan) ≡ expected
whole-case = image-lines (fresh 4 7 0 0) plan case-sound case-short ∙ case-holds
