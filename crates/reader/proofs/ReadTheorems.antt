-- What the reader's contract amounts to. Assumes nothing.
use Prim.Native.Nat.{ℕ, ◌≤◌}
use native.Mathlib.Omega.{arith}
use mathlib.Core.Path.{◌≡◌, refl, ap, sym, ◌∙◌}
use mathlib.Core.Bool.{true, false}
use mathlib.Core.List.{List, ◌++◌}
use lib.ListN.{length}
use borrow.Author.Tests.{not-true}
use Rattle.algorithm.specs.Table.{Table, broken}
use Rattle.algorithm.proofs.Sound.{sound-table}
use Rattle.table.specs.Layout.{table_bytes, stored, whole}
use Rattle.words.proofs.Tests.{is_true}
use Rattle.whole.proofs.Determined.{stored-whole}
use Rattle.image.specs.Image.{image}
use Rattle.image.specs.Contents.{count_in}
use Rattle.reader.specs.Reader.{read_reply, read_table, read_bytes, end_after, ReadAnswer}
use Rattle.reader.proofs.ReplyLaws.{readable, read-into, read-upto}
use Rattle.reader.proofs.SoundRead.{read-sound}
use Rattle.reader.proofs.ReadBack.{number-back, table-back, end_back}

-- Whatever bytes are read as a table, the table breaks no rule.
pub not-broken : (im slice : List ℕ) → read_reply im slice ≡ 0 → broken (read_table im) ≡ false
not-broken im slice e = not-true (broken (read_table im)) (is_true _ (sound-table (read-sound im slice e)).no)

-- What is left in the slice is then a whole table, and the end lies within the input.
module _ (im slice : List ℕ) (e k : ℕ) (slice' : List ℕ) (e' : ℕ) (a : ReadAnswer im slice e k slice' e') (read : k ≡ 0) where
  pub read_whole : whole slice' ≡ true
  read_whole =
      rw (a.bytes, read-into im slice k a.reply read)
      (stored-whole (read_table im) (not-broken im slice (sym a.reply ∙ read)))

  pub read-within : e' ≤ length im
  read-within =
      rw (a.end, read-upto im slice k a.reply read e)
      ((readable im slice (sym a.reply ∙ read)).named.each (count_in im) (omega arith)).within

-- The image of a table that breaks no rule, whatever bytes follow it, is read as that table: it is not refused, the slice has the
-- table's bytes afterwards, and the end is where the image ends.
pub read_back : (t : Table) (rest slice : List ℕ) (e : ℕ) → broken t ≡ false → length slice ≡ table_bytes
    → (read_reply (image t ++ rest) slice ≡ 0)
    × (read_table (image t ++ rest) ≡ t)
    × (read_bytes (image t ++ rest) slice ≡ stored t)
    × (end_after (image t ++ rest) slice e ≡ length (image t))
read_back t rest slice e h sized =
    let im = image t ++ rest in
    let read = sym (number-back t h rest slice sized) in (
      sym read,
      table-back t h rest,
      read-into im slice 0 read refl ∙ ap stored (table-back t h rest),
      read-upto im slice 0 read refl e ∙ end_back t h rest,
    )

-- Two answers that meet the contract for one image, one slice and one end are the same answer.
pub unique : {im slice b b' : List ℕ} {e r r' z z' : ℕ} → ReadAnswer im slice e r b z → ReadAnswer im slice e r' b' z'
    → (r ≡ r') × (b ≡ b') × (z ≡ z')
unique h k = (h.reply ∙ sym k.reply, h.bytes ∙ sym k.bytes, h.end ∙ sym k.end)
