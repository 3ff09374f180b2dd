-- What the writer's contract amounts to, with that of the reader. Assumes nothing.
use Prim.Native.Nat.{ℕ, ◌≤◌, ◌<◌}
use native.Mathlib.Omega.{arith}
use mathlib.Core.Path.{◌≡◌, refl, ap, sym, ◌∙◌}
use mathlib.Core.Bool.{true}
use mathlib.Core.List.{List, ◌++◌}
use mathlib.Core.Logic.{◌⊎◌}
use lib.ListN.{length, get_or, take, drop, take-append-drop}
use lib.Seq.{take_at, length-take-le}
use borrow.Author.Tests.{eq-eqb}
use Rattle.words.proofs.Tests.{refuted, is_true}
use Rattle.words.specs.Lists.{every}
use Rattle.words.proofs.RefusalLaws.{none-hold}
use Rattle.algorithm.specs.Table.{Table}
use Rattle.table.specs.Layout.{table_bytes, table_in, whole}
use Rattle.table.proofs.StoredLaws.{stored-table}
use Rattle.whole.proofs.Determined.{whole-stored, whole-sound}
use Rattle.image.specs.Contents.{wide_in}
use Rattle.image.specs.Image.{wide, image}
use Rattle.reader.specs.Reader.{read_table, read_end, ReadAnswer}
use Rattle.reader.proofs.ReplyLaws.{read-into, read-upto}
use Rattle.reader.proofs.ReadTheorems.{not-broken, read_whole, read-within, read_back}
use Rattle.reader.proofs.ReadTheorems as reader
use Rattle.writer.specs.Writer.{image_of, writer_refusals, write_reply, WriteAnswer}
use Rattle.writer.proofs.WriteLaws.{written-reply}
use Rattle.writer.proofs.ImageCopy.{image-copied}
use Rattle.writer.proofs.WidthLaws.{widths, image-least}

-- Two answers that meet the contract for one table, one buffer and one end are the same answer.
pub unique : {slice buffer b b' : List ℕ} {e r r' z z' : ℕ} → WriteAnswer slice buffer e r b z → WriteAnswer slice buffer e r' b' z'
    → (r ≡ r') × (b ≡ b') × (z ≡ z')
unique h k = (h.reply ∙ sym k.reply, h.bytes ∙ sym k.bytes, h.end ∙ sym k.end)

-- where the image is written, the table is whole
was-whole : (slice buffer : List ℕ) → write_reply slice buffer ≡ 0 → whole slice ≡ true
unfolding write_reply every
was-whole slice buffer e =
    let none = none-hold (writer_refusals slice buffer) tt e in
    is_true (whole slice) (refuted {b = whole slice} (none 1)).yes

-- Reading what was written, whatever bytes follow it, gives the table, byte for byte, and the end where its image ends.
pub read-saved : {b buffer buffer' slice slice' : List ℕ} {e e' z z' r : ℕ} → WriteAnswer b buffer e 0 buffer' e' → (rest : List ℕ)
    → length slice ≡ table_bytes → ReadAnswer (take e' buffer' ++ rest) slice z r slice' z' → (r ≡ 0) × (slice' ≡ b) × (z' ≡ e')
read-saved {b} {buffer} {buffer'} {slice} {e' = e'} {z = z} w rest sized a =
    let yes = was-whole b buffer (sym w.reply) in
    let done = eq-eqb (write_reply b buffer) 0 (sym w.reply) in
    let behind = drop (length (image_of b)) buffer in
    let begins : buffer' ≡ image_of b ++ behind = w.bytes ∙ rw done in
    let ends : e' ≡ length (image_of b) = w.end ∙ rw done in
    let saved : take e' buffer' ≡ image_of b = ap (take e') begins ∙ take_at (image_of b) behind e' (sym ends) in
    let (number, _, bytes, end) = read_back (table_in b) rest slice z (whole-sound b yes) sized in
    let read : ReadAnswer (take e' buffer' ++ rest) slice z 0 b e' =
    rw saved (record { reply = sym number; bytes = whole-stored b yes ∙ sym bytes; end = ends ∙ sym end }) in
    reader.unique a read

-- So does reading the buffer itself.
pub read-written : {b buffer buffer' slice slice' : List ℕ} {e e' z z' r : ℕ} → WriteAnswer b buffer e 0 buffer' e' → length slice ≡ table_bytes
    → ReadAnswer buffer' slice z r slice' z' → (r ≡ 0) × (slice' ≡ b) × (z' ≡ e')
read-written {buffer' = buffer'} {slice} {slice'} {e' = e'} {z} {z'} {r} w sized a =
    let all : ReadAnswer (take e' buffer' ++ drop e' buffer') slice z r slice' z' = rw (take-append-drop e' buffer') a in
    read-saved w (drop e' buffer') sized all

-- ---- what was read, written

module _ {im slice b : List ℕ} {e z : ℕ} (byte : (i : ℕ) → get_or im i 0 < 256) (a : ReadAnswer im slice e 0 b z) where
  table : table_in b ≡ read_table im
  table = ap table_in (a.bytes ∙ read-into im slice 0 a.reply refl) ∙ stored-table (read_table im) (not-broken im slice (sym a.reply))

  ends : z ≡ read_end im
  ends = a.end ∙ read-upto im slice 0 a.reply refl e

  -- Writing what was read gives the image of the table that was read, in no more bytes, whatever the buffer held; the buffer behind it stays.
  pub written-table : {buffer buffer' : List ℕ} {d z' r : ℕ} → z ≤ length buffer → WriteAnswer b buffer d r buffer' z'
      → (r ≡ 0) × (buffer' ≡ image (read_table im) ++ drop z' buffer) × (z' ≡ length (image (read_table im))) × (z' ≤ z)
  written-table {buffer} {buffer'} {d} {z'} room w =
      let long : length (image_of b) ≡ length (image (read_table im)) = ap (λ (t : Table). length (image t)) table in
      let least = image-least im slice (sym a.reply) byte in
      let fits : length (image_of b) ≤ length buffer = omega (arith, ends) in
      let reply = written-reply b buffer (read_whole im slice e 0 b z a refl) fits in
      let done = eq-eqb (write_reply b buffer) 0 (sym reply) in
      let bytes : buffer' ≡ image_of b ++ drop (length (image_of b)) buffer = w.bytes ∙ rw done in
      let end : z' ≡ length (image_of b) = w.end ∙ rw done in
      (w.reply ∙ sym reply, bytes ∙ rw (end, table), end ∙ long, omega (arith, ends))

  -- The same bytes come back, and the same end, where the image's width is the one that its table has.
  pub written_read : {buffer buffer' : List ℕ} {d z' r : ℕ} → wide_in im ≡ wide (read_table im) → z ≤ length buffer → WriteAnswer b buffer d r buffer' z'
      → (r ≡ 0) × (buffer' ≡ take z im ++ drop z buffer) × (z' ≡ z)
  written_read {buffer} same room w =
      let (number, bytes, end, _) = written-table room w in
      let copy : image (read_table im) ≡ take z im = image-copied im slice (sym a.reply) byte same ∙ ap (λ (j : ℕ). take j im) (sym ends) in
      let all = end ∙ ap length copy ∙ length-take-le z im (read-within im slice e 0 b z a refl) in
      (number, bytes ∙ (λ i. copy i ++ drop (all i) buffer), all)

  -- It has another only where byte 5 is 1 and every bake is 0.
  pub width_read : (wide_in im ≡ wide (read_table im)) ⊎ ((wide_in im ≡ 1) × (wide (read_table im) ≡ 0))
  width_read = widths im slice (sym a.reply)
