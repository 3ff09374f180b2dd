-- What the contract of `save` amounts to. Assumes nothing.
use Prim.Native.Nat.{ℕ, ◌≤◌}
use mathlib.Core.Bool.{false}
use mathlib.Core.Path.{◌≡◌, ap, sym, ◌∙◌}
use mathlib.Core.List.{List, ◌++◌}
use lib.ListN.{length, take, drop}
use lib.Seq.{take-append_seam, length-take-le}
use Rattle.algorithm.specs.Table.{Table, broken}
use Rattle.algorithm.specs.Run.{pieces, piece_count, run}
use Rattle.algorithm.proofs.Runs.{play-sound}
use Rattle.image.specs.Image.{image}
use Rattle.buffer.specs.Buffer.{Wrote}
use Rattle.buffer.proofs.WroteUnique.{wrote-unique}
use Rattle.buffer.proofs.WroteLaws.{wrote-within}
use Rattle.report.specs.Lines.{played_lines}
use Rattle.std.specs.Prelude.{Result, Ok, Err}
use Rattle.rehearsal.specs.Programs.{longest, input_lines, Written, to_output, to_error, saved, bytes_of, answer_of, SaveAnswer, sent}
use Rattle.rehearsal.proofs.PrintedTheorems.{image-opened, image-lines}

-- Two answers that meet the contract for one input and one buffer are the same answer.
pub save-unique : {input b b₁ b₂ : List ℕ} {r₁ r₂ : Result ℕ ℕ} → SaveAnswer input b r₁ b₁ → SaveAnswer input b r₂ b₂ → (r₁ ≡ r₂) × (b₁ ≡ b₂)
save-unique h k = (h.answer ∙ sym k.answer, (wrote-unique h.wrote k.wrote).1)

-- What an answer that meets the contract has the program write is what the definition says, on the stream that it says.
pub save-sent : {input b b' : List ℕ} {r : Result ℕ ℕ} → SaveAnswer input b r b' → sent r b' ≡ saved input
save-sent {input} {b} {b'} h = rw h.answer (go (saved input) h.wrote)
  where
    begins : (l : List ℕ) → Wrote b b' 0 l (length l) → take (length l) b' ≡ l
    begins l w = ap (take (length l)) w.bytes ∙ take-append_seam l (drop (length l) b)

    go : (w : Written) → Wrote b b' 0 (bytes_of w) (length (bytes_of w)) → sent (answer_of w) b' ≡ w
    go (to_output l) w = ap to_output (begins l w)
    go (to_error l) w = ap to_error (begins l w)

-- What main lends of the buffer is within it, and as long as the answer says.
abbrev count_of : Result ℕ ℕ → ℕ
count_of (Ok n) = n
count_of (Err n) = n

module _ (input b : List ℕ) (r : Result ℕ ℕ) (b' : List ℕ) (h : SaveAnswer input b r b') (n : ℕ) where
  within : count_of r ≤ length b'
  within = rw h.answer (go (saved input) h.wrote)
    where
      go : (w : Written) → Wrote b b' 0 (bytes_of w) (length (bytes_of w)) → count_of (answer_of w) ≤ length b'
      go (to_output l) w = wrote-within b b' 0 l (length l) w
      go (to_error l) w = wrote-within b b' 0 l (length l) w

  pub image-within : r ≡ Ok n → n ≤ length b'
  image-within e = rw e at within

  pub image_lent : r ≡ Ok n → n ≡ length (take n b')
  image_lent e = sym (length-take-le n b' (image-within e))

  pub told-within : r ≡ Err n → n ≤ length b'
  told-within e = rw e at within

  pub told-lent : r ≡ Err n → n ≡ length (take n b')
  told-lent e = sym (length-take-le n b' (told-within e))

-- Of an input that begins with the image of a table, the image of the table that the bytes behind it leave is saved.
pub image-saved : (t : Table) (p : List ℕ) → broken t ≡ false → length (image t ++ p) ≤ longest → saved (image t ++ p) ≡ to_output (image (run t p).table)
unfolding saved
image-saved t p h small = let (sound, table, rest) = image-opened t p h small in rw (sound, table, rest)

-- So what was saved in the evening, with the plan of the morning behind it, is rehearsed from the table that the evening left.
pub next-morning : (t : Table) (p q l : List ℕ) → broken t ≡ false → length (image t ++ p) ≤ longest → saved (image t ++ p) ≡ to_output l
    → length (l ++ q) ≤ longest → input_lines (l ++ q) ≡ played_lines (run t p).table q
next-morning t p q l h small e most =
    let same : l ≡ image (run t p).table = ap bytes_of (sym e ∙ image-saved t p h small) in
    rw same (image-lines (run t p).table q (play-sound t (pieces (piece_count p) p) h) (rw same at most))
