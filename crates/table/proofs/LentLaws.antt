-- Words that are lent as they stand in a slice: the terms and the bakes of a log, and the marks. Assumes nothing.
use Prim.Native.Nat.{ℕ, zero, suc, ◌+◌, ◌-◌, ◌*◌, ◌≤◌, ◌<◌}
use native.Mathlib.Omega.{arith}
use mathlib.Core.Path.{◌≡◌, refl, ap, sym, subst, ◌∙◌}
use mathlib.Core.List.{List, [], ◌∷◌, ◌++◌}
use lib.ListN.{length, get_or, take, drop}
use lib.Seq.{drop-drop, drop_at, take-take}
use Rattle.words.specs.Lists.{part}
use Rattle.words.specs.Words.{words, bytes}
use Rattle.words.proofs.WordLaws.{bytes-words, words-bytes, words_small, words-drop, words_take}
use Rattle.algorithm.specs.Table.{Server, Table, server, with_server, trimmed, positions}
use Rattle.table.specs.Layout.{padded, terms, bakes, row, layout, table_in, row_words, table_bytes, table_words}
use Rattle.table.specs.Slice.{Shaped, Held, Within}
use Rattle.table.proofs.LayoutLaws.{Framed, server-in, log-room, row-terms, row-bakes, marks-back}
use Rattle.table.proofs.HeldLaws.{roomy-at, unchanged}
use Rattle.table.proofs.MarkLaws.{trimmed-take}

-- ---- a part of a slice

past : (k : ℕ) → 4 * suc k ≡ suc (suc (suc (suc (4 * k))))
past k = omega arith

drop-bytes : (k : ℕ) (w : List ℕ) → drop (4 * k) (bytes w) ≡ bytes (drop k w)
unfolding bytes
drop-bytes zero w = refl
drop-bytes (suc k) [] = rw past
drop-bytes (suc k) (x ∷ w) = rw past (drop-bytes k w)

take-bytes : (n : ℕ) (w : List ℕ) → take (4 * n) (bytes w) ≡ bytes (take n w)
unfolding bytes
take-bytes zero w = refl
take-bytes (suc n) [] = rw past
take-bytes (suc n) (x ∷ w) = rw (past, take-bytes n w)

module _ (b : List ℕ) (byte : (i : ℕ) → get_or b i 0 < 256) (long : length b ≡ table_bytes) (k n : ℕ) where
  pub part-bytes : take (4 * k + 4 * n - 4 * k) (drop (4 * k) b) ≡ bytes (part (words b) k n)
  part-bytes =
      let many : 4 * k + 4 * n - 4 * k ≡ 4 * n = omega arith in
      rw (many, ← take-bytes n (drop k (words b)), ← drop-bytes k (words b), bytes-words b table_words long byte)

  pub part-words : words (take (4 * k + 4 * n - 4 * k) (drop (4 * k) b)) ≡ part (words b) k n
  part-words = ap words part-bytes ∙ words-bytes (part (words b) k n) (words_take n (drop k (words b)) (words-drop k (words b) (words_small b byte)))

-- ---- a log

-- t is the table in the slice b, and n the length of the log of its server s
module _ (b : List ℕ) (t : Table) (h : Held b) (is : table_in b ≡ t) (s n : ℕ) (w : Within t s) (e : n ≡ length (server t s).log) where
  abbrev a : Server
  a = server t s

  shaped : Shaped t
  shaped = subst Shaped is h.shaped

  f : Framed (row_words * s) row (λ x. layout (with_server t s x))
  f = server-in t s w.some w.known shaped.few

  short : length a.log ≤ positions
  short = (roomy-at t.servers s shaped.roomy).short

  -- the words from word k of its row on
  row_from : (k : ℕ) → drop (row_words * s + k) (words b) ≡ drop k (row a ++ f.after)
  row_from k =
      let laid : words b ≡ f.before ++ (row a ++ f.after) = h.laid ∙ ap layout (is ∙ sym (unchanged t s)) ∙ f.around a in
      rw (← drop-drop k (row_words * s) (words b), laid, drop_at f.before (row a ++ f.after) (row_words * s) f.place)

  pub log-terms : part (words b) (row_words * s + 6) n ≡ terms a.log
  log-terms = rw (e, row_from 6, row-terms a f.after) (log-room (λ e. e.term) a.log (padded positions (bakes a.log) ++ f.after) short)

  pub log-bakes : part (words b) (row_words * s + (6 + positions)) n ≡ bakes a.log
  log-bakes = rw (e, row_from (6 + positions), row-bakes a f.after) (log-room (λ e. e.bake) a.log f.after short)

-- ---- the marks

pub marks-shown : (b : List ℕ) (t : Table) (n : ℕ) → Held b → table_in b ≡ t → n ≡ length (trimmed t.marks) → n ≤ positions → part (words b) 6 n ≡ trimmed t.marks
marks-shown b t n h is e l =
    let marked : length t.marks ≡ positions = (subst Shaped is h.shaped).marked in
    rw (h.laid, is, ← take-take n positions (drop 6 (layout t)) l, marks-back t marked, e) (trimmed-take t.marks)
