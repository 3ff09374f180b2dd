-- What both programs find of an input, and what each makes of it. Assumes nothing.
use Prim.Native.Nat.{ℕ, ◌-◌, ◌≤◌, ◌+◌}
use native.Mathlib.Nat.{zero-add}
use native.Mathlib.Omega.{arith}
use mathlib.Core.Path.{◌≡◌, refl, ap, sym, ◌∙◌}
use mathlib.Core.List.{List, append-nil, flatten}
use lib.ListN.{length, take, drop, replicate, length-drop, length-replicate}
use lib.Seq.{take_all}
use borrow.Author.Tests.{le-ltb, eq-eqb, ne_eqb}
use Rattle.words.specs.Refusal.{first}
use Rattle.algorithm.specs.declared.Refused.{Refused}
use Rattle.algorithm.specs.Run.{told, run}
use Rattle.table.specs.Layout.{table_bytes, table_in}
use Rattle.table.proofs.StoredLaws.{stored-table}
use Rattle.engine.proofs.ReadyLaws.{whole_ready}
use Rattle.image.specs.Image.{image}
use Rattle.reader.specs.Reader.{read_reply, read_table, read_result, read_bytes}
use Rattle.reader.proofs.ReplyLaws.{read-into, read-upto, answered-ok, answered-err}
use Rattle.reader.proofs.ReadTheorems.{not-broken, read_whole, read-within}
use Rattle.buffer.specs.Buffer.{Wrote, Grew, field_room}
use Rattle.buffer.specs.declared.Output.{Output}
use Rattle.buffer.proofs.WroteLaws.{lent}
use Rattle.report.specs.Lines.{bad_site_line, played_lines}
use Rattle.std.specs.Prelude.{Result, Ok, Err}
use Rattle.rehearsal.specs.Programs.{longest, site_reply, fault_line, plan_of, input_lines, printed, Unplayed, Playable, OpenAnswer, Written, to_output, to_error, saved, bytes_of, answer_of, SaveAnswer}

-- ---- the input is opened

module _ (im t t' : List ℕ) (x : Result ℕ Refused) (sized : length t ≡ table_bytes) (small : length im ≤ longest)
    (answered : x ≡ read_result im t) (bytes : t' ≡ read_bytes im t) where
  -- of the slice, the reader's number hangs on the length alone
  same-reply : read_reply im t ≡ site_reply im
  unfolding read_reply first
  same-reply = let same : length t ≡ length (replicate {A = ℕ} table_bytes 0) = sized ∙ sym (length-replicate {A = ℕ} table_bytes 0) in rw same

  pub bad-site-told : (r : Refused) (k : ℕ) (o p : Output) (e : ℕ) → x ≡ Err r → k ≡ (told r).number
      → Grew (8 + field_room + 1) o p (bad_site_line k) → e ≡ p.at → Unplayed im o p e
  bad-site-told r k o p e f g w is =
      let short = le-ltb longest (length im) small in
      let a = answered-err im t t' 0 k r g (sym f ∙ answered) bytes in
      let number : k ≡ site_reply im = a.reply ∙ same-reply in
      let not_read : read_reply im t ≡ 0 → ⊥ = λ z. cc (f, answered) in
      record { fault = rw (short, ne_eqb (site_reply im) 0 (λ z. not_read (same-reply ∙ z))); told = rw (short, ← number) w; place = is }

  pub playable : (z : ℕ) (o : Output) → x ≡ Ok z → Playable im o o t' z
  playable z o f =
      let a = answered-ok im t t' 0 z (sym f ∙ answered) bytes in
      record {
        faultless = rw (le-ltb longest (length im) small, eq-eqb (site_reply im) 0 (sym (a.reply ∙ same-reply)));
        short = small;
        within = read-within im t 0 0 t' z a refl;
        place = a.end ∙ read-upto im t 0 a.reply refl 0;
        ready = whole_ready t' (read_whole im t 0 0 t' z a refl);
        table = ap table_in (bytes ∙ read-into im t 0 a.reply refl) ∙ stored-table (read_table im) (not-broken im t (sym a.reply));
        same = refl;
      }

-- ---- what is made of it

saved-as : {im b b₁ : List ℕ} (w : Written) → saved im ≡ w → Wrote b b₁ 0 (bytes_of w) (length (bytes_of w)) → SaveAnswer im b (answer_of w) b₁
saved-as w e v = record { answer = rw e; wrote = rw e v }

-- what an output has that was made of the buffer b, which is b' when the program has ended
module _ (im b b' t : List ℕ) (o p : Output) (r : Result ℕ ℕ) (a : OpenAnswer im o p t r) (first : o.at ≡ 0) (is : b ≡ o.buffer.now) where
  module _ (n : ℕ) (told : r ≡ Err n) (last : o.buffer.ghost_name ≡ p.buffer.ghost_name → b' ≡ p.buffer.now) where
    unplayed : Unplayed im o p n
    unplayed = rw told at a

    fault-wrote : Wrote b b' 0 (fault_line im) n
    fault-wrote = rw unplayed.place (lent unplayed.told first is last)

    pub told-shown : Wrote b b' 0 (printed im) n
    unfolding input_lines flatten
    told-shown = rw (unplayed.fault, append-nil _) fault-wrote

    pub told-saved : SaveAnswer im b (Err n) b'
    unfolding saved
    told-saved =
        let long = fault-wrote.end ∙ zero-add _ in
        rw long (saved-as (to_error (fault_line im)) (rw unplayed.fault) (rw long at fault-wrote))

  module _ (at : ℕ) (site : r ≡ Ok at) where
    found : Playable im o p t at
    found = rw site at a

    rest : take (length im - at) (drop at im) ≡ drop at im
    rest = take_all (length im - at) (drop at im) (omega (arith, length-drop at im))

    pub site-shown : (n : ℕ) (q : Output) → Grew n p q (flatten (played_lines (table_in t) (take (length im - at) (drop at im))))
        → (o.buffer.ghost_name ≡ q.buffer.ghost_name → b' ≡ q.buffer.now) → Wrote b b' 0 (printed im) q.at
    unfolding input_lines
    site-shown n q g last =
        let lines = rw (rest, found.same) at g in
        rw (found.faultless, ← found.place, ← found.table) (lent lines first is last)

    pub site-saved : (b₁ : List ℕ) (e : ℕ) → Wrote p.buffer.now b₁ 0 (image (run (table_in t) (take (length im - at) (drop at im))).table) e
        → (o.buffer.ghost_name ≡ p.buffer.ghost_name → b' ≡ b₁) → SaveAnswer im b (Ok e) b'
    unfolding saved
    site-saved b₁ e w last =
        let mine = rw (rest, found.table, found.same, ← is, found.place, ← last (rw found.same)) at w in
        let long = mine.end ∙ zero-add _ in
        rw long (saved-as (to_output (image (run (read_table im) (plan_of im)).table)) (rw found.faultless) (rw long at mine))
