-- What is put of a table and its actions. Assumes nothing.
use Prim.Native.Nat.{ℕ, zero, suc, ◌+◌, ◌-◌, ◌*◌, ◌/◌, ◌%◌, ◌≤◌, ◌<◌}
use native.Mathlib.Omega.{arith}
use mathlib.Core.Bool.{true, false}
use mathlib.Core.Path.{◌≡◌, refl, ap, sym, ◌∙◌}
use mathlib.Core.Logic.{◌⊎◌, ⊎_elim}
use mathlib.Core.List.{List, [], ◌∷◌, ◌++◌, map, flatten}
use Rattle.std.specs.Simd.{first_chunks}
use lib.ListN.{length, get_or, take, drop, length-map, get_or-map}
use lib.Seq.{length-take-le}
use borrow.Author.Tests.{eq-eqb, ne_eqb}
use Rattle.words.specs.Refusal.{nothing, answer}
use Rattle.algorithm.specs.Table.{Table, broken}
use Rattle.algorithm.specs.Run.{answer_in, answers_in, pieces, piece_count, run}
use Rattle.algorithm.proofs.Runs.{play-sound, replies-count}
use Rattle.algorithm.proofs.Replies.{play-carried, answers-back}
use Rattle.table.specs.Layout.{stored, table_in}
use Rattle.table.proofs.HeldLaws.{its-table, held}
use Rattle.table.proofs.StoredLaws.{stored-table}
use Rattle.whole.proofs.Determined.{stored-whole}
use denote.Ref.{Bor}
use Rattle.walk.specs.declared.Walk.{Walk}
use Rattle.walk.specs.declared.Found.{Found}
use Rattle.walk.specs.declared.Found.TheVariants.{Action, Cut, End}
use Rattle.walk.specs.Plan.{found_at}
use Rattle.walk.proofs.Laws.{action-found, cut-found, end-found}
use Rattle.engine.specs.Engine.{played, Ready, Played}
use Rattle.image.specs.Image.{image, longest_image}
use Rattle.image.proofs.LongestImage.{image-most}
use Rattle.writer.specs.Writer.{Savable, image_of}
use Rattle.writer.proofs.WriteLaws.{savable}
use Rattle.buffer.specs.Buffer.{Wrote, Room, Grew, number_room}
use Rattle.buffer.specs.declared.Output.{Output}
use Rattle.buffer.proofs.WroteLaws.{at_most}
use Rattle.report.specs.Lines.{replied_line, cut_line, replied_lines, cut_lines, table_lines, whole_actions, played_lines, replied_room, table_room}
use Rattle.report.proofs.OrderLaws.{no_lines, one_line, more-lines, Lined, lined-more}
use Rattle.rehearsal.specs.Programs.{longest}

-- ---- replies

pub replies-more : (o p q : Output) (rs : List (List ℕ)) (k : ℕ) → Lined replied_room replied_line (map answer_in rs) o p k → k < length rs
    → Grew replied_room p q (replied_line (k + 1) (answer_in (get_or rs k []))) → Lined replied_room replied_line (map answer_in rs) o q (k + 1)
replies-more o p q rs k g l w =
    let many : length (map answer_in rs) ≡ length rs = length-map rs answer_in in
    let here : answer_in (get_or rs k []) ≡ get_or (map answer_in rs) k (answer 0 nothing) = sym (get_or-map answer_in rs k []) in
    lined-more replied_room replied_line (map answer_in rs) o (answer 0 nothing) p q k (length rs) g l (omega (arith, many)) (rw here at w)

eights-are : (n m : ℕ) (rs : List ℕ) → n ≤ m → take n (first_chunks 8 m rs) ≡ pieces n rs
unfolding pieces
eights-are zero m rs l = refl
eights-are (suc n) zero rs l = absurd (omega arith)
eights-are (suc n) (suc m) rs l = ap (λ (ps : List (List ℕ)). take 8 rs ∷ ps) (eights-are n m (drop 8 rs) (omega arith))

-- ---- what stands behind the whole actions

module _ (o : Output) (n : ℕ) (p : Bor (List ℕ)) (w : Walk) (f : Found) (whole : n ≡ length p.now / 8) (begun : (w.actions ≡ p) × (w.at ≡ 8 * n))
    (found : f ≡ found_at w.actions.now w.at) where
  there : f ≡ found_at p.now (8 * n)
  there = rw (begun.0, begun.1) at found

  pub uncut : ((e : ℕ) × (f ≡ Action e)) ⊎ (f ≡ End) → Room (number_room + 5) o → Grew (number_room + 5) o o (flatten (cut_lines p.now))
  unfolding cut_lines
  uncut h r =
      let whole : length p.now % 8 ≡ 0 =
      ⊎_elim (λ (e, a). omega (arith, action-found p.now (8 * n) e (sym there ∙ a))) (λ a. omega (arith, end-found p.now (8 * n) (sym there ∙ a))) h in
      rw (eq-eqb (length p.now % 8) 0 whole) (no_lines (number_room + 5) o (omega (arith, r)))

  pub is_cut : (e : ℕ) → f ≡ Cut e → (q : Output) → Grew (number_room + 5) o q (cut_line (n + 1)) → Grew (number_room + 5) o q (flatten (cut_lines p.now))
  unfolding cut_lines
  is_cut e h q g = rw (ne_eqb (length p.now % 8) 0 (omega (arith, cut-found p.now (8 * n) e (sym there ∙ h))), ← whole) (one_line g)

-- ---- as many pieces as there is room for: all of them

module _ (t p r : List ℕ) (k : ℕ) (t' r' : List ℕ) (small : length p ≤ longest) (room : length r ≡ longest) (h : Played t p r k t' r') where
  all : played p r ≡ piece_count p
  all = omega arith

  pub counted : k ≡ piece_count p
  counted = h.count ∙ all

  replies : answers_in k r' ≡ (run (table_in t) p).replies
  replies =
      let mine = (run (table_in t) p).replies in
      let few : k ≡ length mine = counted ∙ sym (replies-count (piece_count p) (table_in t) p) in
      rw (few, h.replies, all) (answers-back mine (drop (8 * piece_count p) r) (play-carried (table_in t) (pieces (piece_count p) p)))

  table : table_in t' ≡ (run (table_in t) p).table
  table = its-table (rw all at h.table)

  -- ---- the table that is left

  pub left-shown : (b b₁ : List ℕ) (e : ℕ) → Wrote b b₁ 0 (image_of t') e → Wrote b b₁ 0 (image (run (table_in t) p).table) e
  left-shown b b₁ e w = rw table at w

  module _ (ready : Ready t) where
    sound : broken (table_in t') ≡ false
    sound = rw table (play-sound (table_in t) (pieces (piece_count p) p) ready.sound)

    pub left-room : (b : List ℕ) → longest_image ≤ length b → length (image_of t') ≤ length b
    left-room b l = omega (arith, image-most (table_in t') sound)

    pub left-savable : Savable t'
    left-savable =
        let again = savable (stored (table_in t')) true (sym (stored-whole (table_in t') sound)) refl in
        let same : table_in (stored (table_in t')) ≡ table_in t' = stored-table (table_in t') sound in
        record { held = held h.table; roles = λ s. rw same at (again.roles s); rule = rw same at again.rule; floor = rw same at again.floor }

-- ---- the lines of the whole actions and of what they leave

module _ (t p r : List ℕ) (k : ℕ) (t' r' : List ℕ) (small : length p ≤ longest) (room : length r ≡ longest) (h : Played t (whole_actions p) r k t' r') where
  shorter : length (whole_actions p) ≤ longest
  shorter = omega (arith, length-take-le (length p - length p % 8) p (omega arith))

  pub played-shown : (m : ℕ) (eights : List (List ℕ)) → eights ≡ first_chunks 8 m r' → k ≤ m → (o o₁ o₂ o₃ : Output) (most : ℕ)
      → Grew (replied_room * length (take k eights)) o o₁ (flatten (replied_lines (map answer_in (take k eights))))
      → Grew (number_room + 5) o₁ o₂ (flatten (cut_lines p)) → (left : Table) → left ≡ table_in t'
      → Grew table_room o₂ o₃ (flatten (table_lines left)) → replied_room * (longest / 8) + (number_room + 5 + table_room) ≤ most
      → Grew most o o₃ (flatten (played_lines (table_in t) p))
  unfolding played_lines
  played-shown m eights i l o o₁ o₂ o₃ most u v left is w enough =
      let ran = run (table_in t) (whole_actions p) in
      let these : take k eights ≡ pieces k r' = rw i (eights-are k m r' l) in
      let told = rw (these, replies t (whole_actions p) r k t' r' shorter room h) at u in
      let rows = rw (is, table t (whole_actions p) r k t' r' shorter room h) at w in
      let same : length (answers_in k r') ≡ length ran.replies = ap length (replies t (whole_actions p) r k t' r' shorter room h) in
      let few : length (pieces k r') ≤ longest / 8 =
      omega (arith, length-map (pieces k r') answer_in, same, replies-count (piece_count (whole_actions p)) (table_in t) (whole_actions p), shorter) in
      at_most most (omega (arith, few, enough)) (more-lines (replied_lines ran.replies) (cut_lines p ++ table_lines ran.table) told
      (more-lines (cut_lines p) (table_lines ran.table) v rows))
