-- What the parts of a line make when they are written one behind another. Assumes nothing.
use Prim.Native.Nat.{ℕ, ◌+◌, ◌*◌}
use native.Mathlib.Omega.{arith}
use mathlib.Core.Path.{◌≡◌, sym, ◌∙◌}
use mathlib.Core.List.{List, [], ◌∷◌, ◌++◌}
use lib.ListN.{length, take}
use borrow.Author.Tests.{eq-eqb, ne_eqb}
use Rattle.words.specs.Refusal.{Shown, Answer}
use Rattle.algorithm.specs.Table.{positions, trimmed}
use Rattle.table.specs.declared.rows.Row.{Row}
use Rattle.table.proofs.MarkLaws.{trimmed-take}
use Rattle.buffer.specs.Buffer.{text, decimal, number_room, field, field_room, fields, Room, Grew}
use Rattle.buffer.specs.declared.Output.{Output}
use Rattle.report.specs.Lines.{pair, beside, reply, replied_line, cut_line, bad_site_line, too_long_line, letter, figures, shown_row, marks_line, reply_room, replied_room, row_room, copies}
use Rattle.buffer.proofs.WroteLaws.{grown, grown_none, at_most}
use Rattle.buffer.proofs.FieldLaws.{one_field, more-fields}

-- ---- parts of a line

pub taken : (o p q : Output) (a : Answer) (k : ℕ) → k ≡ a.number → k ≡ 0 → Grew 6 o p (text " taken") → Grew field_room p q (copies a.shown)
    → Grew reply_room o q (reply a)
unfolding reply
taken o p q a k is h w f = rw (eq-eqb a.number 0 (sym is ∙ h)) (at_most reply_room (omega arith) (grown w f))

-- x is how many were copied as the code has read it
module _ (s : Shown) (x : ℕ) (is : x ≡ s.copied) (o : Output) where
  pub no_copies : x ≡ 0 → Room field_room o → Grew field_room o o (copies s)
  unfolding copies
  no_copies h r = rw (eq-eqb s.copied 0 (sym is ∙ h)) (grown_none field_room o (omega (arith, r)))

  pub copies-shown : (p : Output) → (x ≡ 0 → ⊥) → Grew field_room o p (field x) → Grew field_room o p (copies s)
  unfolding copies
  copies-shown p h f = rw (ne_eqb s.copied 0 (λ z. h (is ∙ z)), ← is) f

module _ (o p : Output) where
  pub primary : (r : ℕ) → r ≡ 1 → Grew 2 o p (text " P") → Grew 2 o p (letter r)
  unfolding letter
  primary r h w = rw (eq-eqb r 1 h) w

  pub secondary : (r : ℕ) → (r ≡ 1 → ⊥) → Grew 2 o p (text " S") → Grew 2 o p (letter r)
  unfolding letter
  secondary r h w = rw (ne_eqb r 1 h) w

-- x and y are the majorities as the code has read them
module _ (s : Shown) (x : ℕ) (is : x ≡ s.old) (o : Output) where
  pub no-pair : x ≡ 0 → Room (2 * field_room) o → Grew (2 * field_room) o o (pair s)
  unfolding pair
  no-pair h r = rw (eq-eqb s.old 0 (sym is ∙ h)) (grown_none (2 * field_room) o (omega (arith, r)))

  pub pair-shown : (p q : Output) (y : ℕ) → (x ≡ 0 → ⊥) → y ≡ s.new → Grew field_room o p (field x) → Grew field_room p q (field y)
      → Grew (2 * field_room) o q (pair s)
  unfolding pair
  pair-shown p q y h too f g =
      rw (ne_eqb s.old 0 (λ z. h (is ∙ z)), ← is, ← too) (more-fields (x ∷ []) (y ∷ []) (one_field x f) (one_field y g))

-- x is the server as the code has read it
module _ (s : Shown) (x : ℕ) (is : x ≡ s.server) (o p : Output) where
  pub no-server : x ≡ 0 → Grew (2 * field_room) o p (pair s) → Grew (2 * field_room) o p (beside s)
  unfolding beside
  no-server h w = rw (eq-eqb s.server 0 (sym is ∙ h)) w

  pub server-shown : (q : Output) → (x ≡ 0 → ⊥) → Grew 3 o p (text " at") → Grew field_room p q (field x) → Grew (2 * field_room) o q (beside s)
  unfolding beside
  server-shown q h w f = rw (ne_eqb s.server 0 (λ z. h (is ∙ z)), ← is) (at_most (2 * field_room) (omega arith) (grown w f))

pub refused : (o p q r : Output) (a : Answer) (k : ℕ) → k ≡ a.number → (k ≡ 0 → ⊥) → Grew 8 o p (text " refused") → Grew field_room p q (field k)
    → Grew (2 * field_room) q r (beside a.shown) → Grew reply_room o r (reply a)
unfolding reply
refused o p q r a k is h w f g = rw (ne_eqb a.number 0 (λ z. h (is ∙ z)), ← is) (grown (grown w f) g)

pub head : (o p q r : Output) (s role : ℕ) → Grew 3 o p (text "row") → Grew field_room p q (field s) → Grew 2 q r (letter role)
    → Grew (5 + field_room) o r (text "row" ++ field s ++ letter role)
head o p q r s role w n l = grown (grown w n) l

-- ---- lines

pub too_long : (o p : Output) → Grew 9 o p (text "too long\n") → Grew 9 o p too_long_line
unfolding too_long_line
too_long o p w = w

pub cut : (o p q : Output) (k : ℕ) → Grew number_room o p (decimal k) → Grew 5 p q (text " cut\n") → Grew (number_room + 5) o q (cut_line k)
unfolding cut_line
cut o p q k n w = grown n w

module _ (o p q r : Output) where
  pub replied : (k : ℕ) (a : Answer) → Grew number_room o p (decimal k) → Grew reply_room p q (reply a) → Grew 1 q r (text "\n")
      → Grew replied_room o r (replied_line k a)
  unfolding replied_line
  replied k a n f w = grown (grown n f) w

  pub bad-site : (n : ℕ) → Grew 8 o p (text "bad site") → Grew field_room p q (field n) → Grew 1 q r (text "\n")
      → Grew (8 + field_room + 1) o r (bad_site_line n)
  unfolding bad_site_line
  bad-site n v f w = grown (grown v f) w

  pub row : (s : ℕ) (a : Row) → Grew (5 + field_room) o p (text "row" ++ field s ++ letter a.figures.role)
      → Grew (6 * field_room) p q (fields (figures a)) → Grew 1 q r (text "\n") → Grew row_room o r (shown_row s a)
  unfolding shown_row
  row s a n f w = grown (grown n f) w

  pub marks-shown : (ms : List ℕ) (n : ℕ) → n ≡ length (trimmed ms) → Grew 5 o p (text "marks")
      → Grew (field_room * positions) p q (fields (take n ms)) → Grew 1 q r (text "\n") → Grew (5 + field_room * positions + 1) o r (marks_line ms)
  unfolding marks_line
  marks-shown ms n h v f w = rw (sym (trimmed-take ms), ← h) (grown (grown v f) w)
