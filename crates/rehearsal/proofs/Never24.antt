-- Of a table that actions left of a fresh one, whatever plan follows its image, `refused 24` is never printed. Assumes nothing.
use Prim.Native.Nat.{ℕ, zero, suc, ◌+◌, ◌-◌, ◌*◌, ◌/◌, ◌%◌, ◌<◌}
use native.Mathlib.Decide.{dec_le, dec_lt}
use native.Mathlib.Omega.{arith}
use mathlib.Core.Bool.{Bool, true, false, cond, not, ◌&&◌, and_assoc}
use mathlib.Core.List.{List, [], ◌∷◌, ◌++◌, append_assoc, append-nil, flatten, map-append}
use mathlib.Core.Logic.{◌≢◌}
use mathlib.Core.Path.{◌≡◌, refl, sym, ap, ◌∙◌}
use lib.Dec.{T, eqb, ltb}
use lib.ListN.{length, get_or, take, drop}
use lib.Seq.{get_or-append-add, take_at}
use borrow.Author.Tests.{lt-ltb, le-ltb, ne_eqb}
use mir.Facts.{and_yes, eqb_no}
use Rattle.words.specs.Refusal.{Shown, Answer}
use Rattle.words.proofs.Choice.{cond-elim}
use Rattle.algorithm.specs.Table.{Table, Server, broken, fresh}
use Rattle.algorithm.specs.Run.{numbers, pieces, piece_count, Ran, play, run}
use Rattle.algorithm.proofs.Runs.{play-sound, play-append}
use Rattle.algorithm.proofs.Demands.{not-given-24}
use Rattle.image.specs.Image.{image}
use Rattle.buffer.specs.Buffer.{text, digits, decimal, field, fields, Wrote}
use Rattle.report.specs.Lines.{copies, pair, beside, reply, replied_line, cut_line, too_long_line, letter, shown_row, row_line, marks_line, numbered, replied_lines, row_lines, table_lines, whole_actions, cut_lines, played_lines}
use Rattle.report.proofs.OrderLaws.{flatten-append}
use Rattle.rehearsal.specs.Programs.{longest, input_lines, printed}
use Rattle.rehearsal.proofs.PrintedTheorems.{image-lines}

-- ---- bytes in which something does not occur

-- what is looked for, from the one of its letters that no other word has
abbrev sought : List ℕ
sought = text "fused 24\n"

-- it begins nowhere in these bytes
unfoldable Without : List ℕ → Type 0
Without [] = Unit {0}
Without (c ∷ l) = ((y : List ℕ) → c ∷ l ≡ sought ++ y → ⊥) × Without l

nowhere : (l x y : List ℕ) → Without l → l ≡ x ++ (sought ++ y) → ⊥
unfolding Without
nowhere [] [] y h e = omega (arith, ap length e)
nowhere [] (d ∷ x) y h e = omega (arith, ap length e)
nowhere (c ∷ l) [] y (here, _) e = here y e
nowhere (c ∷ l) (d ∷ x) y (_, rest) e = nowhere l x y rest (ap (drop 1) e)

-- ---- bytes without that letter

unfoldable plain : List ℕ → Bool
plain [] = true
plain (c ∷ l) = not (eqb c 102) && plain l

plain-append : (l m : List ℕ) → plain (l ++ m) ≡ plain l && plain m
unfolding plain
plain-append [] m = refl
plain-append (c ∷ l) m = rw (plain-append l m) (sym (and_assoc (not (eqb c 102)) (plain l) (plain m)))

-- it does not occur where they stand before bytes in which it does not
before : (l m : List ℕ) → plain l ≡ true → Without m → Without (l ++ m)
unfolding plain Without
before l m e h = go l (rw e tt)
  where
    go : (l : List ℕ) → T (plain l) → Without (l ++ m)
    go [] t = h
    go (c ∷ l) t =
        let (here, rest) = and_yes (not (eqb c 102)) (plain l) t in
        (λ y e. eqb_no here (ap (λ (l : List ℕ). get_or l 0 0) e), go l rest)

digits-plain : (k n : ℕ) → plain (digits k n) ≡ true
unfolding digits plain
digits-plain zero n = refl
digits-plain (suc k) n =
    elim (dec_lt n 10) [
      | yes s ↦ rw (lt-ltb n 10 s, ne_eqb (48 + n) 102 (omega arith))
      | no s ↦
          rw (le-ltb n 10 (omega arith), plain-append (digits k (n / 10)) ((48 + n % 10) ∷ []), digits-plain k (n / 10))
          (rw (ne_eqb (48 + n % 10) 102 (omega arith)))
    ]

decimal-plain : (n : ℕ) → plain (decimal n) ≡ true
unfolding decimal
decimal-plain n = digits-plain (suc n) n

field_plain : (n : ℕ) → plain (field n) ≡ true
unfolding field plain
field_plain n = decimal-plain n

fields-plain : (l : List ℕ) → plain (fields l) ≡ true
unfolding fields plain
fields-plain [] = refl
fields-plain (x ∷ l) = rw (plain-append (field x) (fields l), field_plain x, fields-plain l)

-- ---- lines without it

cuts-plain : (p : List ℕ) → plain (flatten (cut_lines p)) ≡ true
unfolding cut_lines cut_line flatten plain
cuts-plain p =
    cond-elim (λ (l : List (List ℕ)). plain (flatten l) ≡ true) (eqb (length p % 8) 0) (λ _. refl) (λ _. simp (append-nil, plain-append, decimal-plain))

letter-plain : (r : ℕ) → plain (letter r) ≡ true
unfolding letter plain
letter-plain r = cond-elim (λ (l : List ℕ). plain l ≡ true) (eqb r 1) (λ _. refl) (λ _. refl)

rows-plain : (k : ℕ) (ss : List Server) → plain (flatten (numbered row_line k ss)) ≡ true
unfolding numbered flatten shown_row plain
rows-plain k [] = refl
rows-plain k (s ∷ ss) = simp (plain-append, field_plain, letter-plain, fields-plain, rows-plain (suc k) ss)

table-plain : (t : Table) → plain (flatten (table_lines t)) ≡ true
unfolding table_lines marks_line flatten plain
table-plain t =
    rw (flatten-append (row_lines t.servers) (marks_line t.marks ∷ []))
    (simp (plain-append, rows-plain 1 t.servers, append-nil, fields-plain))

-- ---- replies

-- the number that digits say, up to what is none: a space, or the end of the line
unfoldable value : ℕ → List ℕ → ℕ
value a [] = a
value a (c ∷ l) = cond (ltb c 48) a (value (10 * a + (c - 48)) l)

value-digit : (a d n : ℕ) (l : List ℕ) → d < 10 → 10 * a + d ≡ n → value a ((48 + d) ∷ l) ≡ value n l
unfolding value
value-digit a d n l h e =
    let same : 10 * a + (48 + d - 48) ≡ n = omega arith in
    rw (le-ltb (48 + d) 48 (omega arith)) (ap (λ (a : ℕ). value a l) same)

value-digits : (k n : ℕ) (l : List ℕ) → n < k → value 0 (digits k n ++ l) ≡ value n l
unfolding digits
value-digits zero n l h = absurd (omega arith)
value-digits (suc k) n l h =
    elim (dec_lt n 10) [
      | yes s ↦ rw (lt-ltb n 10 s) (value-digit 0 n n l s (omega arith))
      | no s ↦
          rw (le-ltb n 10 (omega arith), append_assoc (digits k (n / 10)) ((48 + n % 10) ∷ []) l)
          (value-digits k (n / 10) ((48 + n % 10) ∷ l) (omega arith) ∙ value-digit (n / 10) (n % 10) n l (omega arith) (omega arith))
    ]

-- what stands behind the number of a refusal is a space, or the end of the line
behind : (s : Shown) (n : ℕ) (m : List ℕ) → value n (beside s ++ (text "\n" ++ m)) ≡ n
unfolding beside pair fields field value
behind s n m =
    let line : List ℕ → Type 0 = λ l. value n (l ++ (text "\n" ++ m)) ≡ n in
    cond-elim line (eqb s.server 0) (λ _. cond-elim line (eqb s.old 0) (λ _. refl) (λ _. refl)) (λ _. refl)

pair-plain : (s : Shown) → plain (pair s) ≡ true
unfolding pair plain
pair-plain s = cond-elim (λ (l : List ℕ). plain l ≡ true) (eqb s.old 0) (λ _. refl) (λ _. fields-plain (s.old ∷ s.new ∷ []))

beside-plain : (s : Shown) → plain (beside s) ≡ true
unfolding beside plain
beside-plain s = cond-elim (λ (l : List ℕ). plain l ≡ true) (eqb s.server 0) (λ _. pair-plain s) (λ _. field_plain s.server)

refused-without : (n : ℕ) (s : Shown) → n ≢ 24 → (m : List ℕ) → Without m → Without (text " refused" ++ field n ++ beside s ++ (text "\n" ++ m))
unfolding field decimal plain Without value
refused-without n s ne m h =
    let line : List ℕ = text "\n" ++ m in
    let rest : List ℕ = (decimal n ++ beside s) ++ line in
    let parts : rest ≡ decimal n ++ (beside s ++ line) = append_assoc (decimal n) (beside s) line in
    before (text " re") (text "fused " ++ rest) refl (
      λ y e. ne (sym (ap (value 0) parts ∙ value-digits (suc n) n (beside s ++ line) (omega arith) ∙ behind s n m) ∙ ap (λ (l : List ℕ). value 0 (drop 6 l)) e),
      before (text "used ") rest refl
          (rw parts (before (decimal n) (beside s ++ line) (decimal-plain n) (before (beside s) line (beside-plain s) (before (text "\n") m refl h)))),
    )

copies_plain : (s : Shown) → plain (copies s) ≡ true
unfolding copies plain
copies_plain s = cond-elim (λ (l : List ℕ). plain l ≡ true) (eqb s.copied 0) (λ _. refl) (λ _. field_plain s.copied)

reply-without : (a : Answer) → a.number ≢ 24 → (m : List ℕ) → Without m → Without (reply a ++ (text "\n" ++ m))
unfolding reply plain
reply-without a ne m h =
    cond-elim (λ (l : List ℕ). Without (l ++ (text "\n" ++ m))) (eqb a.number 0)
    (λ _. before (text " taken" ++ copies a.shown) (text "\n" ++ m) (copies_plain a.shown) (before (text "\n") m refl h))
    (λ _. refused-without a.number a.shown ne m h)

replies-without : (k : ℕ) (rs : List Answer) → ((j : ℕ) → get_or (numbers rs) j 0 ≢ 24) → (m : List ℕ) → Without m
    → Without (flatten (numbered replied_line k rs) ++ m)
unfolding numbered flatten replied_line
replies-without k [] ne m h = h
replies-without k (r ∷ rs) ne m h =
    let rest = flatten (numbered replied_line (suc k) rs) ++ m in
    rw (append_assoc (replied_line k r) (flatten (numbered replied_line (suc k) rs)) m, append_assoc (decimal k ++ reply r) (text "\n") rest)
    (rw (append_assoc (decimal k) (reply r) (text "\n" ++ rest))
    (before (decimal k) (reply r ++ (text "\n" ++ rest)) (decimal-plain k)
    (reply-without r (ne 0) rest (replies-without (suc k) rs (λ j. ne (suc j)) m h))))

plain-without : (l : List ℕ) → plain l ≡ true → Without l
unfolding Without
plain-without l h = rw append-nil at (before l [] h tt)

-- ---- the whole output

module _ (t : Table) (p : List ℕ) (ne : (j : ℕ) → get_or (numbers (run t (whole_actions p)).replies) j 0 ≢ 24) where
  played-without : Without (flatten (played_lines t p))
  unfolding played_lines
  played-without =
      let ran = run t (whole_actions p) in
      let rest = cut_lines p ++ table_lines ran.table in
      let quiet : plain (flatten rest) ≡ true = rw (flatten-append (cut_lines p) (table_lines ran.table), plain-append, cuts-plain p, table-plain ran.table) in
      rw (flatten-append (replied_lines ran.replies) rest) (replies-without 1 ran.replies ne (flatten rest) (plain-without (flatten rest) quiet))

  printed-without : broken t ≡ false → Without (printed (image t ++ p))
  unfolding input_lines too_long_line flatten plain
  printed-without sound =
      elim (dec_le (length (image t ++ p)) longest) [
        | yes s ↦ rw (image-lines t p sound s) played-without
        | no s ↦ rw (lt-ltb longest (length (image t ++ p)) (omega arith)) (plain-without (text "too long\n") refl)
      ]

-- Actions on a fresh table, the image of what they leave, and any bytes behind it, which `rehearse` plays: nowhere in what it prints does
-- `refused 24` stand. With no actions it is the image of a fresh table.
module _ (n m R F : ℕ) (acts : List (List ℕ)) (sound : broken (fresh n m R F) ≡ false) where
  abbrev pub left : Table
  left = (play (fresh n m R F) acts).table

  replies-24 : (q : List (List ℕ)) (j : ℕ) → get_or (numbers (play left q).replies) j 0 ≢ 24
  replies-24 q j e =
      let ran = play (fresh n m R F) acts in
      let first = numbers ran.replies in
      let next = numbers (play left q).replies in
      not-given-24 n m R F (acts ++ q) (length first + j)
      (ap (λ (r : Ran). get_or (numbers r.replies) (length first + j) 0) (play-append (fresh n m R F) acts q)
      ∙ rw (map-append (λ (a : Answer). a.number) ran.replies (play left q).replies) (get_or-append-add first next j 0) ∙ e)

  pub never-printed : (p x y : List ℕ) → printed (image left ++ p) ≢ x ++ (text " refused 24\n" ++ y)
  never-printed p x y e =
      let plan = whole_actions p in
      nowhere (printed (image left ++ p)) (x ++ text " re") y
      (printed-without left p (replies-24 (pieces (piece_count plan) plan)) (play-sound (fresh n m R F) acts sound))
      (e ∙ sym (append_assoc x (text " re") (sought ++ y)))

  -- so whoever keeps the promise of `rehearse` leaves no such line in the part of the buffer that is printed
  pub never-shown : {b b' : List ℕ} {e : ℕ} (p : List ℕ) → Wrote b b' 0 (printed (image left ++ p)) e
      → (x y : List ℕ) → take e b' ≢ x ++ (text " refused 24\n" ++ y)
  never-shown {b} {e = e} p w x y f =
      let shown = printed (image left ++ p) in
      never-printed p x y (sym (ap (take e) w.bytes ∙ take_at shown (drop e b) e (omega (arith, w.end))) ∙ f)
