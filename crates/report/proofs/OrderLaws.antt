-- Laws of lines put one behind another. Assumes nothing.
use Prim.Native.Nat.{ℕ, zero, suc, ◌+◌, ◌-◌, ◌*◌, ◌≤◌, ◌<◌}
use native.Mathlib.Nat.{mul-suc}
use native.Mathlib.Numerals.{add-one}
use native.Mathlib.Omega.{arith}
use mathlib.Core.Path.{◌≡◌, refl, ap, sym, ◌∙◌}
use mathlib.Core.List.{List, [], ◌∷◌, ◌++◌, append_assoc, append-nil, flatten}
use lib.ListN.{length, get_or, take}
use lib.Seq.{take_all}
use Rattle.words.specs.Lists.{nth}
use Rattle.algorithm.specs.Table.{Server, absent, Table, most_servers, positions}
use Rattle.table.specs.Slice.{seen}
use Rattle.table.specs.declared.rows.Row.{Row}
use Rattle.buffer.specs.Buffer.{field_room, Grew}
use Rattle.buffer.specs.declared.Output.{Output}
use Rattle.buffer.proofs.WroteLaws.{grown, grown_none, at_most}
use Rattle.report.specs.Lines.{shown_row, row_line, marks_line, numbered, row_lines, table_lines, row_room, table_room}

pub flatten-append : (l m : List (List ℕ)) → flatten (l ++ m) ≡ flatten l ++ flatten m
unfolding flatten
flatten-append [] m = refl
flatten-append (x ∷ l) m = ap (λ (r : List ℕ). x ++ r) (flatten-append l m) ∙ sym (append_assoc x (flatten l) (flatten m))

-- ---- lines in an output

pub no_lines : (n : ℕ) (o : Output) → o.at ≤ length o.buffer.now → Grew n o o (flatten [])
unfolding flatten
no_lines n o h = grown_none n o h

pub one_line : {n : ℕ} {o p : Output} {l : List ℕ} → Grew n o p l → Grew n o p (flatten (l ∷ []))
unfolding flatten
one_line {l = l} w = rw (append-nil l) w

pub more-lines : {n m : ℕ} {o p q : Output} (l k : List (List ℕ)) → Grew n o p (flatten l) → Grew m p q (flatten k) → Grew (n + m) o q (flatten (l ++ k))
more-lines l k v w = rw (flatten-append l k) (grown v w)

-- ---- a line for each thing in a list

-- the first k lines are put, each of which has n bytes at most
abbrev pub Lined : {A : Type 0} → ℕ → (ℕ → A → List ℕ) → List A → Output → Output → ℕ → Type 0
Lined n line l o p k = Grew (n * k) o p (flatten (numbered line 1 (take k l)))

module _ {A : Type 0} (n : ℕ) (line : ℕ → A → List ℕ) (l : List A) (o : Output) where
  pub lined-none : o.at ≤ length o.buffer.now → Lined n line l o o 0
  unfolding numbered
  lined-none h = no_lines (n * 0) o h

  numbered_next : (d : A) (k i : ℕ) (l : List A) → i < length l
      → numbered line k (take (suc i) l) ≡ numbered line k (take i l) ++ (line (k + i) (get_or l i d) ∷ [])
  unfolding numbered
  numbered_next d k i [] h = absurd (omega arith)
  numbered_next d k zero (x ∷ l) h = let same : k + 0 ≡ k = omega arith in rw same
  numbered_next d k (suc i) (x ∷ l) h =
      let same : k + suc i ≡ suc k + i = omega arith in
      rw same (ap (λ (m : List (List ℕ)). line k x ∷ m) (numbered_next d (suc k) i l (omega arith)))

  pub lined-more : (d : A) (p q : Output) (k m : ℕ) → Lined n line l o p k → k < m → m ≤ length l → Grew n p q (line (k + 1) (get_or l k d))
      → Lined n line l o q (k + 1)
  lined-more d p q k m v f g w =
      let here : k + 1 ≡ 1 + k = omega arith in
      let next = more-lines (numbered line 1 (take k l)) (line (1 + k) (get_or l k d) ∷ []) v (one_line (rw here at w)) in
      rw (add-one, mul-suc, numbered_next d 1 k l (omega arith)) next

-- ---- servers

module _ (ss : List Server) (o p : Output) where
  pub rows_more : (q : Output) (s n : ℕ) (a : Row) → Lined row_room row_line ss o p (s - 1) → Grew row_room p q (shown_row s a)
      → a ≡ seen (nth ss s absent) → 1 ≤ s → s ≤ n → n ≡ length ss → Lined row_room row_line ss o q ((s + 1) - 1)
  unfolding nth
  rows_more q zero n a v w is h l m = absurd (omega arith)
  rows_more q (suc s) n a v w is h l m =
      let here : suc s - 1 ≡ s = omega arith in
      let next : suc s + 1 - 1 ≡ s + 1 = omega arith in
      let number : s + 1 ≡ suc s = add-one s in
      rw next (lined-more row_room row_line ss o absent p q s (length ss) (rw here at v) (omega arith) (omega arith) (rw number (rw is at w)))

  pub rows_all : (s n : ℕ) → Lined row_room row_line ss o p (s - 1) → n < s → s ≤ n + 1 → n ≡ length ss → n ≤ most_servers
      → Grew (row_room * most_servers) o p (flatten (row_lines ss))
  rows_all s n v l m is few =
      let all : take (s - 1) ss ≡ ss = take_all (s - 1) ss (omega arith) in
      at_most (row_room * most_servers) (omega arith) (rw all at v)

pub table-shown : (t : Table) (o p q : Output) → Grew (row_room * most_servers) o p (flatten (row_lines t.servers))
    → Grew (5 + field_room * positions + 1) p q (marks_line t.marks) → Grew table_room o q (flatten (table_lines t))
unfolding table_lines
table-shown t o p q v w = more-lines (row_lines t.servers) (marks_line t.marks ∷ []) v (one_line w)
