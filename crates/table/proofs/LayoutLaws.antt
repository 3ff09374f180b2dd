-- Laws of the layout: each row stands alone between what does not depend on it, and what is laid out is read back. Assumes nothing.
use Prim.Native.Nat.{ℕ, zero, suc, ◌+◌, ◌-◌, ◌*◌, ◌≤◌, ◌<◌}
use native.Mathlib.Omega.{arith}
use mathlib.Core.Path.{◌≡◌, refl, ap, ap₂, sym, ◌∙◌}
use mathlib.Core.List.{List, [], ◌∷◌, ◌++◌, map, append_assoc}
use lib.ListN.{length, set, take, drop, replicate, length-set, length-append, length-replicate, length-map, replicate-append-replicate}
use lib.Seq.{drop-drop, drop_at, take_at, take-append_seam}
use Rattle.words.specs.Lists.{replace}
use Rattle.algorithm.specs.Table.{Entry, Log, Server, Table, count, with_server, positions, most_servers, with_servers, with_marks, with_log}
use Rattle.table.specs.Layout.{padded, terms, bakes, row, head, rows, layout, log_of, server_of, servers_of, table_of, row_words, table_words}
use Rattle.table.specs.Slice.{AllRoomy, Shaped}

-- ---- lengths

pub length-padded : (k : ℕ) (l : List ℕ) → length (padded k l) ≡ k
unfolding padded
length-padded zero l = refl
length-padded (suc k) [] = ap suc (length-padded k [])
length-padded (suc k) (x ∷ l) = ap suc (length-padded k l)

pub length-row : (s : Server) → length (row s) ≡ row_words
length-row s = simp length-append (omega (arith, length-padded positions (terms s.log), length-padded positions (bakes s.log)))

pub length-head : (t : Table) → length (head t) ≡ row_words
length-head t = simp length-append (omega (arith, length-padded positions t.marks, length-replicate {A = ℕ} positions 0))

length-rows : (k : ℕ) (ss : List Server) → length (rows k ss) ≡ row_words * k
unfolding rows
length-rows zero ss = refl
length-rows (suc k) [] = simp length-append (omega (arith, length-replicate {A = ℕ} row_words 0, length-rows k []))
length-rows (suc k) (s ∷ ss) = omega (arith, length-append (row s) (rows k ss), length-row s, length-rows k ss)

pub length-layout : (t : Table) → length (layout t) ≡ table_words
unfolding layout
length-layout t =
    omega (arith, length-append (head t) (rows most_servers t.servers), length-head t, length-rows most_servers t.servers)

-- rows of no server are 0
pub rows_none : (k : ℕ) → rows k [] ≡ replicate (row_words * k) 0
unfolding rows
rows_none zero = refl
rows_none (suc k) =
    let more : row_words + row_words * k ≡ row_words * suc k = omega arith in
    ap (λ (l : List ℕ). replicate row_words 0 ++ l) (rows_none k)
    ∙ replicate-append-replicate row_words (row_words * k) 0
    ∙ ap (λ (j : ℕ). replicate j 0) more

-- ---- a row and what is around it

-- words that have a part as long as a row at a place, whatever the part is made of
pub record Framed {A : Type 0} (at : ℕ) (part whole : A → List ℕ) : Type 0 where
  pub before : List ℕ
  pub after : List ℕ
  pub place : length before ≡ at
  pub full : (a : A) → length (part a) ≡ row_words
  pub around : (a : A) → whole a ≡ before ++ (part a ++ after)

row_in : (k : ℕ) (ss : List Server) (j : ℕ) → j < length ss → j < k → Framed (row_words * j) row (λ s. rows k (set ss j s))
unfolding rows
row_in zero ss j h l = absurd (omega arith)
row_in (suc k) [] j h l = absurd (omega arith)
row_in (suc k) (s ∷ ss) zero h l =
    record { before = []; after = rows k ss; place = refl; full = length-row; around = λ x. refl }
row_in (suc k) (s ∷ ss) (suc j) h l =
    let r = row_in k ss j (omega arith) (omega arith) in
    record {
      before = row s ++ r.before;
      after = r.after;
      place = omega (arith, length-append (row s) r.before, length-row s, r.place);
      full = length-row;
      around = λ x. ap (λ (l : List ℕ). row s ++ l) (r.around x) ∙ sym (append_assoc (row s) r.before (row x ++ r.after));
    }

-- server i's row stands i rows behind the first word
pub server-in : (t : Table) (i : ℕ) → 1 ≤ i → i ≤ count t → count t ≤ most_servers → Framed (row_words * i) row (λ s. layout (with_server t i s))
unfolding layout replace
server-in t zero h l m = absurd (omega arith)
server-in t (suc j) h l m =
    let r = row_in most_servers t.servers j (omega arith) (omega arith) in
    let top = head t in
    record {
      before = top ++ r.before;
      after = r.after;
      place = omega (arith, length-append top r.before, length-head t, r.place);
      full = length-row;
      around = λ x.
          ap (λ (n : ℕ). (n ∷ drop 1 top) ++ rows most_servers (set t.servers j x)) (length-set t.servers j x)
          ∙ ap (λ (l : List ℕ). top ++ l) (r.around x)
          ∙ sym (append_assoc top r.before (row x ++ r.after));
    }

-- the marks' row stands first
pub marks-in : (t : Table) → Framed 0 (λ ms. head (with_marks ms t)) (λ ms. layout (with_marks ms t))
unfolding layout
marks-in t =
    record { before = []; after = rows most_servers t.servers; place = refl; full = λ ms. length-head (with_marks ms t); around = λ ms. refl }

-- ---- reading back

-- what is padded is followed by 0 alone
zeros : (k : ℕ) → padded k [] ≡ replicate k 0
unfolding padded
zeros zero = refl
zeros (suc k) = ap (λ (l : List ℕ). 0 ∷ l) (zeros k)

pub padded-is : (k : ℕ) (l : List ℕ) (r : ℕ) → k ≡ length l + r → padded k l ≡ l ++ replicate r 0
unfolding padded
padded-is k [] r e =
    let same : k ≡ r = omega arith in
    zeros k ∙ ap (λ (n : ℕ). replicate n 0) same
padded-is zero (x ∷ l) r e = absurd (omega arith)
padded-is (suc k) (x ∷ l) r e = ap (λ (m : List ℕ). x ∷ m) (padded-is k l r (omega arith))

-- what was padded, taken out again
take-padded : (k : ℕ) (l r : List ℕ) → length l ≤ k → take (length l) (padded k l ++ r) ≡ l
take-padded k l r h =
    rw (padded-is k l (k - length l) (omega arith), append_assoc l (replicate (k - length l) 0) r) (take-append_seam l (replicate (k - length l) 0 ++ r))

-- a log's room, for its terms or for its bakes: a number for each entry, and 0 beyond them
module _ (f : Entry → ℕ) (l : Log) (r : List ℕ) (h : length l ≤ positions) where
  many : length (map f l) ≡ length l
  many = length-map l f

  pub log-room : take (length l) (padded positions (map f l) ++ r) ≡ map f l
  log-room = rw (← many) (take-padded positions (map f l) r (omega (arith, many)))

  pub log-beyond : take (positions - length l) (drop (length l) (padded positions (map f l) ++ r)) ≡ replicate (positions - length l) 0
  log-beyond =
      let k = positions - length l in
      rw (
        padded-is positions (map f l) k (omega (arith, many)),
        append_assoc (map f l) (replicate k 0) r,
        drop_at (map f l) (replicate k 0 ++ r) (length l) many,
      )
      (take_at (replicate k 0) r k (length-replicate k 0))

pub log_back : (l : Log) → log_of (terms l) (bakes l) ≡ l
unfolding log_of
log_back [] = refl
log_back (e ∷ l) = ap (λ (m : Log). e ∷ m) (log_back l)

pub terms-of : (ts bs : List ℕ) → terms (log_of ts bs) ≡ ts
unfolding log_of
terms-of [] bs = refl
terms-of (T ∷ ts) [] = ap (λ (l : List ℕ). T ∷ l) (terms-of ts [])
terms-of (T ∷ ts) (B ∷ bs) = ap (λ (l : List ℕ). T ∷ l) (terms-of ts bs)

pub bakes-of : (ts bs : List ℕ) → length bs ≡ length ts → bakes (log_of ts bs) ≡ bs
unfolding log_of
bakes-of [] [] e = refl
bakes-of [] (B ∷ bs) e = absurd (omega arith)
bakes-of (T ∷ ts) [] e = absurd (omega arith)
bakes-of (T ∷ ts) (B ∷ bs) e = ap (λ (l : List ℕ). B ∷ l) (bakes-of ts bs (omega arith))

-- behind the six figures stand the terms, and behind those the bakes
module _ (s : Server) (r : List ℕ) where
  pub row-terms : drop 6 (row s ++ r) ≡ padded positions (terms s.log) ++ (padded positions (bakes s.log) ++ r)
  row-terms = append_assoc (padded positions (terms s.log)) (padded positions (bakes s.log)) r

  pub row-bakes : drop (6 + positions) (row s ++ r) ≡ padded positions (bakes s.log) ++ r
  row-bakes =
      let a = padded positions (terms s.log) in
      sym (drop-drop positions 6 (row s ++ r))
      ∙ ap (drop positions) row-terms
      ∙ drop_at a (padded positions (bakes s.log) ++ r) positions (length-padded positions (terms s.log))

  pub server-back : length s.log ≤ positions → server_of (row s ++ r) ≡ s
  unfolding server_of
  server-back h =
      let k = length s.log in
      let log : log_of (take k (drop 6 (row s ++ r))) (take k (drop (6 + positions) (row s ++ r))) ≡ s.log =
      ap₂ log_of
      (ap (take k) row-terms ∙ log-room (λ e. e.term) s.log (padded positions (bakes s.log) ++ r) h)
      (ap (take k) row-bakes ∙ log-room (λ e. e.bake) s.log r h)
      ∙ log_back s.log in
      λ d. with_log (log d) s

servers-back : (k : ℕ) (ss : List Server) → length ss ≤ k → AllRoomy ss → servers_of (length ss) (rows k ss) ≡ ss
unfolding servers_of rows
servers-back k [] h f = refl
servers-back zero (s ∷ ss) h f = absurd (omega arith)
servers-back (suc k) (s ∷ ss) h f =
    rw (server-back s (rows k ss) f.0.short, drop_at (row s) (rows k ss) row_words (length-row s), servers-back k ss (omega arith) f.1)

pub marks-back : (t : Table) → length t.marks ≡ positions → take positions (drop 6 (layout t)) ≡ t.marks
unfolding layout
marks-back t h =
    let rest = replicate positions 0 ++ rows most_servers t.servers in
    ap (take positions) (append_assoc (padded positions t.marks) (replicate positions 0) (rows most_servers t.servers))
    ∙ ap (λ (n : ℕ). take n (padded positions t.marks ++ rest)) (sym h)
    ∙ take-padded positions t.marks rest (omega arith)

-- the 0 behind them
pub marks-behind : (t : Table) → take positions (drop (6 + positions) (layout t)) ≡ replicate positions 0
unfolding layout
marks-behind t =
    let a = padded positions t.marks in
    let all = replicate positions 0 ++ rows most_servers t.servers in
    ap (λ (l : List ℕ). take positions (drop positions l)) (append_assoc a (replicate positions 0) (rows most_servers t.servers))
    ∙ ap (take positions) (drop_at a all positions (length-padded positions t.marks))
    ∙ take_at (replicate positions 0) (rows most_servers t.servers) positions (length-replicate {A = ℕ} positions 0)

pub table-back : (t : Table) → Shaped t → table_of (layout t) ≡ t
unfolding table_of layout
table-back t h = λ d. with_servers (servers d) (with_marks (marks-back t h.marked d) t)
  where
    servers : servers_of (count t) (drop row_words (layout t)) ≡ t.servers
    servers =
        rw (drop_at (head t) (rows most_servers t.servers) row_words (length-head t))
        (servers-back most_servers t.servers h.few h.roomy)
