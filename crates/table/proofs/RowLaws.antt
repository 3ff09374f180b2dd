-- What the functions on one row read and put. Assumes nothing.
use Prim.Native.Nat.{ℕ, zero, suc, ◌+◌, ◌-◌, ◌*◌, ◌≤◌, ◌<◌}
use native.Mathlib.Nat.{zero-add}
use native.Mathlib.Numerals.{add-one, sub-one}
use native.Mathlib.Omega.{arith}
use mathlib.Core.Path.{◌≡◌, refl, ap, sym, subst, ◌∙◌}
use mathlib.Core.List.{List, [], ◌∷◌, ◌++◌, map}
use lib.ListN.{length, get_or, set, take, replicate, length-append, length-take, get_or-map, get_or-append}
use lib.Seq.{length-take-le, set-append_left, get_or-append-add}
use Rattle.words.specs.Lists.{nth, replace}
use Rattle.algorithm.specs.Table.{Entry, entry_of, no_entry, Log, Server, Table, count, server, term_at, bake_at, mark, changed, with_mark, with_role, with_term, with_config, with_entry, without_last, last, positions, most_servers}
use Rattle.words.proofs.Lists.{length-replace}
use Rattle.words.specs.Words.{words, Put}
use Rattle.table.specs.Layout.{padded, terms, bakes, row, head, table_in, row_words}
use Rattle.table.specs.Slice.{Roomy, Holds, Held, Became, Within}
use Rattle.table.proofs.ListLaws.{set_both}
use Rattle.table.proofs.LayoutLaws.{length-padded, marks-in}
use Rattle.table.proofs.HeldLaws.{its-table, held, its-room, Open, opened, read, then, closed, frame, open_row, close_row, field-read}

-- ---- the number of servers, the rule and the floor

-- t is the table in the slice b
module _ (b : List ℕ) (t : Table) (h : Held b) (is : table_in b ≡ t) where
  -- a word of row 0
  top_read : (k r : ℕ) → k < row_words → r ≡ get_or (words b) k 0 → r ≡ get_or (head t) k 0
  top_read k r l e =
      let m = marks-in (table_in b) in
      e
      ∙ ap (λ (n : ℕ). get_or (words b) n 0) (sym (zero-add k))
      ∙ read m k (opened m b (table_in b).marks h.sized h.laid) l
      ∙ ap (λ (u : Table). get_or (head u) k 0) is

  pub count-read : (r : ℕ) → r ≡ get_or (words b) 0 0 → r ≡ count t
  count-read r e = top_read 0 r (omega arith) e

  pub rule-read : (r : ℕ) → r ≡ get_or (words b) 1 0 → r ≡ t.rule
  rule-read r e = top_read 1 r (omega arith) e

  pub floor-read : (r : ℕ) → r ≡ get_or (words b) 2 0 → r ≡ t.floor
  floor-read r e = top_read 2 r (omega arith) e

  pub count_small : (r : ℕ) → r ≡ get_or (words b) 0 0 → r ≤ most_servers
  count_small r e = omega (arith, count-read r e, ap count is, h.shaped.few)

-- ---- a log in its room

past-six : (p : ℕ) → 5 + suc p ≡ suc (suc (suc (suc (suc (suc p)))))
past-six p = omega arith

past-terms : (p : ℕ) → 69 + suc p ≡ suc (suc (suc (suc (suc (suc (positions + p))))))
past-terms p = omega arith

get-padded : (k : ℕ) (l : List ℕ) (p : ℕ) → p < k → get_or (padded k l) p 0 ≡ get_or l p 0
unfolding padded
get-padded zero l p h = absurd (omega arith)
get-padded (suc k) [] zero h = refl
get-padded (suc k) [] (suc p) h = get-padded k [] p (omega arith)
get-padded (suc k) (x ∷ l) zero h = refl
get-padded (suc k) (x ∷ l) (suc p) h = get-padded k l p (omega arith)

-- what stands for an entry, its term or its bake, in the log's room
get-room : (f : Entry → ℕ) (l : Log) (p : ℕ) → f no_entry ≡ 0 → p < positions → get_or (padded positions (map f l)) p 0 ≡ f (get_or l p no_entry)
get-room f l p z h = get-padded positions (map f l) p h ∙ ap (get_or (map f l) p) (sym z) ∙ get_or-map f l p no_entry

-- the two halves of a log's room
module _ (s : Server) where
  abbrev front : List ℕ
  front = padded positions (terms s.log)

  abbrev back : List ℕ
  back = padded positions (bakes s.log)

  half : length front ≡ positions
  half = length-padded positions (terms s.log)

  -- the term at a position of the log is the word so far past the length
  pub entry_read : (p r : ℕ) → 1 ≤ p → p ≤ positions → r ≡ get_or (row s) (5 + p) 0 → r ≡ term_at s.log p
  unfolding nth
  entry_read zero r h l e = absurd (omega arith)
  entry_read (suc p) r h l e =
      e
      ∙ ap (λ (n : ℕ). get_or (row s) n 0) (past-six p)
      ∙ get_or-append front back 0 p (omega (arith, half))
      ∙ get-room (λ e. e.term) s.log p refl (omega arith)

  -- and its bake the word so far past the last term
  pub bake-read : (p r : ℕ) → 1 ≤ p → p ≤ positions → r ≡ get_or (row s) (69 + p) 0 → r ≡ bake_at s.log p
  unfolding nth
  bake-read zero r h l e = absurd (omega arith)
  bake-read (suc p) r h l e =
      e
      ∙ ap (λ (n : ℕ). get_or (row s) n 0) (past-terms p)
      ∙ ap (λ (n : ℕ). get_or (front ++ back) (n + p) 0) (sym half)
      ∙ get_or-append-add front back p 0
      ∙ get-room (λ e. e.bake) s.log p refl (omega arith)

module _ (b : List ℕ) (t : Table) (h : Held b) (is : table_in b ≡ t) where
  pub mark-read : (p r : ℕ) → 1 ≤ p → p ≤ positions → r ≡ get_or (words b) (5 + p) 0 → r ≡ mark t p
  unfolding nth
  mark-read zero r k l e = absurd (omega arith)
  mark-read (suc p) r k l e =
      top_read b t h is (5 + suc p) r (omega arith) e
      ∙ ap (λ (n : ℕ). get_or (head t) n 0) (past-six p)
      ∙ get_or-append (padded positions t.marks) (replicate positions 0) 0 p (omega (arith, length-padded positions t.marks))
      ∙ get-padded positions t.marks p (omega arith)

  pub marks-all : length t.marks ≡ positions
  marks-all = sym (ap (λ (u : Table). length u.marks) is) ∙ h.shaped.marked

-- ---- the last entry

none : (l : Log) → 0 ≡ term_at l 0
unfolding nth
none l = refl

-- the word so far past the length as the log is long is its last entry; of an empty log that is the length itself, 0
pub last-read : (s : Server) (n r : ℕ) → n ≡ length s.log → n ≤ positions → r ≡ get_or (row s) (5 + n) 0 → r ≡ last s.log
last-read s n r e l h = rw (← e) (go n e l h)
  where
    go : (n : ℕ) → n ≡ length s.log → n ≤ positions → r ≡ get_or (row s) (5 + n) 0 → r ≡ term_at s.log n
    go zero e l h = h ∙ sym e ∙ none s.log
    go (suc p) e l h = entry_read s (suc p) r (omega arith) l h

-- a word of a server's row, and what has room there
module _ (b : List ℕ) (t : Table) (h : Held b) (is : table_in b ≡ t) (i : ℕ) where
  pub word-seen : (f r : ℕ) → Within t i → f < row_words → r ≡ get_or (words b) (row_words * i + f) 0 → r ≡ get_or (row (server t i)) f 0
  word-seen f r w l e =
      field-read h (subst (λ (u : Table). Within u i) (sym is) w) f r l e ∙ ap (λ (u : Table). get_or (row (server u i)) f 0) is

  pub row-room : Roomy (server t i)
  row-room = subst (λ (u : Table). Roomy (server u i)) is (its-room i h)

module _ (s : Server) (r : ℕ) (room : Roomy s) where
  pub set-small : r ≡ s.config.set → r < 65536
  set-small e = omega (arith, room.small)

  pub log-short : r ≡ length s.log → r ≤ positions
  log-short e = omega (arith, room.short)

-- ---- an entry more, and one less

module _ (f : Entry → ℕ) where
  push-room : (k : ℕ) (l : Log) (e : Entry) → length l < k → set (padded k (map f l)) (length l) (f e) ≡ padded k (map f (l ++ (e ∷ [])))
  unfolding padded
  push-room zero l e h = absurd (omega arith)
  push-room (suc k) [] e h = refl
  push-room (suc k) (x ∷ l) e h = ap (λ (y : List ℕ). f x ∷ y) (push-room k l e (omega arith))

  pop-room : (k : ℕ) (l : Log) (n : ℕ) → length l ≡ suc n → n < k → set (padded k (map f l)) n 0 ≡ padded k (map f (take n l))
  unfolding padded
  pop-room k [] n e h = absurd (omega arith)
  pop-room zero (x ∷ l) n e h = absurd (omega arith)
  pop-room (suc k) (x ∷ []) zero e h = refl
  pop-room (suc k) (x ∷ []) (suc n) e h = absurd (omega arith)
  pop-room (suc k) (x ∷ y ∷ l) zero e h = absurd (omega arith)
  pop-room (suc k) (x ∷ y ∷ l) (suc n) e h = ap (λ (z : List ℕ). f x ∷ z) (pop-room k (y ∷ l) n (omega arith) (omega arith))

module _ (s : Server) where
  push_row : (n : ℕ) (e : Entry) → n ≡ length s.log → n < positions
      → set (set (set (row s) 5 (n + 1)) (5 + (n + 1)) e.term) (69 + (n + 1)) e.bake ≡ row (with_entry e s)
  push_row n e q h =
      rw (
        q,
        add-one,
        past-six (length s.log),
        past-terms (length s.log),
        set_both (front s) (back s) positions (length s.log) e.term e.bake (half s) (omega arith),
        push-room (λ e. e.term) positions s.log e (omega arith),
        push-room (λ e. e.bake) positions s.log e (omega arith),
        length-append s.log (e ∷ []),
        add-one,
      )

  pop-row : (n : ℕ) → n ≡ length s.log → 1 ≤ n → n ≤ positions
      → set (set (set (row s) 5 (n - 1)) (5 + n) 0) (69 + n) 0 ≡ row (without_last s)
  pop-row zero q h l = absurd (omega arith)
  pop-row (suc n) q h l =
      rw (
        ← q,
        sub-one,
        past-six n,
        past-terms n,
        set_both (front s) (back s) positions n 0 0 (half s) (omega arith),
        pop-room (λ e. e.term) positions s.log n (sym q) (omega arith),
        pop-room (λ e. e.bake) positions s.log n (sym q) (omega arith),
        length-take-le n s.log (omega arith),
      )

-- ---- figures put

module _ {b : List ℕ} {i : ℕ} (h : Held b) (w : Within (table_in b) i) where
  pub role-put : (b' : List ℕ) (v : ℕ) → Put b b' (row_words * i + 0) v → Became b b' (changed (table_in b) i (with_role v))
  role-put b' v p = close_row h w _ (its-room i h) (then (frame h w) (open_row h w) (omega arith) p)

  pub term-put : (b' : List ℕ) (v : ℕ) → Put b b' (row_words * i + 1) v → Became b b' (changed (table_in b) i (with_term v))
  term-put b' v p = close_row h w _ (its-room i h) (then (frame h w) (open_row h w) (omega arith) p)

  pub config-put : (b₁ b₂ b₃ : List ℕ) (m v c : ℕ) → m < 65536 → Put b b₁ (row_words * i + 2) m → Put b₁ b₂ (row_words * i + 3) v → Put b₂ b₃ (row_words * i + 4) c
      → Became b b₃ (changed (table_in b) i (with_config (record { set = m; version = v; term = c })))
  config-put b₁ b₂ b₃ m v c l p q u =
      let f = frame h w in
      close_row h w _ (record { short = (its-room i h).short; small = l })
      (then f (then f (then f (open_row h w) (omega arith) p) (omega arith) q) (omega arith) u)

  its-length : {t : Table} {n : ℕ} → t ≡ table_in b → n ≡ length (server t i).log → n ≡ length (server (table_in b) i).log
  its-length is e = e ∙ ap (λ (u : Table). length (server u i).log) is

  pub push-put : (b₁ b₂ b₃ : List ℕ) (t : Table) (n v B : ℕ) → t ≡ table_in b → n ≡ length (server t i).log → length (server (table_in b) i).log < positions
      → Put b b₁ (row_words * i + 5) (n + 1) → Put b₁ b₂ (row_words * i + (5 + (n + 1))) v → Put b₂ b₃ (row_words * i + (69 + (n + 1))) B
      → Became b b₃ (changed (table_in b) i (with_entry (entry_of v B)))
  push-put b₁ b₂ b₃ t n v B is e l p q u =
      let s = server (table_in b) i in
      let k : n ≡ length s.log = its-length is e in
      let f = frame h w in
      close_row h w _
      (record { short = omega (arith, length-append s.log (entry_of v B ∷ [])); small = (its-room i h).small })
      (rw (push_row s n (entry_of v B) k (omega arith)) at
      (then f (then f (then f (open_row h w) (omega arith) p) (omega arith) q) (omega arith) u))

  pub pop-put : (b₁ b₂ b₃ : List ℕ) (t : Table) (n : ℕ) → t ≡ table_in b → n ≡ length (server t i).log → 1 ≤ length (server (table_in b) i).log
      → Put b b₁ (row_words * i + 5) (n - 1) → Put b₁ b₂ (row_words * i + (5 + n)) 0 → Put b₂ b₃ (row_words * i + (69 + n)) 0
      → Became b b₃ (changed (table_in b) i without_last)
  pop-put b₁ b₂ b₃ t n is k l p q u =
      let s = server (table_in b) i in
      let e : n ≡ length s.log = its-length is k in
      let f = frame h w in
      let r = its-room i h in
      close_row h w _
      (record { short = omega (arith, length-take (length s.log - 1) s.log, r.short); small = r.small })
      (rw (pop-row s n e (omega arith) (omega (arith, r.short))) at
      (then f (then f (then f (open_row h w) (omega arith) p) (omega (arith, r.short)) q) (omega (arith, r.short)) u))

-- ---- a mark put

set-padded : (k : ℕ) (l : List ℕ) (p v : ℕ) → p < length l → set (padded k l) p v ≡ padded k (set l p v)
unfolding padded
set-padded zero l p v h = refl
set-padded (suc k) [] p v h = absurd (omega arith)
set-padded (suc k) (x ∷ l) zero v h = refl
set-padded (suc k) (x ∷ l) (suc p) v h = ap (λ (y : List ℕ). x ∷ y) (set-padded k l p v (omega arith))

mark-row : (t : Table) (p v : ℕ) → length t.marks ≡ positions → 1 ≤ p → p ≤ positions → set (head t) (5 + p) v ≡ head (with_mark t p v)
unfolding replace
mark-row t zero v e k l = absurd (omega arith)
mark-row t (suc p) v e k l =
    rw (
      past-six p,
      set-append_left (padded positions t.marks) (replicate positions 0) p v (omega (arith, length-padded positions t.marks)),
      set-padded positions t.marks p v (omega arith),
    )

pub mark-put : (b b' : List ℕ) (p v : ℕ) → Held b → 1 ≤ p → p ≤ positions → Put b b' (5 + p) v → Became b b' (with_mark (table_in b) p v)
mark-put b b' p v h k l u = record { holds = holds; held = held holds; same = ap count (its-table holds) }
  where
    t : Table
    t = table_in b

    from : Open b (marks-in t) (head t)
    from = opened (marks-in t) b t.marks h.sized h.laid

    to : Open b' (marks-in t) (head (with_mark t p v))
    to = rw (mark-row t p v h.shaped.marked k l) at (then (marks-in t) from (omega arith) (rw (← zero-add (5 + p)) at u))

    holds : Holds b' (with_mark t p v)
    holds =
        record {
          sized = to.sized;
          laid = closed (marks-in t) (replace t.marks p v) to;
          shaped =
              record { few = h.shaped.few; roomy = h.shaped.roomy; marked = length-replace t.marks p v ∙ h.shaped.marked };
        }
