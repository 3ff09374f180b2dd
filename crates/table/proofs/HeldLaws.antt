-- Laws of a slice that holds a table: what a word reads, and what it holds once words of one row are put. Assumes nothing.
use Prim.Native.Nat.{ℕ, zero, suc, ◌+◌, ◌*◌, ◌<◌}
use native.Mathlib.Omega.{arith}
use mathlib.Core.Path.{◌≡◌, ap, sym, subst, ◌∙◌}
use mathlib.Core.List.{List, [], ◌∷◌, ◌++◌}
use lib.ListN.{length, get_or, set, length-set}
use Rattle.words.proofs.Tests.{Passes}
use Rattle.words.specs.Lists.{nth, replace}
use Rattle.algorithm.specs.Table.{Server, Table, count, absent, server, with_server, changed, with_servers}
use Rattle.algorithm.specs.Run.{known}
use Rattle.words.proofs.Lists.{length-replace, replace-nth, nth-replaced, replace-replace}
use Rattle.algorithm.proofs.Seen.{known-range}
use Rattle.words.specs.Words.{words, Put}
use Rattle.table.specs.Layout.{table_bytes, row, layout, table_of, table_in, row_words}
use Rattle.table.specs.Slice.{Roomy, AllRoomy, Holds, Held, Became, Within}
use Rattle.table.proofs.ListLaws.{get-mid, set-mid}
use Rattle.table.proofs.LayoutLaws.{Framed, server-in, table-back}

-- ---- the table in a slice

-- the slice's table is the one that it holds
pub its-table : {b : List ℕ} {t : Table} → Holds b t → table_in b ≡ t
unfolding table_in
its-table {b} {t} h = ap table_of h.laid ∙ table-back t h.shaped

pub held : {b : List ℕ} {t : Table} → Holds b t → Held b
held {b} {t} h = subst (λ (x : Table). Holds b x) (sym (its-table h)) h

-- ---- servers keep their room

pub roomy-at : (ss : List Server) (i : ℕ) → AllRoomy ss → Roomy (nth ss i absent)
unfolding nth
roomy-at ss zero h = record { short = omega arith; small = omega arith }
roomy-at [] (suc i) h = record { short = omega arith; small = omega arith }
roomy-at (s ∷ ss) (suc zero) h = h.0
roomy-at (s ∷ ss) (suc (suc i)) h = roomy-at ss (suc i) h.1

roomy-set : (ss : List Server) (j : ℕ) (s : Server) → AllRoomy ss → Roomy s → AllRoomy (set ss j s)
roomy-set [] j s h l = tt
roomy-set (x ∷ ss) zero s h l = (l, h.1)
roomy-set (x ∷ ss) (suc j) s h l = (h.0, roomy-set ss j s h.1 l)

roomy-replace : (ss : List Server) (i : ℕ) (s : Server) → AllRoomy ss → Roomy s → AllRoomy (replace ss i s)
unfolding replace
roomy-replace ss zero s h l = h
roomy-replace ss (suc j) s h l = roomy-set ss j s h l

pub its-room : {b : List ℕ} (i : ℕ) → Held b → Roomy (server (table_in b) i)
its-room {b} i h = roomy-at (table_in b).servers i h.shaped.roomy

-- ---- a row that is being written

-- the slice has, between what is around a row, the words r
pub record Open {A : Type 0} (b : List ℕ) {at : ℕ} {part whole : A → List ℕ} (f : Framed at part whole) (r : List ℕ) : Type 0 where
  pub sized : length b ≡ table_bytes
  pub full : length r ≡ row_words
  pub laid : words b ≡ f.before ++ (r ++ f.after)

module _ {A : Type 0} {at : ℕ} {part whole : A → List ℕ} (f : Framed at part whole) where
  pub opened : (b : List ℕ) (a : A) → length b ≡ table_bytes → words b ≡ whole a → Open b f (part a)
  opened b a z e = record { sized = z; full = f.full a; laid = e ∙ f.around a }

  -- one word of the row read, and one put
  pub read : {b r : List ℕ} (k : ℕ) → Open b f r → k < row_words → get_or (words b) (at + k) 0 ≡ get_or r k 0
  read {b} {r} k o l =
      ap (λ (c : List ℕ). get_or c (at + k) 0) o.laid ∙ get-mid f.before r f.after at k f.place (omega (arith, o.full))

  pub then : {b b' r : List ℕ} {k v : ℕ} → Open b f r → k < row_words → Put b b' (at + k) v → Open b' f (set r k v)
  then {b} {b'} {r} {k} {v} o l p =
      record {
        sized = p.sized ∙ o.sized;
        full = length-set r k v ∙ o.full;
        laid =
            p.word
            ∙ ap (λ (c : List ℕ). set c (at + k) v) o.laid
            ∙ set-mid f.before r f.after at k v f.place (omega (arith, o.full));
      }

  pub closed : {b : List ℕ} (a : A) → Open b f (part a) → words b ≡ whole a
  closed a o = o.laid ∙ sym (f.around a)

-- ---- the row of a server

-- a server put where it is changes nothing
pub unchanged : (t : Table) (i : ℕ) → with_server t i (server t i) ≡ t
unchanged t i = λ d. with_servers (replace-nth t.servers i absent d) t

module _ {b : List ℕ} {i : ℕ} (h : Held b) (w : Within (table_in b) i) where
  pub frame : Framed (row_words * i) row (λ s. layout (with_server (table_in b) i s))
  frame = server-in (table_in b) i w.some w.known h.shaped.few

  pub open_row : Open b frame (row (server (table_in b) i))
  open_row = opened frame b (server (table_in b) i) h.sized (h.laid ∙ ap layout (sym (unchanged (table_in b) i)))

  pub close_row : {b' : List ℕ} (s : Server) → Roomy s → Open b' frame (row s) → Became b b' (with_server (table_in b) i s)
  close_row {b'} s l o = record { holds = holds; held = held holds; same = ap count (its-table holds) ∙ kept }
    where
      kept : count (with_server (table_in b) i s) ≡ count (table_in b)
      kept = length-replace (table_in b).servers i s

      holds : Holds b' (with_server (table_in b) i s)
      holds =
          record {
            sized = o.sized;
            laid = closed frame s o;
            shaped =
                record {
                  few = omega (arith, kept, h.shaped.few);
                  roomy = roomy-replace (table_in b).servers i s h.shaped.roomy l;
                  marked = h.shaped.marked;
                };
          }

  pub field-read : (f r : ℕ) → f < row_words → r ≡ get_or (words b) (row_words * i + f) 0 → r ≡ get_or (row (server (table_in b) i)) f 0
  field-read f r l e = e ∙ read frame f open_row l

-- one change after another at the same server
pub again : {b b₁ b₂ : List ℕ} {i : ℕ} (f g : Server → Server) → Within (table_in b) i → Became b b₁ (changed (table_in b) i f)
    → Became b₁ b₂ (changed (table_in b₁) i g) → Became b b₂ (changed (table_in b) i (λ s. g (f s)))
again {b} {b₁} {b₂} {i} f g w p q =
    let t = table_in b in
    let s = f (server t i) in
    let after : changed (table_in b₁) i g ≡ changed t i (λ s. g (f s)) =
    ap (λ (x : Table). changed x i g) (its-table p.holds)
    ∙ (λ d. with_server (with_server t i s) i (g (nth-replaced t.servers i s absent w.some w.known d)))
    ∙ (λ d. with_servers (replace-replace t.servers i s (g s) d) t) in
    record { holds = subst (λ (x : Table). Holds b₂ x) after q.holds; held = q.held; same = q.same ∙ p.same }

-- ---- a server that is known

pub known-within : (t : Table) (i : ℕ) → Passes (known (count t) i) → Within t i
known-within t i h = let (some, known) = known-range h in record { some = some; known = known }
