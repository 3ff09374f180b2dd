-- Numbers and bodies that are written one behind another. Assumes nothing.
use Prim.Native.Nat.{ℕ, zero, suc, ◌+◌, ◌*◌, ◌/◌, ◌%◌, ◌≤◌, ◌<◌}
use native.Mathlib.Nat.{mul-suc}
use native.Mathlib.Numerals.{add-one}
use native.Mathlib.Omega.{arith}
use mathlib.Core.Path.{◌≡◌, refl, ap, ◌∙◌}
use mathlib.Core.List.{List, [], ◌∷◌, ◌++◌}
use lib.ListN.{length, length-map, get_or, take, get_or-map}
use lib.Seq.{take_all}
use Rattle.std.specs.Int.{w32, to_le_bytes}
use Rattle.algorithm.specs.Table.{Entry, no_entry, Log, Server, Table, absent, server, term_at, bake_at, trimmed}
use Rattle.words.specs.Lists.{nth}
use Rattle.words.specs.Words.{half, bytes}
use Rattle.words.proofs.WordLaws.{length-bytes}
use Rattle.table.specs.Slice.{figured, seen}
use Rattle.table.specs.declared.figures.Figures.{Figures}
use Rattle.table.specs.declared.rows.Row.{Row}
use Rattle.table.specs.Layout.{terms, table_in}
use Rattle.buffer.specs.Buffer.{Wrote, Room, Grew}
use Rattle.buffer.specs.declared.Output.{Output}
use Rattle.buffer.proofs.WroteLaws.{sized, grown, grown_none, lent}
use Rattle.image.specs.Contents.{figure_bytes, entry_bytes}
use Rattle.image.specs.Image.{wide, baked_words, log_words, marks_body, server_body, body_of}
use Rattle.image.proofs.LogLaws.{length-body}

-- ---- a number

-- its four bytes as the library has them
pub number-put : (o p : Output) (l : List ℕ) (v : ℕ) → l ≡ to_le_bytes w32 v → Grew (length l) o p l → Grew 4 o p (bytes (v ∷ []))
unfolding bytes
number-put o p l v e g = rw e at g

-- ---- a log

-- all entries before position k are written, each its term and its bake
pub record Paired (l : Log) (o p : Output) (k : ℕ) : Type 0 where
  pub written : ℕ
  pub next : k ≡ written + 1
  pub few : written ≤ length l
  pub grew : Grew (8 * written) o p (bytes (baked_words (take written l)))

entry_more : (l : Log) (p : ℕ) → p < length l
    → bytes (baked_words (take (suc p) l)) ≡ bytes (baked_words (take p l)) ++ bytes ((get_or l p no_entry).term ∷ (get_or l p no_entry).bake ∷ [])
unfolding bytes baked_words
entry_more [] p h = absurd (omega arith)
entry_more (e ∷ l) zero h = refl
entry_more (e ∷ l) (suc p) h = rw (entry_more l p (omega arith))

module _ (l : Log) (o : Output) where
  pub paired_none : o.at ≤ length o.buffer.now → Paired l o o 1
  unfolding bytes baked_words
  paired_none h = record { written = 0; next = refl; few = omega arith; grew = grown_none 0 o h }

  paired-all : (p : Output) (n k : ℕ) → n ≡ length l → Paired l o p k → n < k → Grew (8 * length l) o p (bytes (baked_words l))
  paired-all p n k many g m =
      let whole : g.written ≡ length l = omega (arith, g.next, g.few) in
      rw (whole, take_all (length l) l (omega arith)) at g.grew

  module _ (p : Output) (n k : ℕ) (many : n ≡ length l) (g : Paired l o p k) where
    pub paired-more : (q r : Output) (T B : ℕ) → k ≤ n → T ≡ term_at l k → B ≡ bake_at l k → Grew 4 p q (bytes (T ∷ [])) → Grew 4 q r (bytes (B ∷ []))
        → Paired l o r (k + 1)
    unfolding nth bytes
    paired-more q r T B h et eb w x =
        let i : ℕ = g.written in
        let term : T ≡ (get_or l i no_entry).term = et ∙ ap (term_at l) (g.next ∙ add-one i) in
        let bake : B ≡ (get_or l i no_entry).bake = eb ∙ ap (bake_at l) (g.next ∙ add-one i) in
        record {
          written = suc i;
          next = omega (arith, g.next);
          few = omega (arith, g.next);
          grew = rw (mul-suc, entry_more l i (omega (arith, g.next)), ← term, ← bake) (grown g.grew (grown w x));
        }

    pub paired-last : (q r : Output) (T B : ℕ) → k ≤ n → n ≤ k → T ≡ term_at l k → B ≡ bake_at l k → Grew 4 p q (bytes (T ∷ [])) → Grew 4 q r (bytes (B ∷ []))
        → Grew (8 * length l) o r (bytes (baked_words l))
    paired-last q r T B h m et eb w x = paired-all r n (k + 1) many (paired-more q r T B h et eb w x) (omega arith)

-- by the width of its entries, which is 0 where they are terms alone
module _ (w : ℕ) (s : Server) (l : List ℕ) (is : l ≡ bytes (terms s.log)) (o : Output) (z : w ≡ 0) where
  terms-size : length l ≡ entry_bytes w * length s.log
  terms-size = rw (is, z, length-bytes (terms s.log), length-map s.log (λ (e : Entry). e.term))

  pub terms-room : Room (entry_bytes w * length s.log) o → Room (length l) o
  terms-room r = omega (arith, r, terms-size)

  pub narrow-put : (p : Output) → Grew (length l) o p l → Grew (entry_bytes w * length s.log) o p (bytes (log_words w s.log))
  narrow-put p g = rw (← terms-size, z, ← is) g

-- ---- a server

pub figures-put : (o p₁ p₂ p₃ p₄ p₅ : Output) (f : Figures) → f.role < 256 → Grew 2 o p₁ (half f.role) → Grew 2 p₁ p₂ (half f.set)
    → Grew 4 p₂ p₃ (bytes (f.term.0 ∷ [])) → Grew 4 p₃ p₄ (bytes (f.version.0 ∷ [])) → Grew 4 p₄ p₅ (bytes (f.config.0 ∷ []))
    → Grew figure_bytes o p₅ (server_body 0 (figured f []))
unfolding bytes
figures-put o p₁ p₂ p₃ p₄ p₅ f h p q r s w =
    let low : f.role % 256 ≡ f.role = omega arith in
    let high : f.role / 256 % 256 ≡ 0 = omega arith in
    grown (grown (grown (grown (rw (low, high) at p) q) r) s) w

module _ (w : ℕ) (s : Server) (o : Output) (r : Room (length (server_body w s)) o) where
  pub figures-room : Room figure_bytes o
  figures-room = omega (arith, r, length-body w s)

  pub log-fits : (p : Output) (l : List ℕ) → Grew figure_bytes o p l → Room (entry_bytes w * length s.log) p
  log-fits p l g = omega (arith, r, length-body w s, g.wrote.short, sized g.wrote.wrote)

pub server-put : (s : Server) (w : ℕ) (a : Row) (o p q : Output) → a ≡ seen s → Grew figure_bytes o p (server_body 0 (figured a.figures []))
    → Grew (entry_bytes w * length s.log) p q (bytes (log_words w s.log)) → Grew (length (server_body w s)) o q (server_body w s)
unfolding bytes
server-put s w a o p q e x y = rw (length-body w s) (grown (rw e at x) y)

-- ---- a body of a table

marks-body : (t : Table) (e : ℕ) → e < 1 → body_of t e ≡ marks_body t.marks
marks-body t zero l = refl
marks-body t (suc e) l = absurd (omega arith)

server-body : (t : Table) (e W : ℕ) → 1 ≤ e → W ≡ wide t → body_of t e ≡ server_body W (server t e)
unfolding nth
server-body t zero W l z = absurd (omega arith)
server-body t (suc s) W l z = rw z (get_or-map (server_body (wide t)) t.servers s absent)

pub marks-size : (t : Table) (e n : ℕ) → e < 1 → n ≡ length (trimmed t.marks) → 4 * n ≡ length (body_of t e)
marks-size t e n l m = rw (marks-body t e l, length-bytes (trimmed t.marks)) (omega arith)

pub server-size : (t : Table) (e W i n : ℕ) → 1 ≤ e → W ≡ wide t → i ≡ entry_bytes W → n ≡ length (server t e).log
    → figure_bytes + i * n ≡ length (body_of t e)
server-size t e W i n l z k m = rw (server-body t e W l z, length-body W (server t e), k, m)

-- t is the table in the slice b, and u as well
module _ (b : List ℕ) (t u : Table) (of : u ≡ table_in b) (is : table_in b ≡ t) (e : ℕ) where
  its-marks : e < 1 → body_of t e ≡ marks_body u.marks
  its-marks l = rw (of, is) (marks-body t e l)

  its-server : (W : ℕ) → 1 ≤ e → W ≡ wide (table_in b) → body_of t e ≡ server_body W (server u e)
  its-server W l z = rw (of, is) (server-body t e W l (z ∙ ap wide is))

  pub its-marks-size : (n : ℕ) → e < 1 → n ≡ length (trimmed u.marks) → 4 * n ≡ length (body_of t e)
  its-marks-size n l m = marks-size t e n l (rw (of, is) at m)

  pub its-server-size : (W i n : ℕ) → 1 ≤ e → W ≡ wide (table_in b) → i ≡ entry_bytes W → n ≡ length (server u e).log
      → figure_bytes + i * n ≡ length (body_of t e)
  its-server-size W i n l z k m = server-size t e W i n l (z ∙ ap wide is) k (rw (of, is) at m)

  module _ (o : Output) where
    pub server-room : (W : ℕ) → 1 ≤ e → W ≡ wide (table_in b) → o.at ≡ 0 → length (body_of t e) ≤ length o.buffer.now
        → Room (length (server_body W (server u e))) o
    server-room W l z first h = omega (arith, h, ap length (its-server W l z))

    pub marks-room : e < 1 → o.at ≡ 0 → length (body_of t e) ≤ length o.buffer.now → Room (length (marks_body u.marks)) o
    marks-room l first h = omega (arith, h, ap length (its-marks l))

    -- who lent the part finds the body in it
    module _ (part part' : List ℕ) (p : Output) where
      pub server-wrote : (W : ℕ) → 1 ≤ e → W ≡ wide (table_in b)
          → Grew (length (server_body W (server u e))) o p (server_body W (server u e)) → o.at ≡ 0 → part ≡ o.buffer.now
          → (o.buffer.ghost_name ≡ p.buffer.ghost_name → part' ≡ p.buffer.now) → Wrote part part' 0 (body_of t e) p.at
      server-wrote W l z g first is last = rw (its-server W l z) (lent g first is last)

      pub marks-wrote : e < 1 → Grew (length (marks_body u.marks)) o p (marks_body u.marks) → o.at ≡ 0 → part ≡ o.buffer.now
          → (o.buffer.ghost_name ≡ p.buffer.ghost_name → part' ≡ p.buffer.now) → Wrote part part' 0 (body_of t e) p.at
      marks-wrote l g first is last = rw (its-marks l) (lent g first is last)
