-- A log in words, by the width of its entries: how many there are, each of them, and back again. Assumes nothing.
use Prim.Native.Nat.{ℕ, zero, suc, ◌+◌, ◌-◌, ◌*◌, ◌/◌, ◌≤◌, ◌<◌}
use native.Mathlib.Numerals.{add-one}
use native.Mathlib.Omega.{arith}
use mathlib.Core.Path.{◌≡◌, refl, ap, sym, ◌∙◌}
use mathlib.Core.List.{List, [], ◌∷◌}
use lib.Dec.{eqb}
use lib.ListN.{length, get_or, drop, length-drop, length-map, get_or-map}
use lib.Seq.{get_or-drop}
use Rattle.words.specs.Lists.{nth, every}
use Rattle.words.specs.Words.{words}
use Rattle.words.proofs.Lists.{every-cons}
use Rattle.words.proofs.Tests.{Passes, equal}
use Rattle.words.proofs.WordLaws.{FourBytes, length-words, length-bytes, words-drop, words_small}
use Rattle.algorithm.specs.Table.{Entry, entry_of, no_entry, Log, entries, Server, entry_at, term_at, bake_at, positions, sound_entry}
use Rattle.table.specs.Layout.{terms, bakes}
use Rattle.table.proofs.SoundLaws.{words-terms, words-bakes}
use Rattle.image.specs.Contents.{entry_bytes, figure_bytes, baked_log, log_in, server_in, Sized}
use Rattle.image.specs.Image.{baked_words, log_words, server_body}

-- ---- words that are by turns a term and its bake

length-baked : (ws : List ℕ) → length (baked_log ws) ≡ length ws / 2
unfolding baked_log
length-baked [] = refl
length-baked (T ∷ []) = refl
length-baked (T ∷ B ∷ ws) = omega (arith, length-baked ws)

baked-at : (ws : List ℕ) (k : ℕ) → k < length (baked_log ws) → get_or (baked_log ws) k no_entry ≡ entry_of (get_or ws (2 * k) 0) (get_or ws (2 * k + 1) 0)
unfolding baked_log
baked-at [] k h = absurd (omega arith)
baked-at (T ∷ []) k h = absurd (omega arith)
baked-at (T ∷ B ∷ ws) zero h = refl
baked-at (T ∷ B ∷ ws) (suc k) h =
    let on : 2 * suc k ≡ suc (suc (2 * k)) = omega arith in
    let on2 : 2 * suc k + 1 ≡ suc (suc (2 * k + 1)) = omega arith in
    rw (on2, on) (baked-at ws k (omega arith))

-- ---- the log of a body

pub length_rest : (b : List ℕ) → length (drop 4 (words b)) ≡ length b / 4 - 4
length_rest b = length-drop 4 (words b) ∙ ap (λ (k : ℕ). k - 4) (length-words b)

module _ (b : List ℕ) where
  -- how many entries it has
  pub narrow-many : (w n : ℕ) → n ≡ length b / 4 - 4 → w ≡ 0 → n ≡ length (server_in w b).log
  narrow-many zero n e z = e ∙ sym (length-map (drop 4 (words b)) _ ∙ length_rest b)
  narrow-many (suc w) n e z = absurd (omega arith)

  pub wide-many : (w n : ℕ) → n ≡ length b / 4 - 4 → (w ≡ 0 → ⊥) → n / 2 ≡ length (server_in w b).log
  wide-many zero n e z = absurd (z refl)
  wide-many (suc w) n e z = ap (λ (k : ℕ). k / 2) (e ∙ sym (length_rest b)) ∙ sym (length-baked (drop 4 (words b)))

  pub log-short : (w : ℕ) → Sized w 1 b → length (server_in w b).log ≤ positions
  log-short zero h = omega (arith, narrow-many 0 _ refl refl, h.most)
  log-short (suc w) h = omega (arith, wide-many (suc w) _ refl (omega arith), h.most)

  -- the same of the log's length
  pub narrow_length : (w : ℕ) → w ≡ 0 → length (server_in w b).log ≡ length b / 4 - 4
  narrow_length w z = sym (narrow-many w _ refl z)

  pub wide_length : (w : ℕ) → (w ≡ 0 → ⊥) → length (server_in w b).log ≡ (length b / 4 - 4) / 2
  wide_length w z = sym (wide-many w _ refl z)

  -- one of them
  narrow_at : (w k : ℕ) → w ≡ 0 → entry_at (server_in w b).log (k + 1) ≡ entry_of (get_or (words b) (4 + k) 0) 0
  unfolding nth
  narrow_at zero k z = rw add-one (get_or-map (λ T. entry_of T 0) (drop 4 (words b)) k 0 ∙ ap (λ (T : ℕ). entry_of T 0) (get_or-drop 4 (words b) k 0))
  narrow_at (suc w) k z = absurd (omega arith)

  wide_at : (w k : ℕ) → (w ≡ 0 → ⊥) → k < length (server_in w b).log
      → entry_at (server_in w b).log (k + 1) ≡ entry_of (get_or (words b) (4 + 2 * k) 0) (get_or (words b) (4 + 2 * k + 1) 0)
  unfolding nth
  wide_at zero k z h = absurd (z refl)
  wide_at (suc w) k z h =
      let ws = words b in
      let next : 4 + (2 * k + 1) ≡ 4 + 2 * k + 1 = omega arith in
      rw (add-one k, ← next, ← get_or-drop 4 ws (2 * k) 0, ← get_or-drop 4 ws (2 * k + 1) 0) (baked-at (drop 4 ws) k h)

  module _ (w k : ℕ) (z : w ≡ 0) where
    pub narrow_term : term_at (server_in w b).log (k + 1) ≡ get_or (words b) (4 + k) 0
    narrow_term = ap (λ (x : Entry). x.term) (narrow_at w k z)

    pub narrow_bake : 0 ≡ bake_at (server_in w b).log (k + 1)
    narrow_bake = ap (λ (x : Entry). x.bake) (sym (narrow_at w k z))

  module _ (w k : ℕ) (z : w ≡ 0 → ⊥) (h : k < length (server_in w b).log) where
    pub wide_term : term_at (server_in w b).log (k + 1) ≡ get_or (words b) (4 + 2 * k) 0
    wide_term = ap (λ (x : Entry). x.term) (wide_at w k z h)

    pub wide_bake : bake_at (server_in w b).log (k + 1) ≡ get_or (words b) (4 + 2 * k + 1) 0
    wide_bake = ap (λ (x : Entry). x.bake) (wide_at w k z h)

-- a bake that is read has four bytes
bakes-none : (ws : List ℕ) → FourBytes (bakes (entries ws))
bakes-none [] = tt
bakes-none (T ∷ ws) = (omega arith, bakes-none ws)

bakes-small : (ws : List ℕ) → FourBytes ws → FourBytes (bakes (baked_log ws))
unfolding baked_log
bakes-small [] h = tt
bakes-small (T ∷ []) h = tt
bakes-small (T ∷ B ∷ ws) h = (h.1.0, bakes-small ws h.1.1)

pub bakes-read : (w : ℕ) (b : List ℕ) → ((i : ℕ) → get_or b i 0 < 256) → FourBytes (bakes (server_in w b).log)
bakes-read zero b h = bakes-none (drop 4 (words b))
bakes-read (suc w) b h = bakes-small (drop 4 (words b)) (words-drop 4 (words b) (words_small b h))

pub ruleset log_read = (narrow_length, wide_length, narrow_term, wide_term, wide_bake)

-- ---- a log and its words

length-words-of : (w : ℕ) (l : Log) → 4 * length (log_words w l) ≡ entry_bytes w * length l
unfolding baked_words
length-words-of zero l = ap (λ (n : ℕ). 4 * n) (length-map l _)
length-words-of (suc w) [] = refl
length-words-of (suc w) (e ∷ l) = omega (arith, length-words-of (suc w) l)

pub length-body : (w : ℕ) (s : Server) → length (server_body w s) ≡ figure_bytes + entry_bytes w * length s.log
length-body w s =
    omega (arith, length-bytes (s.term ∷ s.config.version ∷ s.config.term ∷ log_words w s.log), length-words-of w s.log)

-- each of them has four bytes, of a log that breaks no rule
pub log-small : (w : ℕ) (l : Log) → Passes (every sound_entry l) → FourBytes (log_words w l)
unfolding baked_words
log-small zero l h = words-terms l h
log-small (suc w) l h = go l (words-terms l h) (words-bakes l h)
  where
    go : (l : Log) → FourBytes (terms l) → FourBytes (bakes l) → FourBytes (baked_words l)
    go [] t b = tt
    go (e ∷ l) t b = (t.0, (b.0, go l t.1 b.1))

-- a log is read back, where bakes are written or all are 0
pub log_back : (w : ℕ) (l : Log) → (w ≡ 0 → Passes (every (λ B. eqb B 0) (bakes l))) → log_in w (log_words w l) ≡ l
unfolding baked_log baked_words
log_back zero [] h = refl
log_back zero (e ∷ l) h =
    let (here, rest) = every-cons (λ B. eqb B 0) e.bake (bakes l) (h refl) in
    λ i. entry_of e.term (sym (equal {a = e.bake} {b = 0} here) i) ∷ log_back zero l (λ _. rest) i
log_back (suc w) [] h = refl
log_back (suc w) (e ∷ l) h = ap (λ (m : Log). e ∷ m) (log_back (suc w) l (λ z. absurd (omega arith)))

-- words are written again as they were read, where they are those of whole entries
pub words_back : (w : ℕ) (ws : List ℕ) (k : ℕ) → 4 * length ws ≡ entry_bytes w * k → log_words w (log_in w ws) ≡ ws
unfolding baked_log baked_words
words_back zero [] k e = refl
words_back zero (T ∷ ws) k e = ap (λ (l : List ℕ). T ∷ l) (words_back zero ws (length ws) refl)
words_back (suc w) [] k e = refl
words_back (suc w) (T ∷ []) k e = absurd (omega arith)
words_back (suc w) (T ∷ B ∷ ws) zero e = absurd (omega arith)
words_back (suc w) (T ∷ B ∷ ws) (suc k) e = ap (λ (l : List ℕ). T ∷ B ∷ l) (words_back (suc w) ws k (omega arith))
