-- Laws of words: one read, one put, and back to the bytes. Assumes nothing.
use Prim.Native.Nat.{ℕ, zero, suc, ◌+◌, ◌-◌, ◌*◌, ◌/◌, ◌%◌, ◌^◌, ◌≤◌, ◌<◌}
use native.Mathlib.Nat.{div-div-eq-div-mul}
use native.Mathlib.Omega.{arith}
use mathlib.Core.Path.{◌≡◌, refl, ap, ap₂, sym, ◌∙◌}
use mathlib.Core.List.{List, [], ◌∷◌, ◌++◌, append_assoc}
use lib.Dec.{leb}
use lib.ListN.{length, get_or, set, take, drop, replicate, length-set}
use lib.Seq.{sets-eq}
use borrow.Rule.Slice.PartMut.{put_mid, Post-is}
use Rattle.std.proofs.lemmas.Nat.{from_le_bytes-to_le_bytes_4}
use Rattle.std.specs.Int.{w32, w64, to_le_bytes, from_le_bytes}
use Rattle.words.proofs.Tests.{Passes, both, at_most}
use Rattle.words.specs.Lists.{every, between}
use Rattle.words.proofs.Lists.{every-cons}
use Rattle.words.specs.Words.{word_of, words, bytes, put_word, Put, value_of, eight, put_eight}

-- four bytes further on
past : (k i : ℕ) → 4 * suc k + i ≡ suc (suc (suc (suc (4 * k + i))))
past k i = omega arith

past-0 : (k : ℕ) → 4 * suc k ≡ suc (suc (suc (suc (4 * k))))
past-0 k = omega arith

-- word k is made of the bytes at 4k and after
pub word_at : (b : List ℕ) (k : ℕ) → 4 * k + 4 ≤ length b
    → get_or (words b) k 0 ≡ word_of (get_or b (4 * k) 0) (get_or b (4 * k + 1) 0) (get_or b (4 * k + 2) 0) (get_or b (4 * k + 3) 0)
unfolding words
word_at [] k h = absurd (omega arith)
word_at (x ∷ []) k h = absurd (omega arith)
word_at (x ∷ y ∷ []) k h = absurd (omega arith)
word_at (x ∷ y ∷ z ∷ []) k h = absurd (omega arith)
word_at (x ∷ y ∷ z ∷ w ∷ r) zero h = refl
word_at (x ∷ y ∷ z ∷ w ∷ r) (suc k) h = rw (past k 1, past k 2, past k 3, past-0 k) (word_at r k (omega arith))

-- so is what the library reads of them
pub word_read : (b : List ℕ) (k r : ℕ) → 4 * k + 4 ≤ length b
    → r ≡ from_le_bytes w32 (get_or b (4 * k) 0 ∷ get_or b (4 * k + 1) 0 ∷ get_or b (4 * k + 2) 0 ∷ get_or b (4 * k + 3) 0 ∷ []) → r ≡ get_or (words b) k 0
word_read b k r h e = omega (arith, word_at b k h)

-- b with four bytes put at 4k and after
abbrev stores : List ℕ → ℕ → ℕ → ℕ → ℕ → ℕ → List ℕ
stores b k p q u v = set (set (set (set b (4 * k) p) (4 * k + 1) q) (4 * k + 2) u) (4 * k + 3) v

word-stores : (b : List ℕ) (k p q u v : ℕ) → 4 * k + 4 ≤ length b → words (stores b k p q u v) ≡ set (words b) k (word_of p q u v)
unfolding words
word-stores [] k p q u v h = absurd (omega arith)
word-stores (x ∷ []) k p q u v h = absurd (omega arith)
word-stores (x ∷ y ∷ []) k p q u v h = absurd (omega arith)
word-stores (x ∷ y ∷ z ∷ []) k p q u v h = absurd (omega arith)
word-stores (x ∷ y ∷ z ∷ w ∷ r) zero p q u v h = refl
word-stores (x ∷ y ∷ z ∷ w ∷ r) (suc k) p q u v h =
    rw (past k 1, past k 2, past k 3, past-0 k) (ap (λ (l : List ℕ). word_of x y z w ∷ l) (word-stores r k p q u v (omega arith)))

-- the four bytes of a number make it again
word-of : (v : ℕ) → v < 4294967296 → word_of (v % 256) (v / 256 % 256) (v / 65536 % 256) (v / 16777216 % 256) ≡ v
word-of v h = omega (arith, from_le_bytes-to_le_bytes_4 v h)

-- four bytes put one after another stand between what was before them and what was behind
stores-between : (b : List ℕ) (k p q u v : ℕ) → 4 * k + 4 ≤ length b
    → take (4 * k) b ++ (p ∷ q ∷ u ∷ v ∷ drop (4 * k + 4) b) ≡ stores b k p q u v
stores-between b k p q u v h =
    let second : 4 * k + 1 ≡ suc (4 * k) = omega arith in
    let third : 4 * k + 2 ≡ suc (suc (4 * k)) = omega arith in
    let fourth : 4 * k + 3 ≡ suc (suc (suc (4 * k))) = omega arith in
    rw (second, third, fourth) (sym (sets-eq (p ∷ q ∷ u ∷ v ∷ []) b (4 * k) h ∙ append_assoc (take (4 * k) b) (p ∷ q ∷ u ∷ v ∷ []) (drop (4 * k + 4) b)))

-- the four bytes of v, as the library has them, copied over word k
pub word-put : (b c : List ℕ) (k v : ℕ) → 4 * k + 4 ≤ length b → v < 2 ^ 32 → c ≡ to_le_bytes w32 v
    → Put b (put_mid (4 * k) (4 * k + 4 - 4 * k) b c) k v
word-put b c k v h l e =
    let put : put_mid (4 * k) (4 * k + 4 - 4 * k) b c ≡ put_word b k v = rw (e, Post-is (4 * k) (4 * k + 4) b (omega arith)) (stores-between b k _ _ _ _ h) in
    record {
      bytes = put;
      sized = ap length put ∙ simp length-set;
      word = ap words put ∙ word-stores b k _ _ _ _ h ∙ ap (λ (x : ℕ). set (words b) k x) (word-of v l);
    }

-- two slices that satisfy it are equal
pub put-unique : {b b' b'' : List ℕ} {k v : ℕ} → Put b b' k v → Put b b'' k v → b' ≡ b''
put-unique p q = p.bytes ∙ sym q.bytes

-- ---- the bytes of words, and the words of bytes

pub length-words : (b : List ℕ) → length (words b) ≡ length b / 4
unfolding words
length-words [] = refl
length-words (x ∷ []) = refl
length-words (x ∷ y ∷ []) = refl
length-words (x ∷ y ∷ z ∷ []) = refl
length-words (x ∷ y ∷ z ∷ w ∷ r) = omega (arith, length-words r)

pub length-bytes : (c : List ℕ) → length (bytes c) ≡ 4 * length c
unfolding bytes
length-bytes [] = refl
length-bytes (w ∷ c) = omega (arith, length-bytes c)

-- the bytes of a word are those that made it
word-bytes : (a b c d : ℕ) → a < 256 → b < 256 → c < 256 → d < 256 → bytes (word_of a b c d ∷ []) ≡ a ∷ b ∷ c ∷ d ∷ []
unfolding bytes
word-bytes a b c d ha hb hc hd =
    let first : word_of a b c d % 256 ≡ a = omega arith in
    let second : word_of a b c d / 256 % 256 ≡ b = omega arith in
    let third : word_of a b c d / 65536 % 256 ≡ c = omega arith in
    let fourth : word_of a b c d / 16777216 % 256 ≡ d = omega arith in
    rw (first, second, third, fourth)

pub bytes-words : (b : List ℕ) (k : ℕ) → length b ≡ 4 * k → ((i : ℕ) → get_or b i 0 < 256) → bytes (words b) ≡ b
unfolding words bytes
bytes-words [] k e h = refl
bytes-words (x ∷ []) k e h = absurd (omega arith)
bytes-words (x ∷ y ∷ []) k e h = absurd (omega arith)
bytes-words (x ∷ y ∷ z ∷ []) k e h = absurd (omega arith)
bytes-words (x ∷ y ∷ z ∷ w ∷ r) zero e h = absurd (omega arith)
bytes-words (x ∷ y ∷ z ∷ w ∷ r) (suc k) e h =
    ap₂ ◌++◌ (word-bytes x y z w (h 0) (h 1) (h 2) (h 3)) (bytes-words r k (omega arith) (λ i. h (suc (suc (suc (suc i))))))

-- each is a number of four bytes
abbrev pub FourBytes : List ℕ → Type 0
FourBytes [] = Unit {0}
FourBytes (x ∷ l) = (x < 4294967296) × FourBytes l

pub words-bytes : (c : List ℕ) → FourBytes c → words (bytes c) ≡ c
unfolding bytes words
words-bytes [] h = refl
words-bytes (w ∷ c) h = rw (word-of w h.0, words-bytes c h.1)

pub words_append : (l m : List ℕ) → FourBytes l → FourBytes m → FourBytes (l ++ m)
words_append [] m h k = k
words_append (x ∷ l) m h k = (h.0, words_append l m h.1 k)

pub words-zeros : (k : ℕ) → FourBytes (replicate k 0)
words-zeros zero = tt
words-zeros (suc k) = (omega arith, words-zeros k)

-- so is each of a part of them
pub words-drop : (k : ℕ) (l : List ℕ) → FourBytes l → FourBytes (drop k l)
words-drop zero l h = h
words-drop (suc k) [] h = tt
words-drop (suc k) (x ∷ l) h = words-drop k l h.1

pub words_take : (k : ℕ) (l : List ℕ) → FourBytes l → FourBytes (take k l)
words_take zero l h = tt
words_take (suc k) [] h = tt
words_take (suc k) (x ∷ l) h = (h.0, words_take k l h.1)

-- and each that four bytes make
pub words_small : (b : List ℕ) → ((i : ℕ) → get_or b i 0 < 256) → FourBytes (words b)
unfolding words
words_small [] h = tt
words_small (x ∷ []) h = tt
words_small (x ∷ y ∷ []) h = tt
words_small (x ∷ y ∷ z ∷ []) h = tt
words_small (x ∷ y ∷ z ∷ w ∷ r) h =
    let hx : x < 256 = h 0 in
    let hy : y < 256 = h 1 in
    let hz : z < 256 = h 2 in
    let hw : w < 256 = h 3 in
    (omega arith, words_small r (λ i. h (suc (suc (suc (suc i))))))

pub words-between : (low high : ℕ) → high < 4294967296 → (l : List ℕ) → Passes (every (between low high) l) → FourBytes l
words-between low high small [] h = tt
words-between low high small (x ∷ l) h =
    let (here, rest) = every-cons (between low high) x l h in
    (omega (arith, at_most {a = x} {b = high} (both {a = leb low x} here).1), words-between low high small l rest)

-- ---- eight bytes

-- the eight bytes of v, as the library has them, copied over the k-th eight
pub eight-put : (b c : List ℕ) (k v : ℕ) → 8 * k + 8 ≤ length b → c ≡ to_le_bytes w64 v
    → put_mid (8 * k) (8 * k + 8 - 8 * k) b c ≡ put_eight b k v
unfolding bytes
eight-put b c k v h e =
    let first : v % 4294967296 % 256 ≡ v % 256 = omega arith in
    let second : v % 4294967296 / 256 % 256 ≡ v / 256 % 256 = omega arith in
    let third : v % 4294967296 / 65536 % 256 ≡ v / 65536 % 256 = omega arith in
    let fourth : v % 4294967296 / 16777216 % 256 ≡ v / 16777216 % 256 = omega arith in
    rw (e, Post-is (8 * k) (8 * k + 8) b (omega arith), first, second, third, fourth)
    (simp div-div-eq-div-mul)

-- eight bytes are those of their number
pub eight-value : (a b c d e f g h : ℕ) → a < 256 → b < 256 → c < 256 → d < 256 → e < 256 → f < 256 → g < 256 → h < 256
    → eight (value_of (a ∷ b ∷ c ∷ d ∷ e ∷ f ∷ g ∷ h ∷ [])) ≡ a ∷ b ∷ c ∷ d ∷ e ∷ f ∷ g ∷ h ∷ []
unfolding bytes value_of
eight-value a b c d e f g h ha hb hc hd he hf hg hh =
    let value : ℕ = value_of (a ∷ b ∷ c ∷ d ∷ e ∷ f ∷ g ∷ h ∷ []) in
    let low : value % 4294967296 ≡ word_of a b c d = omega arith in
    let high : value / 4294967296 ≡ word_of e f g h = omega arith in
    rw (low, high) (ap₂ ◌++◌ (word-bytes a b c d ha hb hc hd) (word-bytes e f g h he hf hg hh))
