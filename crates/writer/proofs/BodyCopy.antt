-- A body that is read is written again as it was. Assumes nothing.
use Prim.Native.Nat.{ℕ, zero, suc, ◌+◌, ◌-◌, ◌*◌, ◌/◌, ◌%◌, ◌≤◌, ◌<◌}
use native.Mathlib.Omega.{arith}
use mathlib.Core.Path.{◌≡◌, refl, ap, sym, ◌∙◌}
use mathlib.Core.Bool.{◌||◌}
use mathlib.Core.List.{List, [], ◌∷◌, ◌++◌}
use mathlib.Core.Logic.{⊎_elim}
use lib.Dec.{leb, eqb}
use lib.ListN.{length, get_or, take, drop, replicate, length-drop}
use lib.Seq.{get_or-drop}
use Rattle.words.proofs.Tests.{Passes, both, either, equal, at_most}
use Rattle.words.specs.Lists.{nth, every, between}
use Rattle.algorithm.specs.Table.{ceiling, positions, kept, trimmed}
use Rattle.words.specs.Words.{half, words, bytes}
use Rattle.words.proofs.WordLaws.{length-words, bytes-words}
use Rattle.table.specs.Layout.{padded}
use Rattle.table.proofs.LayoutLaws.{padded-is}
use Rattle.image.specs.Contents.{figure_bytes, entry_bytes, marks_in, server_in, sound_marks_body}
use Rattle.image.specs.Image.{marks_body, server_body}
use Rattle.image.proofs.LogLaws.{words_back}

-- ---- lists of bytes

abbrev pub Bytes : List ℕ → Type 0
Bytes l = (i : ℕ) → get_or l i 0 < 256

take-bytes : (k : ℕ) (l : List ℕ) → Bytes l → Bytes (take k l)
take-bytes zero l h i = omega arith
take-bytes (suc k) [] h i = omega arith
take-bytes (suc k) (x ∷ l) h zero = h 0
take-bytes (suc k) (x ∷ l) h (suc i) = take-bytes k l (λ j. h (suc j)) i

pub part_bytes : (k at : ℕ) (l : List ℕ) → Bytes l → Bytes (take k (drop at l))
part_bytes k at l h = take-bytes k (drop at l) (λ i. rw (get_or-drop at l i 0) (h (at + i)))

-- a number of two bytes is written as them
pub half_of : (x y : ℕ) → x < 256 → y < 256 → half (x + 256 * y) ≡ x ∷ y ∷ []
half_of x y hx hy =
    let low : (x + 256 * y) % 256 ≡ x = omega arith in
    let high : (x + 256 * y) / 256 ≡ y = omega arith in
    let byte : y % 256 ≡ y = omega arith in
    rw (low, high, byte)

-- ---- marks whose last is not 0

trim-zeros : (r : ℕ) → trimmed (replicate r 0) ≡ []
unfolding trimmed
trim-zeros zero = refl
trim-zeros (suc r) = ap (kept 0) (trim-zeros r)

kept-some : (x : ℕ) → 1 ≤ x → kept x [] ≡ x ∷ []
kept-some zero h = absurd (omega arith)
kept-some (suc x) h = refl

trim-last : (x : ℕ) (l : List ℕ) (r : ℕ) → 1 ≤ get_or (x ∷ l) (length l) 0 → trimmed ((x ∷ l) ++ replicate r 0) ≡ x ∷ l
unfolding trimmed
trim-last x [] r h = ap (kept x) (trim-zeros r) ∙ kept-some x h
trim-last x (y ∷ l) r h = ap (kept x) (trim-last y l r h)

trim-padded : (w : List ℕ) → length w ≤ positions → Passes (eqb (length w) 0 || leb 1 (nth w (length w) 0)) → trimmed (padded positions w) ≡ w
unfolding nth
trim-padded [] h e = ap trimmed (padded-is positions [] positions (omega arith)) ∙ trim-zeros positions
trim-padded (x ∷ w) h e =
    let last : 1 ≤ get_or (x ∷ w) (length w) 0 = ⊎_elim (λ (z : Passes (eqb (suc (length w)) 0)). absurd (omega (arith, equal {a = suc (length w)} {b = 0} z))) at_most (either e) in
    ap trimmed (padded-is positions (x ∷ w) (positions - length (x ∷ w)) (omega arith)) ∙ trim-last x w (positions - length (x ∷ w)) last

pub marks-copy : (b : List ℕ) (k : ℕ) → Bytes b → length b ≡ 4 * k → length b ≤ 4 * positions → Passes (sound_marks_body b) → marks_body (marks_in b) ≡ b
marks-copy b k h e l s =
    let (_, ends) = both {a = every (between 0 ceiling) (words b)} s in
    ap bytes (trim-padded (words b) (omega (arith, length-words b)) ends) ∙ bytes-words b k e h

-- ---- a server

three-first : (w : List ℕ) → 3 ≤ length w → get_or w 0 0 ∷ get_or w 1 0 ∷ get_or w 2 0 ∷ drop 3 w ≡ w
three-first [] h = absurd (omega arith)
three-first (x ∷ []) h = absurd (omega arith)
three-first (x ∷ y ∷ []) h = absurd (omega arith)
three-first (x ∷ y ∷ z ∷ w) h = refl

-- entries of either width are whole words
four-by : (w k n : ℕ) → n ≡ 12 + entry_bytes w * k → n ≡ 4 * (n / 4)
four-by zero k n e = omega arith
four-by (suc w) k n e = omega arith

pub server-copy : (w : ℕ) (b : List ℕ) (k : ℕ) → Bytes b → length b ≡ figure_bytes + entry_bytes w * k → get_or b 1 0 ≡ 0 → server_body w (server_in w b) ≡ b
unfolding words
server-copy w [] k h e z = absurd (omega arith)
server-copy w (x ∷ []) k h e z = absurd (omega arith)
server-copy w (x ∷ y ∷ []) k h e z = absurd (omega arith)
server-copy w (x ∷ y ∷ u ∷ []) k h e z = absurd (omega arith)
server-copy w (x ∷ y ∷ u ∷ v ∷ r) k h e z =
    let ws = words r in
    let j : ℕ = length r / 4 in
    let four : length r ≡ 4 * j = four-by w k (length r) (omega arith) in
    let many : 4 * length (drop 3 ws) ≡ entry_bytes w * k = simp length-drop (omega (arith, length-words r)) in
    let log = ap (λ (m : List ℕ). bytes (get_or ws 0 0 ∷ get_or ws 1 0 ∷ get_or ws 2 0 ∷ m)) (words_back w (drop 3 ws) k many) in
    let tail =
    log ∙ ap bytes (three-first ws (omega (arith, length-words r))) ∙ bytes-words r j four (λ i. h (suc (suc (suc (suc i))))) in
    λ i. x ∷ sym z i ∷ (half_of u v (h 2) (h 3) i ++ tail i)
