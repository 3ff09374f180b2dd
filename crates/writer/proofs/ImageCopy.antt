-- An image that is read is written again as it was. Assumes nothing.
use Prim.Native.Nat.{ℕ, zero, suc, ◌+◌, ◌-◌, ◌*◌, ◌/◌, ◌%◌, ◌≤◌, ◌<◌}
use native.Mathlib.Decide.{dec_lt}
use native.Mathlib.Numerals.{add-one}
use native.Mathlib.Omega.{arith}
use mathlib.Core.Path.{◌≡◌, refl, ap, ap₂, sym, ◌∙◌}
use mathlib.Core.Bool.{Bool, ◌&&◌}
use mathlib.Core.List.{List, [], ◌∷◌, ◌++◌, append_assoc, append-nil, flatten}
use lib.Dec.{T, leb, eqb, eqb→eq}
use lib.ListN.{length, get_or, take, drop, length-append, length-drop, length-map, get_or-append, get_or-map}
use lib.Seq.{take_all, take-add, get_or-drop, get_or_at, length-take-le}
use Rattle.words.proofs.Tests.{Passes, both, equal, three}
use Rattle.algorithm.specs.Table.{absent, sound_rule, sound_floor}
use Rattle.words.specs.Words.{half}
use Rattle.image.specs.Contents.{first_body, figure_bytes, entry_bytes, lettered, count_in, wide_in, rule_in, floor_in, offset, size, start, body, server_in, sound_at, sound_bodies}
use Rattle.words.proofs.BelowLaws.{all-below}
use Rattle.image.specs.Image.{wide, opening, server_body, bodies, body_of, contents, image}
use Rattle.reader.specs.Reader.{read_reply, servers_to, read_table, read_end}
use Rattle.reader.proofs.FillLaws.{length-servers}
use Rattle.reader.proofs.ReplyLaws.{Readable, readable}
use Rattle.image.proofs.ImageLaws.{flatten-more}
use Rattle.writer.proofs.PlaceLaws.{contents-more}
use Rattle.writer.proofs.BodyCopy.{Bytes, part_bytes, half_of, marks-copy, server-copy}

-- ---- some bytes one by one

take-four : (l : List ℕ) → 4 ≤ length l → take 4 l ≡ get_or l 0 0 ∷ get_or l 1 0 ∷ get_or l 2 0 ∷ get_or l 3 0 ∷ []
take-four [] h = absurd (omega arith)
take-four (x ∷ []) h = absurd (omega arith)
take-four (x ∷ y ∷ []) h = absurd (omega arith)
take-four (x ∷ y ∷ u ∷ []) h = absurd (omega arith)
take-four (x ∷ y ∷ u ∷ v ∷ l) h = refl

four-at : (l : List ℕ) (at : ℕ) → at + 4 ≤ length l
    → take 4 (drop at l) ≡ get_or l (at + 0) 0 ∷ get_or l (at + 1) 0 ∷ get_or l (at + 2) 0 ∷ get_or l (at + 3) 0 ∷ []
four-at l at h =
    rw (← get_or-drop at l 0 0, ← get_or-drop at l 1 0, ← get_or-drop at l 2 0, ← get_or-drop at l 3 0)
    (take-four (drop at l) (omega (arith, length-drop at l)))

-- the servers that are read
pub servers-at : (im : List ℕ) (k s : ℕ) → s < k → get_or (servers_to k im) s absent ≡ server_in (wide_in im) (body im (suc s))
unfolding servers_to
servers-at im zero s h = absurd (omega arith)
servers-at im (suc k) s h =
    elim (dec_lt s k) [
      | yes l ↦
          get_or-append (servers_to k im) (server_in (wide_in im) (body im (suc k)) ∷ []) absent s (omega (arith, length-servers k im))
          ∙ servers-at im k s l
      | no l ↦
          let last : s ≡ k = omega arith in
          rw (last, get_or_at (servers_to k im) (server_in (wide_in im) (body im (suc k))) [] absent k (length-servers k im))
    ]

-- a length of whole entries behind the figures, in entries
entries-of : (w v : ℕ) → figure_bytes ≤ v → v % entry_bytes w ≡ 0 → v ≡ figure_bytes + entry_bytes w * ((v - figure_bytes) / entry_bytes w)
entries-of zero v l e = omega arith
entries-of (suc w) v l e = omega arith

-- ---- an image that is read

module _ (im slice : List ℕ) (e : read_reply im slice ≡ 0) (byte : Bytes im) where
  abbrev n : ℕ
  n = count_in im

  abbrev W : ℕ
  W = wide (read_table im)

  abbrev bs : List (List ℕ)
  bs = bodies (read_table im)

  read : Readable im slice
  read = readable im slice e

  counted : length (servers_to n im) ≡ n
  counted = length-servers n im

  many : length bs ≡ n + 1
  many = omega (arith, length-map (servers_to n im) (server_body W), counted)

  module _ (k : ℕ) (l : k ≤ n) where
    pub length_part : length (body im k) ≡ size im k
    length_part =
        length-take-le (size im k) (drop (offset im k) im)
        (omega (arith, length-drop (offset im k) im, (read.named.each k l).within))

    part-byte : Bytes (body im k)
    part-byte = part_bytes (size im k) (offset im k) im byte

    sound : Passes (sound_at im k)
    unfolding sound_bodies
    sound = all-below (n + 1) (sound_at im) read.sound k (omega arith)

  -- the marks are written as the part that was read
  pub marks-copied : body_of (read_table im) 0 ≡ body im 0
  marks-copied =
      let l : 0 ≤ n = omega arith in
      marks-copy (body im 0) (size im 0 / 4) (part-byte 0 l) (omega (arith, length_part 0 l, (read.extents 0 l).items))
      (omega (arith, length_part 0 l, (read.named.each 0 l).most)) (sound 0 l)

  -- ---- an image whose entries have the width that the writer gives them

  module _ (same : wide_in im ≡ W) where
    -- each body is written as the part that was read
    copied : (k : ℕ) → k ≤ n → body_of (read_table im) k ≡ body im k
    copied zero l = marks-copied
    copied (suc s) l =
        let b = body im (suc s) in
        let (spare, _) = both {a = eqb (get_or b 1 0) 0} (sound (suc s) l) in
        let part = length_part (suc s) l in
        let long = entries-of (wide_in im) (size im (suc s)) (read.named.each (suc s) l).least (read.extents (suc s) l).items in
        get_or-map (server_body W) (servers_to n im) s absent
        ∙ ap (server_body W) (servers-at im n s l)
        ∙ rw (← same) (server-copy (wide_in im) b _ (part-byte (suc s) l) (part ∙ long) (equal spare))

    -- what stands up to body k
    upto : (k : ℕ) → k ≤ n + 1 → take (first_body n) im ++ flatten (take k bs) ≡ take (start im k) im
    unfolding flatten
    upto zero l = append-nil (take (first_body n) im)
    upto (suc k) l =
        let here : k ≤ n = omega arith in
        rw (flatten-more (server_body W absent) bs k (omega (arith, many)), copied k here, ← append_assoc (take (first_body n) im) (flatten (take k bs)) (body im k), upto k (omega arith), ← (read.extents k here).place)
        (sym (take-add (offset im k) (size im k) im))

    within : (k : ℕ) → k ≤ n + 1 → start im k ≤ length im
    within zero l = read.named.complete
    within (suc k) l = (read.named.each k (omega arith)).within

    -- body k begins where the ones before it end
    begins : (k : ℕ) → k ≤ n → first_body n + length (flatten (take k bs)) ≡ offset im k
    begins k l =
        let m : k ≤ n + 1 = omega arith in
        omega (
          arith,
          ap length (upto k m),
          length-append (take (first_body n) im) (flatten (take k bs)),
          length-take-le (first_body n) im read.named.complete,
          length-take-le (start im k) im (within k m),
          (read.extents k l).place,
        )

    -- the four bytes of entry k
    entry-copied : (k : ℕ) → k ≤ n → half (offset im k) ++ half (size im k) ≡ take 4 (drop (8 + 4 * k) im)
    entry-copied k l =
        let at = 8 + 4 * k in
        let first : at + 0 ≡ at = omega arith in
        let third : at + 2 ≡ 10 + 4 * k = omega arith in
        let fourth : at + 3 ≡ 10 + 4 * k + 1 = omega arith in
        let bytes = four-at im at (omega (arith, read.named.complete)) in
        ap₂ ◌++◌ (half_of _ _ (byte at) (byte (at + 1))) (half_of _ _ (byte (10 + 4 * k)) (byte (10 + 4 * k + 1)))
        ∙ sym (rw (first, third, fourth) at bytes)

    -- the opening
    abbrev is : ℕ → ℕ → Bool
    is k v = eqb (get_or im k 0) v

    say : (k v : ℕ) → T (is k v) → get_or im k 0 ≡ v
    say k v = eqb→eq (get_or im k 0) v

    opens : take 8 im ≡ opening (read_table im)
    opens =
        let (most, _, _) = three (lettered im && leb (wide_in im) 1) (sound_rule (rule_in im)) (sound_floor (floor_in im)) read.opened.yes in
        let (some, d, _) = three (is 0 83 && is 1 73 && is 2 84) (is 3 69) (leb (wide_in im) 1) most in
        let (a, b, c) = three (is 0 83) (is 1 73) (is 2 84) some in
        let long = read.named.complete in
        take-add 4 4 im
        ∙ ap₂ ◌++◌ (take-four im (omega arith)) (four-at im 4 (omega arith))
        ∙ (λ i. say 0 83 a i ∷ say 1 73 b i ∷ say 2 84 c i ∷ say 3 69 d i ∷ sym counted i ∷ same i ∷ rule_in im ∷ floor_in im ∷ [])

    -- with the entries of the first k bodies
    front : (k : ℕ) → k ≤ n + 1 → opening (read_table im) ++ contents (first_body n) (take k bs) ≡ take (8 + 4 * k) im
    unfolding contents
    front zero l = sym opens
    front (suc k) l =
        let here : k ≤ n = omega arith in
        let d = server_body W absent in
        let before = contents (first_body n) (take k bs) in
        let next : 8 + 4 * k + 4 ≡ 8 + 4 * suc k = omega arith in
        let sizes : length (get_or bs k d) ≡ size im k = ap length (copied k here) ∙ length_part k here in
        let entry = half (first_body n + length (flatten (take k bs))) ++ half (length (get_or bs k d)) in
        ap (λ (x : List ℕ). opening (read_table im) ++ x) (contents-more d (first_body n) bs k (omega (arith, many)))
        ∙ sym (append_assoc (opening (read_table im)) before entry)
        ∙ ap (λ (x : List ℕ). x ++ entry) (front k (omega arith))
        ∙ (λ i. take (8 + 4 * k) im ++ (half (begins k here i) ++ half (sizes i)))
        ∙ ap (λ (x : List ℕ). take (8 + 4 * k) im ++ x) (entry-copied k here)
        ∙ sym (take-add (8 + 4 * k) 4 im)
        ∙ ap (λ (j : ℕ). take j im) next

    pub image-copied : image (read_table im) ≡ take (read_end im) im
    unfolding image
    image-copied =
        let all : take (n + 1) bs ≡ bs = take_all (n + 1) bs (omega (arith, many)) in
        let whole : 8 + 4 * (n + 1) ≡ first_body n = omega arith in
        let laid : opening (read_table im) ++ contents (first_body n) bs ≡ take (first_body n) im = rw (all, whole) at (front (n + 1) (omega arith)) in
        let ends : take (first_body n) im ++ flatten bs ≡ take (read_end im) im = rw (all, add-one n) at (upto (n + 1) (omega arith)) in
        ap (λ (j : ℕ). opening (read_table im) ++ (contents (first_body j) bs ++ flatten bs)) counted
        ∙ sym (append_assoc (opening (read_table im)) (contents (first_body n) bs) (flatten bs))
        ∙ ap (λ (x : List ℕ). x ++ flatten bs) laid
        ∙ ends
