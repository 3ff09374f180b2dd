-- The width of the entries in an image that is read, beside the width that the writer gives them. Assumes nothing.
use Prim.Native.Nat.{ℕ, zero, suc, ◌+◌, ◌*◌, ◌≤◌}
use native.Mathlib.Omega.{arith}
use mathlib.Core.Bool.{◌&&◌}
use mathlib.Core.List.{List, [], ◌∷◌, flatten}
use mathlib.Core.Logic.{◌⊎◌, inl, inr, ⊎_elim}
use mathlib.Core.Path.{◌≡◌, refl, ap, sym, ◌∙◌}
use lib.Dec.{leb, eqb}
use lib.ListN.{length, take, drop, length-append, length-map, get_or-map}
use lib.Seq.{take_all}
use Rattle.words.specs.Lists.{every}
use Rattle.words.specs.Words.{words}
use Rattle.words.proofs.Lists.{cons-every, every-plus}
use Rattle.words.proofs.Tests.{Passes, both, at_most, is-equal}
use Rattle.algorithm.specs.Table.{entries, Table, absent}
use Rattle.table.specs.Layout.{bakes}
use Rattle.image.specs.Contents.{lettered, count_in, wide_in, first_body, figure_bytes, entry_bytes, size, start, body, server_in}
use Rattle.image.specs.Image.{unbaked, wide, server_body, bodies, body_of, image}
use Rattle.image.proofs.ImageLaws.{flatten-more, length-image}
use Rattle.image.proofs.LogLaws.{narrow-many, wide-many, length-body}
use Rattle.image.proofs.WideLaws.{wide-most, unbaked-narrow}
use Rattle.reader.specs.Reader.{servers_to, read_reply, read_table, read_end}
use Rattle.reader.proofs.FillLaws.{length-servers}
use Rattle.reader.proofs.ReplyLaws.{readable}
use Rattle.writer.proofs.BodyCopy.{Bytes}
use Rattle.writer.proofs.ImageCopy.{servers-at, length_part, marks-copied}

-- ---- an image whose entries are terms alone has no bake

entries-bare : (ws : List ℕ) → Passes (every (λ B. eqb B 0) (bakes (entries ws)))
unfolding every
entries-bare [] = record { yes = tt }
entries-bare (T ∷ ws) = cons-every (λ B. eqb B 0) 0 (bakes (entries ws)) (is-equal {a = 0} refl) (entries-bare ws)

server-bare : (w : ℕ) (b : List ℕ) → w ≡ 0 → Passes (unbaked (server_in w b))
server-bare zero b z = entries-bare (drop 4 (words b))
server-bare (suc w) b z = absurd (omega arith)

servers-bare : (im : List ℕ) → wide_in im ≡ 0 → (k : ℕ) → Passes (every unbaked (servers_to k im))
unfolding servers_to every
servers-bare im z zero = record { yes = tt }
servers-bare im z (suc k) =
    every-plus unbaked (servers_to k im) (server_in (wide_in im) (body im (suc k))) (servers-bare im z k) (server-bare (wide_in im) (body im (suc k)) z)

-- ---- so the two widths are one, but for an image with bakes that are all 0

either-width : (w W : ℕ) → w ≤ 1 → W ≤ 1 → (w ≡ 0 → W ≡ 0) → (w ≡ W) ⊎ ((w ≡ 1) × (W ≡ 0))
either-width zero W l m h = inl (sym (h refl))
either-width (suc zero) zero l m h = inr (refl, refl)
either-width (suc zero) (suc zero) l m h = inl refl
either-width (suc zero) (suc (suc W)) l m h = absurd (omega arith)
either-width (suc (suc w)) W l m h = absurd (omega arith)

module _ (im slice : List ℕ) (e : read_reply im slice ≡ 0) where
  pub widths : (wide_in im ≡ wide (read_table im)) ⊎ ((wide_in im ≡ 1) × (wide (read_table im) ≡ 0))
  widths =
      let (front, _) = both (readable im slice e).opened in
      let (most, _) = both {a = lettered im && leb (wide_in im) 1} front in
      let (_, one) = both {a = lettered im} most in
      either-width (wide_in im) (wide (read_table im)) (at_most one) (wide-most (read_table im)) (λ z. unbaked-narrow (read_table im) (servers-bare im z (count_in im)))

-- ---- so what is written is never longer than what was read

-- an entry of a body takes as many bytes, at least, as the writer gives it
entry-least : (w W L v : ℕ) → (w ≡ W) ⊎ ((w ≡ 1) × (W ≡ 0)) → figure_bytes + entry_bytes w * L ≤ v → figure_bytes + entry_bytes W * L ≤ v
entry-least w W L v h l = ⊎_elim (λ e. rw e at l) (λ (one, none). rw none (omega (arith, rw one at l))) h

log-least : (w : ℕ) (b : List ℕ) → figure_bytes ≤ length b → figure_bytes + entry_bytes w * length (server_in w b).log ≤ length b
log-least zero b l = omega (arith, narrow-many b 0 _ refl refl)
log-least (suc w) b l = omega (arith, wide-many b (suc w) _ refl (omega arith))

module _ (im slice : List ℕ) (e : read_reply im slice ≡ 0) (byte : Bytes im) where
  abbrev n : ℕ
  n = count_in im

  abbrev t : Table
  t = read_table im

  body-least : (k : ℕ) → k ≤ n → length (body_of t k) ≤ size im k
  body-least zero l = omega (arith, ap length (marks-copied im slice e byte), length_part im slice e byte 0 l)
  body-least (suc s) l =
      let b = body im (suc s) in
      let read : body_of t (suc s) ≡ server_body (wide t) (server_in (wide_in im) b) =
      get_or-map (server_body (wide t)) (servers_to n im) s absent ∙ ap (server_body (wide t)) (servers-at im n s l) in
      let part = length_part im slice e byte (suc s) l in
      let least = log-least (wide_in im) b (omega (arith, ((readable im slice e).named.each (suc s) l).least)) in
      omega (
        arith,
        ap length read,
        length-body (wide t) (server_in (wide_in im) b),
        entry-least (wide_in im) (wide t) (length (server_in (wide_in im) b).log) (length b) (widths im slice e) least,
      )

  bodies-least : (k : ℕ) → k ≤ n + 1 → first_body n + length (flatten (take k (bodies t))) ≤ start im k
  unfolding flatten
  bodies-least zero l = omega arith
  bodies-least (suc k) l =
      let bs = bodies t in
      let many : length bs ≡ n + 1 = omega (arith, length-map (servers_to n im) (server_body (wide t)), length-servers n im) in
      rw (flatten-more (server_body (wide t) absent) bs k (omega arith))
      (omega (
        arith,
        length-append (flatten (take k bs)) (body_of t k),
        body-least k (omega arith),
        bodies-least k (omega arith),
        ((readable im slice e).extents k (omega arith)).place,
      ))

  pub image-least : length (image t) ≤ read_end im
  image-least =
      let bs = bodies t in
      let counted = length-servers n im in
      let all : take (suc n) bs ≡ bs = take_all (suc n) bs (omega (arith, length-map (servers_to n im) (server_body (wide t)))) in
      omega (arith, length-image t, rw all at (bodies-least (suc n) (omega arith)))
