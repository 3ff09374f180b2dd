-- The places of an image's parts, one behind another. Assumes nothing.
use Prim.Native.Nat.{ℕ, zero, suc, ◌+◌, ◌-◌, ◌*◌, ◌≤◌, ◌<◌}
use native.Mathlib.Nat.{add_assoc, mul-suc}
use native.Mathlib.Numerals.{add-one}
use native.Mathlib.Omega.{arith}
use mathlib.Core.Path.{◌≡◌, ap}
use mathlib.Core.List.{List, [], ◌∷◌, ◌++◌, flatten}
use lib.ListN.{length, get_or, take, drop, length-append, length-drop}
use lib.Seq.{take_all}
use Rattle.algorithm.specs.Table.{Table, absent, count, positions, most_servers}
use Rattle.words.specs.Words.{half}
use Rattle.buffer.specs.Buffer.{text, Wrote, Room, Grew}
use Rattle.buffer.specs.declared.Output.{Output}
use Rattle.buffer.proofs.WroteLaws.{sized, exact, grown, grown_none, lent, part, part-wrote}
use Rattle.image.specs.Contents.{first_body, figure_bytes, entry_bytes}
use Rattle.image.specs.Image.{wide, opening, server_body, bodies, body_of, contents, image}
use Rattle.image.proofs.ImageLaws.{flatten-more, flatten-most, place, many, length-image}

-- ---- one entry more

module _ (d : List ℕ) where
  pub contents-more : (at : ℕ) (bs : List (List ℕ)) (e : ℕ) → e < length bs
      → contents at (take (suc e) bs) ≡ contents at (take e bs) ++ (half (at + length (flatten (take e bs))) ++ half (length (get_or bs e d)))
  unfolding contents flatten
  contents-more at [] e h = absurd (omega arith)
  contents-more at (b ∷ bs) zero h =
      let here : at + 0 ≡ at = omega arith in
      rw here
  contents-more at (b ∷ bs) (suc e) h =
      rw (contents-more (at + length b) bs e (omega arith), length-append b (flatten (take e bs)), add_assoc at (length b) (length (flatten (take e bs))))

-- ---- the places of a table's bodies

-- body e begins at a place
pub record Placed (t : Table) (e at : ℕ) : Type 0 where
  pub offset : at ≡ place t e
  pub small : at ≤ first_body most_servers + (figure_bytes + entry_bytes 1 * positions) * e

pub placed-none : (t : Table) (n at : ℕ) → n ≡ count t → n ≤ most_servers → at ≡ first_body n → Placed t 0 at
unfolding flatten
placed-none t n at c few f = record { offset = omega arith; small = omega arith }

-- one body more, and the last one
module _ (t : Table) (n e at v : ℕ) (c : n ≡ count t) (p : Placed t e at) (l : e ≤ n) (s : v ≡ length (body_of t e)) where
  next-place : at + v ≡ place t (e + 1)
  next-place =
      rw (add-one, flatten-more (server_body (wide t) absent) (bodies t) e (omega (arith, many t)))
      (omega (arith, p.offset, length-append (flatten (take e (bodies t))) (body_of t e)))

  pub placed-more : v ≤ figure_bytes + entry_bytes 1 * positions → Placed t (e + 1) (at + v)
  placed-more m = record { offset = next-place; small = omega (arith, p.small) }

  pub placed-last : n ≤ e → at + v ≡ length (image t)
  placed-last m =
      let all : take (e + 1) (bodies t) ≡ bodies t = take_all (e + 1) (bodies t) (omega (arith, many t)) in
      omega (arith, next-place, ap (λ (x : List (List ℕ)). length (flatten x)) all, length-image t)

-- ---- the opening

pub opening-put : (t : Table) (o p q : Output) (l : List ℕ) → l ≡ count t ∷ wide t ∷ t.rule ∷ t.floor ∷ [] → Grew 4 o p (text "SITE")
    → Grew (length l) p q l → Grew 8 o q (opening t)
opening-put t o p q l e w x = grown w (rw e at x)

-- ---- the contents

-- the entries of the first e bodies are written
abbrev pub Entered : Table → Output → Output → ℕ → Type 0
Entered t o p e = Grew (4 * e) o p (contents (first_body (count t)) (take e (bodies t)))

module _ (t : Table) (o : Output) where
  pub entered-none : o.at ≤ length o.buffer.now → Entered t o o 0
  unfolding contents
  entered-none h = grown_none 0 o h

  module _ (p : Output) (n e : ℕ) (c : n ≡ count t) (g : Entered t o p e) where
    pub entered-more : (q r : Output) (at v : ℕ) → e ≤ n → Placed t e at → v ≡ length (body_of t e) → Grew 2 p q (half at) → Grew 2 q r (half v)
        → Entered t o r (e + 1)
    entered-more q r at v l f s w x =
        let next = contents-more (server_body (wide t) absent) (first_body (count t)) (bodies t) e (omega (arith, many t)) in
        rw (add-one, mul-suc, next, ← f.offset, ← s) (grown g (grown w x))

    pub entered-last : (q r : Output) (at v : ℕ) → e ≤ n → n ≤ e → Placed t e at → v ≡ length (body_of t e) → Grew 2 p q (half at) → Grew 2 q r (half v)
        → Grew (4 * (count t + 1)) o r (contents (first_body (count t)) (bodies t))
    entered-last q r at v l m f s w x =
        let last : e ≡ count t = omega arith in
        rw (last, take_all (count t + 1) (bodies t) (omega (arith, many t))) at (entered-more q r at v l f s w x)

-- ---- the bodies

-- the first e bodies are written
abbrev pub Bodied : Table → Output → Output → ℕ → Type 0
Bodied t o p e = Grew (length (flatten (take e (bodies t)))) o p (flatten (take e (bodies t)))

module _ (t : Table) (o : Output) where
  pub bodied-none : o.at ≤ length o.buffer.now → Bodied t o o 0
  unfolding flatten
  bodied-none h = grown_none 0 o h

  module _ (p : Output) (n e : ℕ) (c : n ≡ count t) (g : Bodied t o p e) (l : e ≤ n) where
    body-start : p.at ≤ length p.buffer.now
    body-start = omega (arith, g.wrote.wrote.room, sized g.wrote.wrote)

    pub body-room : Room (length (flatten (bodies t))) o → length (body_of t e) ≤ length (take (length p.buffer.now - p.at) (drop p.at p.buffer.now))
    body-room h =
        rw (part p.buffer.now p.at body-start)
        (omega (
          arith,
          h,
          length-drop p.at p.buffer.now,
          sized g.wrote.wrote,
          g.wrote.wrote.end,
          flatten-most (server_body (wide t) absent) (bodies t) e (omega (arith, many t)),
        ))

    -- body e is written at the start of the part, and q is the output then
    module _ (ys : List ℕ) (r : ℕ) (w : Wrote (take (length p.buffer.now - p.at) (drop p.at p.buffer.now)) ys 0 (body_of t e) r) (q : Output)
        (same : q.buffer.ghost_name ≡ p.buffer.ghost_name)
        (put : q.buffer.now ≡ take p.at p.buffer.now ++ (ys ++ drop (length p.buffer.now - p.at) (drop p.at p.buffer.now))) (end : q.at ≡ p.at + r) where
      pub bodied-more : Bodied t o q (e + 1)
      bodied-more =
          let next : Wrote p.buffer.now q.buffer.now p.at (body_of t e) q.at = rw (put, end) (part-wrote p.buffer.now p.at body-start ys (body_of t e) r w) in
          let more = flatten-more (server_body (wide t) absent) (bodies t) e (omega (arith, many t)) in
          rw (add-one, more, length-append (flatten (take e (bodies t))) (body_of t e)) (grown g (record { same = same; wrote = exact next }))

      pub bodied-last : n ≤ e → Grew (length (flatten (bodies t))) o q (flatten (bodies t))
      bodied-last m = rw (take_all (e + 1) (bodies t) (omega (arith, many t))) at bodied-more

-- ---- the image

module _ (t : Table) (o : Output) (h : length (image t) ≤ length o.buffer.now) (first : o.at ≡ 0) where
  pub opening-room : Room 8 o
  opening-room = omega (arith, length-image t)

  module _ (p : Output) (g : Grew 8 o p (opening t)) where
    pub contents-room : Room (4 * (count t + 1)) p
    contents-room = omega (arith, length-image t, g.wrote.short, sized g.wrote.wrote)

    module _ (q : Output) (f : Grew (4 * (count t + 1)) p q (contents (first_body (count t)) (bodies t))) where
      pub bodies-room : Room (length (flatten (bodies t))) q
      bodies-room =
          omega (arith, length-image t, g.wrote.short, sized g.wrote.wrote, f.wrote.short, sized f.wrote.wrote, many t)

pub image-wrote : (t : Table) (b b' : List ℕ) (o p q r : Output) → Grew 8 o p (opening t)
    → Grew (4 * (count t + 1)) p q (contents (first_body (count t)) (bodies t)) → Grew (length (flatten (bodies t))) q r (flatten (bodies t))
    → o.at ≡ 0 → b ≡ o.buffer.now → (o.buffer.ghost_name ≡ r.buffer.ghost_name → b' ≡ r.buffer.now) → Wrote b b' 0 (image t) r.at
unfolding image
image-wrote t b b' o p q r f g h first is last = lent (grown (grown f g) h) first is last
