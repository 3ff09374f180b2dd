-- Bodies that stand one after another, and what their contents say of them. Assumes nothing.
use Prim.Native.Nat.{ℕ, zero, suc, ◌+◌, ◌*◌, ◌/◌, ◌%◌, ◌≤◌, ◌<◌}
use native.Mathlib.Nat.{add_assoc}
use native.Mathlib.Omega.{arith}
use mathlib.Core.Path.{◌≡◌, refl, ap, sym, ◌∙◌}
use mathlib.Core.List.{List, [], ◌∷◌, ◌++◌, append_assoc, append-nil, flatten}
use lib.ListN.{length, get_or, take, drop, length-append, length-map}
use lib.Seq.{get_or-append-add, take-append_seam, drop_at}
use Rattle.words.specs.Words.{half, half_at}
use Rattle.algorithm.specs.Table.{Table, absent, count}
use Rattle.image.specs.Contents.{first_body, offset, size, stop, body}
use Rattle.image.specs.Image.{wide, opening, server_body, bodies, body_of, contents, image}

-- a number of two bytes is read back
pub half_back : (v : ℕ) → v < 65536 → v % 256 + 256 * (v / 256 % 256) ≡ v
half_back v h = omega arith

-- what is read behind some bytes is read of what follows them
half-past : (xs ys : List ℕ) (m k : ℕ) → length xs ≡ m → half_at (xs ++ ys) (m + k) ≡ half_at ys k
half-past xs ys m k e = rw (← e, add_assoc (length xs) k 1, get_or-append-add xs ys k 0, get_or-append-add xs ys (k + 1) 0)

-- ---- some bodies, from an offset on

-- what an entry says
record Says (c : List ℕ) (e at v : ℕ) : Type 0 where
  offset : half_at c (4 * e) ≡ at
  size : half_at c (4 * e + 2) ≡ v

module _ (d : List ℕ) where
  contents-say : (at : ℕ) (bs : List (List ℕ)) (e : ℕ) (r : List ℕ) → e < length bs → at + length (flatten bs) < 65536
      → Says (contents at bs ++ r) e (at + length (flatten (take e bs))) (length (get_or bs e d))
  unfolding contents flatten
  contents-say at [] e r h l = absurd (omega arith)
  contents-say at (b ∷ bs) zero r h l =
      record {
        offset = half_back at (omega arith) ∙ omega arith;
        size = half_back (length b) (omega (arith, length-append b (flatten bs)));
      }
  contents-say at (b ∷ bs) (suc e) r h l =
      let rest = contents (at + length b) bs ++ r in
      let entry = half at ++ half (length b) in
      let on : 4 * suc e ≡ 4 + 4 * e = omega arith in
      let on2 : 4 * suc e + 2 ≡ 4 + (4 * e + 2) = omega arith in
      let next = contents-say (at + length b) bs e r (omega arith) (omega (arith, length-append b (flatten bs))) in
      let behind = length-append b (flatten (take e bs)) in
      record {
        offset = rw on (half-past entry rest 4 (4 * e) refl ∙ next.offset ∙ omega (arith, behind));
        size = rw on2 (half-past entry rest 4 (4 * e + 2) refl ∙ next.size);
      }

  -- one body more
  pub flatten-more : (bs : List (List ℕ)) (e : ℕ) → e < length bs → flatten (take (suc e) bs) ≡ flatten (take e bs) ++ get_or bs e d
  unfolding flatten
  flatten-more [] e h = absurd (omega arith)
  flatten-more (b ∷ bs) zero h = append-nil b
  flatten-more (b ∷ bs) (suc e) h =
      ap (λ (l : List ℕ). b ++ l) (flatten-more bs e (omega arith)) ∙ sym (append_assoc b (flatten (take e bs)) (get_or bs e d))

  pub flatten-most : (bs : List (List ℕ)) (e : ℕ) → e < length bs → length (flatten (take e bs)) + length (get_or bs e d) ≤ length (flatten bs)
  unfolding flatten
  flatten-most [] e h = absurd (omega arith)
  flatten-most (b ∷ bs) zero h = omega (arith, length-append b (flatten bs))
  flatten-most (b ∷ bs) (suc e) h =
      omega (arith, length-append b (flatten (take e bs)), length-append b (flatten bs), flatten-most bs e (omega arith))

  -- body e stands at its place
  body-there : (at : ℕ) (pre : List ℕ) (bs : List (List ℕ)) (e : ℕ) (r : List ℕ) → length pre + length (flatten (take e bs)) ≡ at → e < length bs
      → take (length (get_or bs e d)) (drop at (pre ++ (flatten bs ++ r))) ≡ get_or bs e d
  unfolding flatten
  body-there at pre [] e r p h = absurd (omega arith)
  body-there at pre (b ∷ bs) zero r p h =
      rw (drop_at pre ((b ++ flatten bs) ++ r) at (omega arith), append_assoc b (flatten bs) r) (take-append_seam b (flatten bs ++ r))
  body-there at pre (b ∷ bs) (suc e) r p h =
      rw (append_assoc b (flatten bs) r, ← append_assoc pre b (flatten bs ++ r))
      (body-there at (pre ++ b) bs e r (omega (arith, length-append pre b, length-append b (flatten (take e bs)))) (omega arith))

pub length-contents : (at : ℕ) (bs : List (List ℕ)) → length (contents at bs) ≡ 4 * length bs
unfolding contents
length-contents at [] = refl
length-contents at (b ∷ bs) = omega (arith, length-contents (at + length b) bs)

-- ---- the image of a table, with whatever follows

module _ (t : Table) where
  abbrev pub front : List ℕ
  front = contents (first_body (count t)) (bodies t)

  -- where body e begins
  abbrev pub place : ℕ → ℕ
  place e = first_body (count t) + length (flatten (take e (bodies t)))

  abbrev pub joined : List ℕ → List ℕ
  joined rest = opening t ++ (front ++ (flatten (bodies t) ++ rest))

  pub many : length (bodies t) ≡ count t + 1
  many = omega (arith, length-map t.servers (server_body (wide t)))

  pub length-image : length (image t) ≡ first_body (count t) + length (flatten (bodies t))
  unfolding image
  length-image = omega (arith, many, length-append front (flatten (bodies t)), length-contents (first_body (count t)) (bodies t))

  pub image-joined : (rest : List ℕ) → image t ++ rest ≡ joined rest
  unfolding image
  image-joined rest =
      append_assoc (opening t) (front ++ flatten (bodies t)) rest
      ∙ ap (λ (l : List ℕ). opening t ++ l) (append_assoc front (flatten (bodies t)) rest)

  module _ (short : first_body (count t) + length (flatten (bodies t)) < 65536) (rest : List ℕ) (e : ℕ) (h : e ≤ count t) where
    says : Says (front ++ (flatten (bodies t) ++ rest)) e (place e) (length (body_of t e))
    says = contents-say (server_body (wide t) absent) (first_body (count t)) (bodies t) e (flatten (bodies t) ++ rest) (omega (arith, many)) short

    pub its-offset : offset (joined rest) e ≡ place e
    its-offset = half-past (opening t) (front ++ (flatten (bodies t) ++ rest)) 8 (4 * e) refl ∙ says.offset

    pub its-size : size (joined rest) e ≡ length (body_of t e)
    its-size =
        let on : 10 + 4 * e ≡ 8 + (4 * e + 2) = omega arith in
        rw on (half-past (opening t) (front ++ (flatten (bodies t) ++ rest)) 8 (4 * e + 2) refl ∙ says.size)

    pub its-stop : stop (joined rest) e ≡ place (suc e)
    its-stop =
        let more = flatten-more (server_body (wide t) absent) (bodies t) e (omega (arith, many)) in
        let long = length-append (flatten (take e (bodies t))) (body_of t e) in
        rw (its-offset, its-size, more) (omega (arith, long))

    pub its-body : body (joined rest) e ≡ body_of t e
    its-body =
        let pre = opening t ++ front in
        let long : length pre ≡ first_body (count t) = omega (arith, many, length-contents (first_body (count t)) (bodies t)) in
        rw (its-offset, its-size, ← append_assoc (opening t) front (flatten (bodies t) ++ rest))
        (body-there (server_body (wide t) absent) (place e) pre (bodies t) e rest (omega arith) (omega (arith, many)))
