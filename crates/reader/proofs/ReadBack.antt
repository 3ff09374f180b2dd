-- An image of a table that breaks no rule is read as that table, whatever follows it. Assumes nothing.
use Prim.Native.Nat.{ℕ, zero, suc, ◌+◌, ◌*◌, ◌%◌, ◌≤◌, ◌<◌}
use native.Mathlib.Omega.{arith}
use mathlib.Core.Path.{◌≡◌, refl, ap, sym, subst, ◌∙◌}
use mathlib.Core.Bool.{false, ◌&&◌}
use mathlib.Core.List.{List, ◌++◌, flatten}
use lib.Dec.{leb, eqb}
use lib.ListN.{length, get_or, take, length-append, get_or-map}
use lib.Seq.{take-suc, take-length, take_all}
use borrow.Author.Tests.{le-ltb, le-leb, eq-eqb}
use Rattle.words.specs.Refusal.{first}
use Rattle.words.proofs.Tests.{Passes, together, is-equal, is-at-most, is_true}
use Rattle.algorithm.specs.Table.{Server, Table, absent, count, ceiling, most_servers, positions, sound_server, broken, trimmed, sound_count, with_servers, with_marks}
use Rattle.words.specs.Lists.{nth, every, between}
use Rattle.words.proofs.Lists.{every-nth}
use Rattle.algorithm.proofs.Sound.{SoundTable, table-sound}
use Rattle.table.specs.Slice.{Shaped}
use Rattle.words.proofs.WordLaws.{length-bytes}
use Rattle.table.specs.Layout.{table_bytes}
use Rattle.table.proofs.SoundLaws.{marks-sound}
use Rattle.table.proofs.HeldLaws.{roomy-at}
use Rattle.table.proofs.StoredLaws.{its_shape}
use Rattle.image.specs.Contents.{first_body, figure_bytes, offset, size, stop, start, may_have, laid, laid_out, body, marks_in, server_in, sound_marks_body, sound_server_body, sound_at, sound_bodies, count_in}
use Rattle.image.specs.Image.{unbaked, wide, marks_body, server_body, bodies, body_of, image}
use Rattle.reader.specs.Reader.{servers_to, read_reply, read_table, read_end}
use Rattle.words.proofs.BelowLaws.{below_all}
use Rattle.image.proofs.ImageLaws.{flatten-most, place, joined, many, length-image, image-joined, its-offset, its-size, its-stop, its-body}
use Rattle.image.proofs.LogLaws.{length-body}
use Rattle.image.proofs.LongestImage.{image-most}
use Rattle.image.proofs.WideLaws.{wide-most, narrow-unbaked}
use Rattle.reader.proofs.BodyBack.{length-trimmed, marks-back, marks-pass, server-back, server-pass}

-- a length that a body may have: f bytes, and 0 to 64 items of i bytes
fitting : (f i v : ℕ) → f ≤ v → v ≤ f + i * positions → v % i ≡ 0 → Passes (between f (f + i * positions) v && eqb (v % i) 0)
fitting f i v least most items =
    together {a = between f (f + i * positions) v}
    (together {a = leb f v} (is-at-most {a = f} {b = v} least) (is-at-most {a = v} {b = f + i * positions} most))
    (is-equal {a = v % i} {b = 0} items)

server-fits : (w e : ℕ) (s : Server) → length s.log ≤ positions → Passes (may_have w (suc e) (length (server_body w s)))
server-fits zero e s l =
    let long = length-body 0 s in
    fitting figure_bytes 4 (length (server_body 0 s)) (omega arith) (omega arith) (omega arith)
server-fits (suc w) e s l =
    let long = length-body (suc w) s in
    fitting figure_bytes 8 (length (server_body (suc w) s)) (omega arith) (omega arith) (omega arith)

module _ (t : Table) (h : broken t ≡ false) where
  rules : SoundTable t
  rules = table-sound (record { no = rw h tt })

  shape : Shaped t
  shape = its_shape t h

  -- the bodies have room for their places in two bytes
  short : first_body (count t) + length (flatten (bodies t)) < 65536
  short = omega (arith, length-image t, image-most t h)

  low : Passes (every (between 0 ceiling) t.marks)
  low = subst Passes (marks-sound t.marks) rules.marks

  module _ (s : ℕ) (k : s < count t) where
    sound-at : Passes (sound_server (count t) (get_or t.servers s absent))
    unfolding nth
    sound-at = every-nth (sound_server (count t)) t.servers (suc s) absent rules.servers (omega arith) (omega arith)

    small_at : (get_or t.servers s absent).config.set < 65536
    unfolding nth
    small_at = (roomy-at t.servers (suc s) shape.roomy).small

    short-at : length (get_or t.servers s absent).log ≤ positions
    unfolding nth
    short-at = (roomy-at t.servers (suc s) shape.roomy).short

    bare-at : wide t ≡ 0 → Passes (unbaked (get_or t.servers s absent))
    unfolding nth
    bare-at e = every-nth unbaked t.servers (suc s) absent (narrow-unbaked t e) (omega arith) (omega arith)

    body_at : body_of t (suc s) ≡ server_body (wide t) (get_or t.servers s absent)
    body_at = get_or-map (server_body (wide t)) t.servers s absent

  sized : (e : ℕ) → e ≤ count t → Passes (may_have (wide t) e (length (body_of t e)))
  sized zero l =
      let long = length-bytes (trimmed t.marks) in
      let most = length-trimmed t.marks in
      fitting 0 4 (length (marks_body t.marks)) (omega arith) (omega (arith, shape.marked)) (omega arith)
  sized (suc s) l =
      let a = get_or t.servers s absent in
      subst (λ (b : List ℕ). Passes (may_have (wide t) (suc s) (length b))) (sym (body_at s l)) (server-fits (wide t) s a (short-at s l))

  module _ (rest : List ℕ) where
    abbrev im : List ℕ
    im = joined t rest

    -- ---- no refusal holds

    begins : (e : ℕ) → e ≤ count t → place t e ≡ start im e
    unfolding flatten
    begins zero l = omega arith
    begins (suc e) l = sym (its-stop t short rest e (omega arith))

    long : length im ≡ length (image t) + length rest
    long = ap length (sym (image-joined t rest)) ∙ length-append (image t) rest

    laid-at : (e : ℕ) → e < count t + 1 → Passes (laid im e)
    laid-at e k =
        let l : e ≤ count t = omega arith in
        together {a = eqb (offset im e) (start im e) && may_have (wide t) e (size im e)}
        (together {a = eqb (offset im e) (start im e)} (is-equal (its-offset t short rest e l ∙ begins e l))
        (subst (λ (v : ℕ). Passes (may_have (wide t) e v)) (sym (its-size t short rest e l)) (sized e l)))
        (is-at-most {a = stop im e} {b = length im}
        (omega (
          arith,
          its-offset t short rest e l,
          its-size t short rest e l,
          flatten-most (server_body (wide t) absent) (bodies t) e (omega (arith, many t)),
          length-image t,
          long,
        )))

    laid-out : Passes (laid_out im)
    unfolding laid_out
    laid-out = together {a = leb (first_body (count t)) (length im)} (is-at-most {a = first_body (count t)} {b = length im} (omega (arith, long, length-image t))) (below_all (count t + 1) (laid im) laid-at)

    sound-body : (e : ℕ) → e < count t + 1 → Passes (sound_at im e)
    sound-body zero k = subst (λ (b : List ℕ). Passes (sound_marks_body b)) (sym (its-body t short rest 0 (omega arith))) (marks-pass t.marks low)
    sound-body (suc s) k =
        let l : suc s ≤ count t = omega arith in
        subst (λ (b : List ℕ). Passes (sound_server_body (count t) (wide t) b)) (sym (its-body t short rest (suc s) l ∙ body_at s l))
        (server-pass (count t) (wide t) (get_or t.servers s absent) (sound-at s l) (small_at s l) (bare-at s l))

    all_sound : Passes (sound_bodies im)
    unfolding sound_bodies
    all_sound = below_all (count t + 1) (sound_at im) sound-body

    number : (slice : List ℕ) → length slice ≡ table_bytes → read_reply im slice ≡ 0
    unfolding read_reply first
    number slice e =
        let some : Passes (sound_count (count_in im)) = together {a = leb 1 (count t)} (is-at-most rules.some) (is-at-most rules.few) in
        rw (
          eq-eqb (length slice) table_bytes e,
          le-ltb (length im) 8 (omega (arith, long, length-image t)),
          le-leb (wide t) 1 (wide-most t),
          le-leb t.rule 1 rules.rule,
          le-leb t.floor most_servers rules.floor,
          is_true (sound_count (count_in im)) some.yes,
          is_true (laid_out im) laid-out.yes,
          is_true (sound_bodies im) all_sound.yes,
        )

    -- ---- what is read

    servers-to : (k : ℕ) → k ≤ count t → servers_to k im ≡ take k t.servers
    unfolding servers_to
    servers-to zero l = refl
    servers-to (suc k) l =
        let a = get_or t.servers k absent in
        let read : server_in (wide t) (body im (suc k)) ≡ a =
        ap (server_in (wide t)) (its-body t short rest (suc k) l ∙ body_at k l)
        ∙ server-back (count t) (wide t) a (sound-at k l) (small_at k l) (bare-at k l) in
        rw (servers-to k (omega arith), read) (sym (take-suc t.servers k absent l))

    table : read_table im ≡ t
    table =
        let servers = servers-to (count t) (omega arith) ∙ take-length t.servers in
        let marks = ap marks_in (its-body t short rest 0 (omega arith)) ∙ marks-back t.marks low shape.marked in
        λ d. with_servers (servers d) (with_marks (marks d) t)

    end : read_end im ≡ length (image t)
    end =
        let all : take (suc (count t)) (bodies t) ≡ bodies t = take_all (suc (count t)) (bodies t) (omega (arith, many t)) in
        its-stop t short rest (count t) (omega arith) ∙ rw all (sym (length-image t))

    -- ---- and so of the image itself

    pub number-back : (slice : List ℕ) → length slice ≡ table_bytes → read_reply (image t ++ rest) slice ≡ 0
    number-back slice e = rw image-joined (number slice e)

    pub table-back : read_table (image t ++ rest) ≡ t
    table-back = ap read_table (image-joined t rest) ∙ table

    pub end_back : read_end (image t ++ rest) ≡ length (image t)
    end_back = ap read_end (image-joined t rest) ∙ end
