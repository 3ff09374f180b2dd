-- The reply by the tests that lead to it, and what an image that is read fulfils. Assumes nothing.
use Prim.Native.Nat.{ℕ, ◌+◌, ◌*◌, ◌%◌, ◌≤◌, ◌<◌}
use native.Mathlib.Omega.{arith}
use mathlib.Core.Path.{◌≡◌, refl, ap, sym, ◌∙◌}
use mathlib.Core.Bool.{◌&&◌}
use mathlib.Core.List.{List}
use lib.Dec.{leb, eqb}
use lib.ListN.{length, get_or}
use borrow.Author.Tests.{eq-eqb, ne_eqb}
use Rattle.words.proofs.Tests.{Passes, both, refuted, equal, at_most}
use Rattle.words.specs.Lists.{every, between}
use Rattle.std.specs.Prelude.{Ok, Err}
use Rattle.algorithm.specs.declared.Refused.{Refused}
use Rattle.algorithm.specs.Run.{told, answer_of, result_of}
use Rattle.algorithm.specs.Table.{positions, most_servers}
use Rattle.words.specs.Refusal.{nothing, Answer, answer}
use Rattle.words.proofs.RefusalLaws.{none-hold, given-each}
use Rattle.table.specs.Layout.{table_bytes, stored}
use Rattle.table.specs.Slice.{Holds}
use Rattle.table.proofs.StoredLaws.{held-stored}
use Rattle.image.specs.Contents as Contents
use Rattle.image.specs.Contents.{count_in, wide_in, offset, size, stop, first_body, start, fixed, item_bytes, may_have, laid, laid_out, sound_bodies, Names, Named}
use Rattle.reader.specs.Reader.{read_refusals, read_reply, read_table, read_end, read_result, read_bytes, end_after, ReadAnswer}
use Rattle.words.proofs.BelowLaws.{all-below}

-- ---- an image that is laid out

-- what an entry says that is as it has to be
pub record Extent (im : List ℕ) (e : ℕ) : Type 0 where
  pub place : offset im e ≡ start im e
  pub items : size im e % item_bytes (wide_in im) e ≡ 0
  pub names : Names im e

extent : (im : List ℕ) (e : ℕ) → first_body e ≤ length im → Passes (laid im e) → Extent im e
extent im e room h =
    let w = wide_in im in
    let v = size im e in
    let (front, within) = both {a = eqb (offset im e) (start im e) && may_have w e v} h in
    let (place, sized) = both {a = eqb (offset im e) (start im e)} front in
    let (range, items) = both {a = between (fixed e) (fixed e + item_bytes w e * positions) v} sized in
    let (least, most) = both {a = leb (fixed e) v} range in
    record {
      place = equal place;
      items = equal items;
      names = record { there = room; within = at_most within; least = at_most least; most = at_most most };
    }

extents : (im : List ℕ) → Passes (laid_out im) → (e : ℕ) → e ≤ count_in im → Extent im e
unfolding laid_out
extents im h e l =
    let (room, all) = both h in
    let complete : first_body (count_in im) ≤ length im = at_most room in
    extent im e (omega arith) (all-below (count_in im + 1) (laid im) all e (omega arith))

pub named : (im : List ℕ) → Passes (laid_out im) → Named im
unfolding laid_out
named im h = record { complete = at_most (both h).0; each = λ e l. (extents im h e l).names }

-- ---- an image that is read

pub record Readable (im slice : List ℕ) : Type 0 where
  pub sized : length slice ≡ table_bytes
  pub some : 1 ≤ count_in im
  pub few : count_in im ≤ most_servers
  pub opened : Passes (Contents.opened im)
  pub extents : (e : ℕ) → e ≤ count_in im → Extent im e
  pub named : Named im
  pub sound : Passes (sound_bodies im)

pub readable : (im slice : List ℕ) → read_reply im slice ≡ 0 → Readable im slice
unfolding read_reply every
readable im slice e =
    let none = none-hold (read_refusals im slice) tt e in
    let (some, few) = both (refuted (none 32)) in
    record { sized = equal (refuted (none 1)); some = at_most some; few = at_most few; opened = refuted (none 31); extents = extents im (refuted (none 33)); named = named im (refuted (none 33)); sound = refuted (none 34) }

module _ (im slice : List ℕ) (k : ℕ) (e : k ≡ read_reply im slice) where
  module _ (h : k ≡ 0) where
    pub read-sized : length slice ≡ table_bytes
    read-sized = (readable im slice (sym e ∙ h)).sized

    pub read-into : read_bytes im slice ≡ stored (read_table im)
    read-into = rw (eq-eqb (read_reply im slice) 0 (sym e ∙ h))

    pub read-bytes : (b : List ℕ) → ((i : ℕ) → get_or b i 0 < 256) → Holds b (read_table im) → b ≡ read_bytes im slice
    read-bytes b small f = held-stored b (read_table im) small f ∙ sym read-into

    pub read-upto : (at : ℕ) → end_after im slice at ≡ read_end im
    read-upto at = rw (eq-eqb (read_reply im slice) 0 (sym e ∙ h))

  pub kept-bytes : (k ≡ 0 → ⊥) → slice ≡ read_bytes im slice
  kept-bytes h = rw (ne_eqb (read_reply im slice) 0 (λ z. h (e ∙ z)))

-- ---- what is answered, as a result or as a number and an end

-- the number of an answer that shows nothing is told of its result again
abbrev pub Told : Answer → Type 0
Told a = (z : ℕ) → (answer_of (result_of (answer a.number nothing) z)).number ≡ a.number

read-told : (im slice : List ℕ) → (answer_of (read_result im slice)).number ≡ read_reply im slice
unfolding read_reply
read-told im slice =
    given-each Told (read_refusals im slice) (λ z. refl)
    (λ _ z. refl, (λ _ z. refl, (λ _ z. refl, (λ _ z. refl, (λ _ z. refl, (λ _ z. refl, tt)))))) (read_end im)

module _ (im slice slice' : List ℕ) (e : ℕ) where
  pub answered-ok : (place : ℕ) → Ok place ≡ read_result im slice → slice' ≡ read_bytes im slice → ReadAnswer im slice e 0 slice' place
  answered-ok place h b =
      let reply : 0 ≡ read_reply im slice = ap (λ r. (answer_of r).number) h ∙ read-told im slice in
      record { reply = reply; bytes = b; end = grind arith }

  pub answered-err : (n : ℕ) (r : Refused) → n ≡ (told r).number → Err r ≡ read_result im slice → slice' ≡ read_bytes im slice → ReadAnswer im slice e n slice' e
  answered-err n r k h b =
      let reply : n ≡ read_reply im slice = k ∙ ap (λ r. (answer_of r).number) h ∙ read-told im slice in
      record { reply = reply; bytes = b; end = grind arith }
