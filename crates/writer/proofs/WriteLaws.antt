-- What the writer answers. Assumes nothing.
use Prim.Native.Nat.{ℕ, zero, suc, ◌≤◌, ◌<◌}
use native.Mathlib.Nat.{zero-add}
use native.Mathlib.Omega.{arith}
use mathlib.Core.Path.{◌≡◌, refl, ap, sym, ◌∙◌}
use mathlib.Core.Bool.{Bool, true, false, not}
use mathlib.Core.List.{List, [], ◌∷◌, ◌++◌}
use mathlib.Core.Logic.{⊎_elim}
use lib.ListN.{length, drop}
use borrow.Author.Tests.{le-ltb, not-false}
use Rattle.words.proofs.Tests.{Passes}
use Rattle.algorithm.specs.Table.{Server, absent, sound_server}
use Rattle.words.specs.Lists.{nth, every}
use Rattle.words.specs.Refusal.{first}
use Rattle.words.proofs.RefusalLaws.{given-each}
use Rattle.std.specs.Prelude.{Ok, Err}
use Rattle.algorithm.specs.declared.Refused.{Refused}
use Rattle.algorithm.specs.Run.{told, answer_of}
use Rattle.words.proofs.Lists.{every-cons}
use Rattle.algorithm.proofs.Sound.{server-sound, table-sound}
use Rattle.table.specs.Layout.{table_in, whole}
use Rattle.whole.proofs.Determined.{whole-held, whole-sound}
use Rattle.buffer.specs.Buffer.{Wrote}
use Rattle.reader.proofs.ReplyLaws.{Told}
use Rattle.writer.specs.Writer.{Savable, image_of, writer_refusals, write_reply, write_result, write_bytes, WriteAnswer}

-- ---- a whole table

roles-small : (n : ℕ) (ss : List Server) (i : ℕ) → Passes (every (sound_server n) ss) → (nth ss i absent).role < 256
unfolding nth
roles-small n ss zero h = omega arith
roles-small n [] (suc i) h = omega arith
roles-small n (s ∷ ss) (suc zero) h =
    let (here, _) = every-cons (sound_server n) s ss h in
    ⊎_elim (λ (e, _). omega (arith, e)) (λ e. omega (arith, e)) (server-sound {n = n} {s = s} here).role
roles-small n (s ∷ ss) (suc (suc i)) h = roles-small n ss (suc i) (every-cons (sound_server n) s ss h).1

pub savable : (b : List ℕ) (w : Bool) → w ≡ whole b → not w ≡ false → Savable b
savable b w e h =
    let yes : whole b ≡ true = sym e ∙ not-false w h in
    let sound = table-sound {t = table_in b} (record { no = rw (whole-sound b yes) tt }) in
    record {
      held = whole-held b yes;
      roles = λ s. roles-small _ (table_in b).servers s sound.servers;
      rule = omega (arith, sound.rule);
      floor = omega (arith, sound.floor);
    }

-- ---- the buffer

pub written : (slice buffer buffer' : List ℕ) (r : ℕ) → Wrote buffer buffer' 0 (image_of slice) r
    → (r ≡ length (image_of slice)) × (buffer' ≡ image_of slice ++ drop (length (image_of slice)) buffer)
written slice buffer buffer' r w =
    let all : r ≡ length (image_of slice) = w.end ∙ zero-add (length (image_of slice)) in
    (all, w.bytes ∙ rw all)

pub written-reply : (slice buffer : List ℕ) → whole slice ≡ true → length (image_of slice) ≤ length buffer → 0 ≡ write_reply slice buffer
unfolding write_reply first
written-reply slice buffer h l = rw (h, le-ltb (length buffer) (length (image_of slice)) l)

-- ---- what is answered, as a result or as a number and an end

write-told : (slice buffer : List ℕ) → (answer_of (write_result slice buffer)).number ≡ write_reply slice buffer
unfolding write_reply
write-told slice buffer = given-each Told (writer_refusals slice buffer) (λ z. refl) (λ _ z. refl, (λ _ z. refl, tt)) (length (image_of slice))

module _ (slice buffer buffer' : List ℕ) (e : ℕ) where
  pub answered-ok : (place : ℕ) → Ok place ≡ write_result slice buffer → buffer' ≡ write_bytes slice buffer → WriteAnswer slice buffer e 0 buffer' place
  answered-ok place h b =
      let reply : 0 ≡ write_reply slice buffer = ap (λ r. (answer_of r).number) h ∙ write-told slice buffer in
      record { reply = reply; bytes = b; end = grind arith }

  pub answered-err : (n : ℕ) (r : Refused) → n ≡ (told r).number → Err r ≡ write_result slice buffer → buffer' ≡ write_bytes slice buffer
      → WriteAnswer slice buffer e n buffer' e
  answered-err n r k h b =
      let reply : n ≡ write_reply slice buffer = k ∙ ap (λ r. (answer_of r).number) h ∙ write-told slice buffer in
      record { reply = reply; bytes = b; end = grind arith }
