-- What the check answers of a slice is whether it is whole. Assumes nothing.
use Prim.Native.Nat.{ℕ, ◌≤◌, ◌<◌}
use native.Mathlib.Omega.{arith}
use mathlib.Core.Path.{◌≡◌, refl, ap, sym, ◌∙◌}
use mathlib.Core.Bool.{Bool, true, false, ◌&&◌}
use mathlib.Core.List.{List}
use mathlib.Core.Logic.{◌⊎◌, ⊎_elim}
use lib.Dec.{eqb}
use lib.ListN.{length, get_or}
use borrow.Author.Tests.{ne_eqb}
use Rattle.words.proofs.Tests.{Passes, together, is-equal, is_true}
use Rattle.algorithm.proofs.Sound.{SoundTable, table-sound, sound-table}
use Rattle.words.specs.Words.{words, bytes}
use Rattle.words.proofs.WordLaws.{length-words, bytes-words, words_small}
use Rattle.table.specs.Layout.{table_bytes, layout, stored, table_of, table_in, same, whole, table_words}
use Rattle.table.specs.Slice.{Held}
use Rattle.table.proofs.RowLaws.{count-read}
use Rattle.whole.specs.Check.{sound_words}
use Rattle.whole.proofs.WholeLaws.{words-pass, words_back}
use Rattle.whole.proofs.Determined.{same_self, whole-held, whole-sound}
use Rattle.algorithm.specs.Table.{most_servers}

-- two tests of which each passes with the other
tell-same : (a b : Bool) → (Passes a → Passes b) → (Passes b → Passes a) → a ≡ b
tell-same true true f g = refl
tell-same true false f g = absurd (f (record { yes = tt })).yes
tell-same false true f g = absurd (g (record { yes = tt })).yes
tell-same false false f g = refl

pub other_length : (b : List ℕ) → (length b ≡ table_bytes → ⊥) → false ≡ whole b
unfolding whole
other_length b h = rw (ne_eqb (length b) table_bytes h)

-- bytes whose words are laid out as the table in them, a sound one, are whole
whole-table : (b : List ℕ) → length b ≡ table_bytes → bytes (words b) ≡ b → layout (table_of (words b)) ≡ words b → SoundTable (table_of (words b))
    → Passes (whole b)
unfolding whole stored table_in
whole-table b sized e laid s =
    let mine : b ≡ stored (table_in b) = sym e ∙ ap bytes (sym laid) in
    together {a = eqb (length b) table_bytes && same b (stored (table_in b))}
    (together {a = eqb (length b) table_bytes} (is-equal sized) (rw (← mine) (same_self b)))
    (record { yes = (sound-table s).no })

-- a whole slice holds a table that breaks no rule
record Kept (b : List ℕ) : Type 0 where
  held : Held b
  sound : SoundTable (table_in b)

kept : (b : List ℕ) → Passes (whole b) → Kept b
kept b h =
    let w = is_true (whole b) h.yes in
    record { held = whole-held b w; sound = table-sound (record { no = rw (whole-sound b w) tt }) }

module _ (b : List ℕ) (n : ℕ) (first : n ≡ get_or (words b) 0 0) where
  -- what a whole slice says of its first word
  counted : Passes (whole b) → (1 ≤ n) × (n ≤ most_servers)
  counted h =
      let k = kept b h in
      let e = count-read b (table_in b) k.held refl n first in
      (omega (arith, k.sound.some), omega (arith, k.sound.few))

  pub miscounted : (n ≡ 0) ⊎ ((n ≡ 0 → ⊥) × (most_servers < n)) → false ≡ whole b
  miscounted e =
      tell-same false (whole b) (λ h. absurd h.yes)
      (λ h. let (some, few) = counted h in ⊎_elim (λ none. absurd (omega arith)) (λ (_, many). absurd (omega arith)) e)

  pub answer : (r : Bool) → ((i : ℕ) → get_or b i 0 < 256) → length b ≡ table_bytes → (n ≡ 0 → ⊥) → n ≤ most_servers → r ≡ sound_words n (words b) → r ≡ whole b
  answer r bytewise sized some few e = e ∙ tell-same (sound_words n (words b)) (whole b) whole_by by_whole
    where
      size : length (words b) ≡ table_words
      size = omega (arith, length-words b)

      whole_by : Passes (sound_words n (words b)) → Passes (whole b)
      whole_by h =
          let (laid, s) = words_back n (words b) size (words_small b bytewise) first (omega arith) few h in
          whole-table b sized (bytes-words b table_words sized bytewise) laid s

      by_whole : Passes (whole b) → Passes (sound_words n (words b))
      by_whole h =
          let k = kept b h in
          rw (count-read b (table_in b) k.held refl n first, k.held.laid) (words-pass k.sound)
