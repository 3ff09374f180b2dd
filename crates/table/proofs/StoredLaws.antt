-- A table that breaks no rule and its bytes. Assumes nothing.
use Prim.Native.Nat.{ℕ, ◌<◌}
use native.Mathlib.Omega.{arith}
use mathlib.Core.Path.{◌≡◌, ap, sym, ◌∙◌}
use mathlib.Core.Bool.{false}
use mathlib.Core.List.{List}
use lib.ListN.{length, get_or}
use Rattle.algorithm.specs.Table.{Table, broken}
use Rattle.algorithm.proofs.Sound.{SoundTable, table-sound}
use Rattle.words.specs.Words.{bytes}
use Rattle.words.proofs.WordLaws.{length-bytes, bytes-words, words-bytes}
use Rattle.table.specs.Layout.{table_bytes, layout, stored, table_in, table_words}
use Rattle.table.specs.Slice.{Shaped, Holds, Became}
use Rattle.table.proofs.LayoutLaws.{length-layout}
use Rattle.table.proofs.HeldLaws.{its-table}
use Rattle.table.proofs.SoundLaws.{sound-shaped, words-layout}

pub stored-length : (t : Table) → length (stored t) ≡ table_bytes
unfolding stored
stored-length t = omega (arith, length-bytes (layout t), length-layout t)

module _ (t : Table) (h : broken t ≡ false) where
  rules : SoundTable t
  rules = table-sound (record { no = rw h tt })

  -- a table that breaks no rule has room in a slice
  pub its_shape : Shaped t
  its_shape = sound-shaped rules

  -- its bytes hold it
  pub stored-holds : Holds (stored t) t
  unfolding stored
  stored-holds = record { sized = stored-length t; laid = words-bytes (layout t) (words-layout rules); shaped = its_shape }

  -- they are read back as it
  pub stored-table : table_in (stored t) ≡ t
  stored-table = its-table stored-holds

-- a slice that holds a table has that table's bytes
pub held-stored : (b : List ℕ) (t : Table) → ((i : ℕ) → get_or b i 0 < 256) → Holds b t → b ≡ stored t
unfolding stored
held-stored b t f h = sym (bytes-words b table_words h.sized f) ∙ ap bytes h.laid

-- so two slices that hold one table are equal: what the functions promise of a slice leaves no freedom
pub holds-unique : (b b' : List ℕ) (t : Table) → ((i : ℕ) → get_or b i 0 < 256) → ((i : ℕ) → get_or b' i 0 < 256) → Holds b t → Holds b' t → b ≡ b'
holds-unique b b' t f g h k = held-stored b t f h ∙ sym (held-stored b' t g k)

-- and so are answers that are told beside them
pub told-unique : {A : Type 0} {r r' v : A} (b b' : List ℕ) (t : Table) → ((i : ℕ) → get_or b i 0 < 256) → ((i : ℕ) → get_or b' i 0 < 256)
    → (r ≡ v) × Holds b t → (r' ≡ v) × Holds b' t → (r ≡ r') × (b ≡ b')
told-unique b b' t f g (e, h) (d, k) = (e ∙ sym d, holds-unique b b' t f g h k)

pub became-unique : (b c c' : List ℕ) (t : Table) → ((i : ℕ) → get_or c i 0 < 256) → ((i : ℕ) → get_or c' i 0 < 256) → Became b c t → Became b c' t → c ≡ c'
became-unique b c c' t f g h k = holds-unique c c' t f g h.holds k.holds
