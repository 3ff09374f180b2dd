-- A table that breaks no rule has room in the slice, and each of its words is a number of four bytes. Assumes nothing.
use Prim.Native.Nat.{ℕ, zero, suc, ◌^◌, ◌≤◌, ◌<◌}
use native.Mathlib.Omega.{arith}
use mathlib.Core.Path.{◌≡◌, refl, subst}
use mathlib.Core.Bool.{Bool, true, false, ◌||◌, ◌&&◌, and-true}
use mathlib.Core.Logic.{⊎_elim}
use mathlib.Core.List.{List, [], ◌∷◌, ◌++◌}
use lib.Dec.{leb, ltb, leb-zero}
use lib.ListN.{length, replicate}
use lib.Pow.{pow_mono}
use Rattle.members.specs.Members.{within}
use borrow.Author.Tests.{le-leb}
use Rattle.words.proofs.Tests.{Passes, both, less, at_most}
use Rattle.words.specs.Lists.{every, between}
use Rattle.algorithm.specs.Table.{Log, Server, Table, primary, secondary, with_log, ceiling, largest_bake, sound_config, sound_entry, sound_server, positions, most_servers}
use Rattle.words.proofs.Lists.{every-cons}
use Rattle.algorithm.proofs.Sound.{SoundServer, SoundTable, server-sound}
use Rattle.words.proofs.WordLaws.{FourBytes, words_append, words-zeros, words-between}
use Rattle.table.specs.Layout.{padded, terms, bakes, row, head, rows, layout, row_words}
use Rattle.table.specs.Slice.{AllRoomy, Shaped}

-- ---- the rules as tests of numbers

-- a server is sound by its figures, its log's length and its entries
apart : (x d e : Bool) → (x && d && e) ≡ (x && true && true && d && e)
apart true d e = refl
apart false d e = refl

pub server-parts : (n : ℕ) (s : Server)
    → sound_server n s ≡ (sound_server n (with_log [] s) && leb (length s.log) positions && every sound_entry s.log)
unfolding every
server-parts n s =
    apart
    ((primary s && leb 1 s.term || secondary s) && leb s.term ceiling && sound_config n s.config)
    (leb (length s.log) positions)
    (every sound_entry s.log)

-- an entry whose bake is a number of four bytes is sound by its term
pub terms-sound : (l : Log) → FourBytes (bakes l) → every sound_entry l ≡ every (between 1 ceiling) (terms l)
unfolding every
terms-sound [] h = refl
terms-sound (e ∷ l) h = rw (le-leb e.bake largest_bake (omega arith), and-true, terms-sound l h.1)

pub marks-sound : (ms : List ℕ) → every (λ m. leb m ceiling) ms ≡ every (between 0 ceiling) ms
unfolding every
marks-sound [] = refl
marks-sound (m ∷ ms) = rw (leb-zero m, marks-sound ms)

-- ---- the figures of a sound server

words-padded : (k : ℕ) (l : List ℕ) → FourBytes l → FourBytes (padded k l)
unfolding padded
words-padded zero l h = tt
words-padded (suc k) [] h = (omega arith, words-padded k [] tt)
words-padded (suc k) (x ∷ l) h = (h.0, words-padded k l h.1)

pub words-bakes : (l : Log) → Passes (every sound_entry l) → FourBytes (bakes l)
words-bakes [] h = tt
words-bakes (e ∷ l) h =
    let (here, rest) = every-cons sound_entry e l h in
    (omega (arith, at_most {a = e.bake} (both {a = between 1 ceiling e.term} here).1), words-bakes l rest)

pub words-terms : (l : Log) → Passes (every sound_entry l) → FourBytes (terms l)
words-terms l h = words-between 1 ceiling (omega arith) (terms l) (subst Passes (terms-sound l (words-bakes l h)) h)

words-log : (l : Log) → Passes (every sound_entry l) → FourBytes (padded positions (terms l) ++ padded positions (bakes l))
words-log l h =
    words_append (padded positions (terms l)) (padded positions (bakes l))
    (words-padded positions (terms l) (words-terms l h))
    (words-padded positions (bakes l) (words-bakes l h))

module _ {n : ℕ} (few : n ≤ most_servers) where
  small : (m : ℕ) → Passes (within m n) → m < 65536
  small m h = omega (arith, less {a = m} {b = 2 ^ n} (both {a = ltb 0 m} h).1, pow_mono {i = n} {j = most_servers} few)

  all-roomy : (ss : List Server) → Passes (every (sound_server n) ss) → AllRoomy ss
  all-roomy [] h = tt
  all-roomy (s ∷ ss) h =
      let (here, rest) = every-cons (sound_server n) s ss h in
      let k = server-sound {n = n} {s = s} here in
      (record { short = k.short; small = small s.config.set k.config.set }, all-roomy ss rest)

  words_row : (s : Server) → SoundServer n s → FourBytes (row s)
  words_row s h = (
    ⊎_elim (λ (e, _). omega (arith, e)) (λ e. omega (arith, e)) h.role,
    (
      omega (arith, h.term),
      (
        omega (arith, small s.config.set h.config.set),
        (
          omega (arith, h.config.version),
          (omega (arith, h.config.term), (omega (arith, h.short), words-log s.log h.entries)),
        ),
      ),
    ),
  )

  words-rows : (k : ℕ) (ss : List Server) → Passes (every (sound_server n) ss) → FourBytes (rows k ss)
  unfolding rows
  words-rows zero ss h = tt
  words-rows (suc k) [] h = words_append (replicate row_words 0) (rows k []) (words-zeros row_words) (words-rows k [] h)
  words-rows (suc k) (s ∷ ss) h =
      let (here, rest) = every-cons (sound_server n) s ss h in
      words_append (row s) (rows k ss) (words_row s (server-sound {s = s} here)) (words-rows k ss rest)

-- ---- a sound table

pub sound-shaped : {t : Table} → SoundTable t → Shaped t
sound-shaped {t} s = record { few = s.few; roomy = all-roomy s.few t.servers s.servers; marked = s.full }

pub words-layout : {t : Table} → SoundTable t → FourBytes (layout t)
unfolding layout
words-layout {t} s =
    let marks = words-between 0 ceiling (omega arith) t.marks (subst Passes (marks-sound t.marks) s.marks) in
    let top = words_append (padded positions t.marks) (replicate positions 0) (words-padded positions t.marks marks) (words-zeros positions) in
    words_append (head t) (rows most_servers t.servers)
    (omega (arith, s.few), (omega (arith, s.rule), (omega (arith, s.floor), (omega arith, (omega arith, (omega arith, top))))))
    (words-rows s.few most_servers t.servers s.servers)
