-- What the functions on a body find out. Assumes nothing.
use Prim.Native.Nat.{ℕ, zero, suc, ◌-◌, ◌/◌, ◌<◌}
use native.Mathlib.Numerals.{sub-one}
use native.Mathlib.Omega.{arith}
use mathlib.Core.Path.{◌≡◌, refl, ap, sym, ◌∙◌}
use mathlib.Core.Bool.{Bool, true, and-true, and_assoc, ◌&&◌}
use mathlib.Core.List.{List, []}
use lib.Dec.{leb, eqb}
use lib.ListN.{length, get_or}
use lib.Seq.{take_all}
use borrow.Author.Tests.{le-leb, ne_eqb}
use Rattle.words.specs.Lists.{nth, every, between, part}
use Rattle.algorithm.specs.Table.{with_log, ceiling, positions, sound_server}
use Rattle.table.specs.Layout.{terms}
use Rattle.table.specs.Slice.{figures_of, figured}
use Rattle.table.specs.declared.figures.Figures.{Figures}
use Rattle.words.specs.Words.{words}
use Rattle.words.proofs.WordLaws.{length-words}
use Rattle.table.proofs.SoundLaws.{server-parts, terms-sound}
use Rattle.image.specs.Contents.{server_in, sound_marks_body, sound_server_body, Sized}
use Rattle.image.proofs.LogLaws.{log-short, bakes-read}

-- ---- the marks

-- where a body has no word, it has no last mark either
pub no-marks : (b : List ℕ) → length b / 4 ≡ 0 → true ≡ sound_marks_body b
unfolding every
no-marks b h =
    let none : [] ≡ words b = take_all 0 (words b) (omega (arith, length-words b)) in
    rw (← none)

pub marks-tell : (b : List ℕ) (n v : ℕ) (ok : Bool) → n ≡ length b / 4 → (n ≡ 0 → ⊥) → ok ≡ every (between 0 ceiling) (part (words b) 0 n)
    → v ≡ get_or (words b) (n - 1) 0 → (ok && leb 1 v) ≡ sound_marks_body b
unfolding nth
marks-tell b zero v ok e some h l = absurd (some refl)
marks-tell b (suc k) v ok e some h l =
    let long : length (words b) ≡ suc k = length-words b ∙ sym e in
    rw (h, take_all (suc k) (words b) (omega arith), long, l, sub-one (suc k), ne_eqb (suc k) 0 (omega arith))

-- ---- a server

pub server-tells : (b : List ℕ) (n w : ℕ) (f : Figures) (r e : Bool) → ((i : ℕ) → get_or b i 0 < 256) → Sized w 1 b → f ≡ figures_of (server_in 0 b)
    → r ≡ sound_server n (figured f []) → e ≡ every (between 1 ceiling) (terms (server_in w b).log) → (eqb (get_or b 1 0) 0 && r && e) ≡ sound_server_body n w b
server-tells b n w f r e byte h hf hr he =
    let s = server_in w b in
    let short = le-leb (length s.log) positions (log-short b w h) in
    let spare = eqb (get_or b 1 0) 0 in
    let both : (r && e) ≡ sound_server n s =
    rw (server-parts n s, short, terms-sound s.log (bakes-read w b byte), hr, hf, he, and-true (sound_server n (with_log [] s))) in
    and_assoc spare r e ∙ ap (λ (x : Bool). spare && x) both
