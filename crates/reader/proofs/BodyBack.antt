-- The bodies of a table that breaks no rule are read back as its marks and its servers. Assumes nothing.
use Prim.Native.Nat.{ℕ, zero, suc, ◌/◌, ◌%◌, ◌≤◌, ◌<◌}
use native.Mathlib.Omega.{arith}
use mathlib.Core.Path.{◌≡◌, refl, ap, sym, subst, ◌∙◌}
use mathlib.Core.Bool.{Bool, ◌||◌}
use mathlib.Core.List.{List, [], ◌∷◌}
use lib.Dec.{leb, eqb, le→leb}
use lib.ListN.{length}
use borrow.Author.Tests.{ne_eqb}
use Rattle.words.proofs.Tests.{Passes, together}
use Rattle.words.specs.Lists.{nth, every, between}
use Rattle.algorithm.specs.Table.{Server, ceiling, positions, sound_server, kept, trimmed}
use Rattle.words.proofs.Lists.{every-cons, cons-every}
use Rattle.algorithm.proofs.Sound.{SoundServer, server-sound}
use Rattle.words.specs.Words.{word_of, words}
use Rattle.words.proofs.WordLaws.{words-bytes, words-between}
use Rattle.table.specs.Layout.{padded}
use Rattle.image.specs.Contents.{marks_in, server_in, sound_marks_body, sound_server_body}
use Rattle.image.specs.Image.{unbaked, marks_body, log_words, server_body}
use Rattle.image.proofs.ImageLaws.{half_back}
use Rattle.image.proofs.LogLaws.{log-small, log_back}

-- ---- marks without the 0 at their end

-- padded, they are the marks again
padded-kept : (k m : ℕ) (l : List ℕ) → padded (suc k) (kept m l) ≡ m ∷ padded k l
unfolding padded
padded-kept k zero [] = refl
padded-kept k (suc m) [] = refl
padded-kept k m (x ∷ l) = refl

padded-trimmed : (ms : List ℕ) → padded (length ms) (trimmed ms) ≡ ms
unfolding trimmed padded
padded-trimmed [] = refl
padded-trimmed (m ∷ ms) = padded-kept (length ms) m (trimmed ms) ∙ ap (λ (l : List ℕ). m ∷ l) (padded-trimmed ms)

length-kept : (m : ℕ) (l : List ℕ) → length (kept m l) ≤ suc (length l)
length-kept zero [] = omega arith
length-kept (suc m) [] = omega arith
length-kept m (x ∷ l) = omega arith

pub length-trimmed : (ms : List ℕ) → length (trimmed ms) ≤ length ms
unfolding trimmed
length-trimmed [] = omega arith
length-trimmed (m ∷ ms) = omega (arith, length-kept m (trimmed ms), length-trimmed ms)

-- none, or the last is not 0
abbrev ends : List ℕ → Bool
ends w = eqb (length w) 0 || leb 1 (nth w (length w) 0)

ends-kept : (m : ℕ) (l : List ℕ) → Passes (ends l) → Passes (ends (kept m l))
unfolding nth
ends-kept zero [] h = h
ends-kept (suc m) [] h = record { yes = le→leb 1 (suc m) (omega arith) }
ends-kept m (x ∷ l) h =
    rw (ne_eqb (suc (suc (length l))) 0 (omega arith)) (rw (ne_eqb (suc (length l)) 0 (omega arith)) at h)

ends-trimmed : (ms : List ℕ) → Passes (ends (trimmed ms))
unfolding trimmed
ends-trimmed [] = record { yes = tt }
ends-trimmed (m ∷ ms) = ends-kept m (trimmed ms) (ends-trimmed ms)

low-kept : (m : ℕ) (l : List ℕ) → Passes (between 0 ceiling m) → Passes (every (between 0 ceiling) l) → Passes (every (between 0 ceiling) (kept m l))
low-kept zero [] h k = k
low-kept (suc m) [] h k = cons-every (between 0 ceiling) (suc m) [] h k
low-kept m (x ∷ l) h k = cons-every (between 0 ceiling) m (x ∷ l) h k

low-trimmed : (ms : List ℕ) → Passes (every (between 0 ceiling) ms) → Passes (every (between 0 ceiling) (trimmed ms))
unfolding trimmed
low-trimmed [] h = h
low-trimmed (m ∷ ms) h =
    let (here, rest) = every-cons (between 0 ceiling) m ms h in
    low-kept m (trimmed ms) here (low-trimmed ms rest)

module _ (ms : List ℕ) (low : Passes (every (between 0 ceiling) ms)) where
  words-marks : words (marks_body ms) ≡ trimmed ms
  words-marks = words-bytes (trimmed ms) (words-between 0 ceiling (omega arith) (trimmed ms) (low-trimmed ms low))

  pub marks-back : length ms ≡ positions → marks_in (marks_body ms) ≡ ms
  marks-back full = rw (words-marks, ← full) (padded-trimmed ms)

  pub marks-pass : Passes (sound_marks_body (marks_body ms))
  marks-pass =
      rw words-marks (together {a = every (between 0 ceiling) (trimmed ms)} (low-trimmed ms low) (ends-trimmed ms))

-- ---- a server

-- the numbers of four bytes in a server's body
abbrev numbers : ℕ → Server → List ℕ
numbers w s = s.term ∷ s.config.version ∷ s.config.term ∷ log_words w s.log

module _ (n w : ℕ) (s : Server) (h : Passes (sound_server n s)) (small : s.config.set < 65536) (bare : w ≡ 0 → Passes (unbaked s)) where
  rules : SoundServer n s
  rules = server-sound h

  words-server : words (server_body w s)
      ≡ word_of s.role 0 (s.config.set % 256) (s.config.set / 256 % 256) ∷ numbers w s
  unfolding words
  words-server =
      ap (λ (l : List ℕ). word_of s.role 0 (s.config.set % 256) (s.config.set / 256 % 256) ∷ l)
      (words-bytes (numbers w s) (omega (arith, rules.term), (omega (arith, rules.config.version), (omega (arith, rules.config.term), log-small w s.log rules.entries))))

  pub server-back : server_in w (server_body w s) ≡ s
  server-back = rw (words-server, half_back s.config.set small, log_back w s.log bare)

  pub server-pass : Passes (sound_server_body n w (server_body w s))
  server-pass = together {a = eqb 0 0} (record { yes = tt }) (subst (λ (x : Server). Passes (sound_server n x)) (sym server-back) h)
