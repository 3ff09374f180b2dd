-- What the check's functions find out. Assumes nothing.
use Prim.Native.Nat.{ℕ, suc, ◌+◌, ◌-◌, ◌*◌, ◌≤◌, ◌<◌}
use native.Mathlib.Omega.{arith}
use mathlib.Core.Path.{◌≡◌, ap, sym, ◌∙◌}
use mathlib.Core.Bool.{Bool, true, false, and-true, and_assoc, ◌&&◌}
use mathlib.Core.List.{List, []}
use lib.ListN.{get_or, drop}
use lib.Seq.{get_or-drop, drop-drop}
use borrow.Author.Tests.{le-leb, lt-leb}
use Rattle.words.specs.Lists.{every, between, part}
use Rattle.algorithm.specs.Table.{with_log, ceiling, sound_server, sound_rule, sound_floor, positions, most_servers}
use Rattle.table.specs.Slice.{figured}
use Rattle.table.specs.declared.figures.Figures.{Figures}
use Rattle.table.specs.Layout.{server_of, row_words}
use Rattle.whole.specs.Check.{sound_row, sound_rows, sound_words}

-- ---- a row at a place

module _ (c : List ℕ) (at n : ℕ) where
  pub figures-at : (f : Figures) (r : Bool) → f.role ≡ get_or c (at + 0) 0 → f.term.0 ≡ get_or c (at + 1) 0 → f.set ≡ get_or c (at + 2) 0
      → f.version.0 ≡ get_or c (at + 3) 0 → f.config.0 ≡ get_or c (at + 4) 0 → r ≡ sound_server n (figured f [])
      → r ≡ sound_server n (with_log [] (server_of (drop at c)))
  unfolding server_of
  figures-at f r e₀ e₁ e₂ e₃ e₄ e =
      rw (
        get_or-drop at c 0 0,
        get_or-drop at c 1 0,
        get_or-drop at c 2 0,
        get_or-drop at c 3 0,
        get_or-drop at c 4 0,
        ← e₀,
        ← e₁,
        ← e₂,
        ← e₃,
        ← e₄,
      )
      e

  pub row-long : (k : ℕ) → k ≡ get_or c (at + 5) 0 → positions < k → false ≡ sound_row n (drop at c)
  unfolding sound_row
  row-long k e h = rw (get_or-drop at c 5 0, ← e, lt-leb k positions h)

  pub row_at : (k : ℕ) (f e z y : Bool) → k ≡ get_or c (at + 5) 0 → k ≤ positions → f ≡ sound_server n (with_log [] (server_of (drop at c)))
      → e ≡ every (between 1 ceiling) (part c (at + 6) k) → z ≡ every (between 0 0) (part c (at + (6 + k)) (positions - k))
      → y ≡ every (between 0 0) (part c (at + (6 + positions + k)) (positions - k)) → (f && e && z && y) ≡ sound_row n (drop at c)
  unfolding sound_row
  row_at k f e z y ek h ef ee ez ey =
      rw (
        get_or-drop at c 5 0,
        ← ek,
        le-leb k positions h,
        drop-drop 6 at c,
        drop-drop (6 + k) at c,
        drop-drop (6 + positions + k) at c,
        ← ef,
        ← ee,
        ← ez,
        ← ey,
      )

-- ---- a loop over rows

module _ (c : List ℕ) (n : ℕ) where
  -- what the rows after row k tell
  abbrev rest : ℕ → Bool
  rest k = sound_rows (n - k) n (drop (row_words * (k + 1)) c)

  -- the first k rows are tested: ok and the rest tell of all
  pub record RowsTested (k : ℕ) (ok : Bool) : Type 0 where
    pub tells : (ok && rest k) ≡ sound_rows n n (drop row_words c)

  pub rows_none : RowsTested 0 true
  rows_none =
      let all : n - 0 ≡ n = omega arith in
      record { tells = ap (λ (j : ℕ). sound_rows j n (drop row_words c)) all }

  pub rows_more : (k : ℕ) (ok r : Bool) → k < n → RowsTested k ok → r ≡ sound_row n (drop (row_words * (k + 1)) c) → RowsTested (k + 1) (ok && r)
  unfolding sound_rows
  rows_more k ok r h e f = record { tells = and_assoc ok r (rest (k + 1)) ∙ ap (λ (x : Bool). ok && x) (sym next) ∙ e.tells }
    where
      left : n - k ≡ suc (n - (k + 1))
      left = omega arith

      on : row_words * (k + 1) + row_words ≡ row_words * (k + 1 + 1)
      on = omega arith

      next : rest k ≡ (r && rest (k + 1))
      next = rw (left, drop-drop row_words (row_words * (k + 1)) c, on, ← f)

  pub rows_all : (k : ℕ) (ok : Bool) → k ≤ n → n ≤ k → RowsTested k ok → ok ≡ sound_rows n n (drop row_words c)
  unfolding sound_rows
  rows_all k ok l m e =
      let none : n - k ≡ 0 = omega arith in
      sym (and-true ok) ∙ ap (λ (j : ℕ). ok && sound_rows j n (drop (row_words * (k + 1)) c)) (sym none) ∙ e.tells

-- ---- the parts of a table's words

pub words-at : (c : List ℕ) (n w f : ℕ) (a b y r z : Bool) → w ≡ get_or c 1 0 → f ≡ get_or c 2 0 → a ≡ every (between 0 0) (part c 3 3)
    → b ≡ every (between 0 ceiling) (part c 6 positions) → y ≡ every (between 0 0) (part c (6 + positions) positions)
    → r ≡ sound_rows n n (drop row_words c) → z ≡ every (between 0 0) (part c (row_words * n + row_words) (row_words * most_servers - row_words * n))
    → (sound_rule w && sound_floor f && a && b && y && r && z) ≡ sound_words n c
unfolding sound_words
words-at c n w f a b y r z ew ef ea eb ey er ez = rw (ew, ef, ea, eb, ey, er, ez)
