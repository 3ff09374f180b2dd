-- Laws of a stretch copied by one fetch after another, of which only the first is judged. Assumes nothing.
use Prim.Native.Nat.{ℕ, ◌+◌, ◌-◌, ◌≤◌, ◌<◌, min}
use native.Mathlib.Omega.{arith}
use mathlib.Core.Path.{◌≡◌, refl, sym, ap, ◌∙◌}
use mathlib.Core.List.{List}
use lib.Dec.{ltb}
use lib.ListN.{length}
use Rattle.words.specs.Lists.{every}
use Rattle.words.specs.Refusal.{first}
use Rattle.words.proofs.Lists.{length-replace}
use Rattle.words.proofs.RefusalLaws.{none-hold}
use Rattle.words.proofs.Tests.{together, both-refuted, less, is-at-most}
use Rattle.algorithm.specs.Table.{Table, count, server, positions}
use Rattle.algorithm.specs.Actions.{joins, fetch_refusals, fetch_after, fetches}
use Rattle.algorithm.proofs.Fetches.{Joined, may-join, left-on, fetches-next, copied_is, fetches-min}
use Rattle.table.specs.Layout.{table_in}
use Rattle.table.specs.Slice.{Holds, Held, Became, Within}
use Rattle.table.proofs.HeldLaws.{its-table, its-room, held}

-- where a fetch is taken, j's log is not shorter
pub not-shorter : (t : Table) (i j x y : ℕ) → first (fetch_refusals t i j) ≡ 0 → x ≡ length (server t j).log → y ≡ length (server t i).log → y ≤ x
unfolding every
not-shorter t i j x y z e f =
    let l = (server t i).log in
    let m = (server t j).log in
    let longer : length l < length m =
    less (both-refuted {a = ltb (length l) (length m)} {b = joins l m} (none-hold (fetch_refusals t i j) tt z 20)).0 in
    omega arith

-- k entries are copied from the slice b₀ on
abbrev pub Copying : List ℕ → ℕ → ℕ → List ℕ → ℕ → Type 0
Copying b₀ i j b k = Became b₀ b (fetches k (table_in b₀) i j).table

pub copying-none : (b : List ℕ) (i j : ℕ) → Held b → Copying b i j b 0
unfolding fetches
copying-none b i j h = record { holds = h; held = h; same = refl }

-- the servers stay
pub still-within : (b₀ : List ℕ) (i j : ℕ) (b : List ℕ) (k s : ℕ) → Copying b₀ i j b k → Within (table_in b₀) s → Within (table_in b) s
still-within b₀ i j b k s h w = record { some = w.some; known = omega (arith, w.known, h.same) }

module _ (b₀ : List ℕ) (i j : ℕ) (w : Within (table_in b₀) i) (z : first (fetch_refusals (table_in b₀) i j) ≡ 0) where
  joins-on : Joined (table_in b₀) i j (length (server (table_in b₀) j).log - length (server (table_in b₀) i).log)
  unfolding every
  joins-on = may-join (table_in b₀) i j (together (is-at-most w.some) (is-at-most w.known)) (none-hold (fetch_refusals (table_in b₀) i j) tt z)

  -- of c entries, or all that are left, k are copied
  module _ (c n x y : ℕ) (all : n ≡ min c (x - y)) (long : x ≡ length (server (table_in b₀) j).log) (short : y ≡ length (server (table_in b₀) i).log) where
    joins-all : Joined (table_in b₀) i j (x - y)
    joins-all = rw (long, short) joins-on

    module _ (b : List ℕ) (k : ℕ) (h : Copying b₀ i j b k) where
      -- an entry is left, and there is room for it
      pub copying-room : k < n → length (server (table_in b) i).log < positions
      copying-room less =
          let left : Joined (table_in b) i j (x - y - k) = rw (its-table h.holds) (left-on i j k (x - y - k) (x - y) (table_in b₀) (omega arith) joins-all) in
          omega (arith, left.longer, (its-room j h.held).short)

      pub copying-more : (b' : List ℕ) → k < n → Holds b' (fetch_after (table_in b) i j) → Copying b₀ i j b' (k + 1)
      copying-more b' less g =
          let same : fetch_after (table_in b) i j ≡ (fetches (k + 1) (table_in b₀) i j).table =
          ap (λ (s : Table). fetch_after s i j) (its-table h.holds) ∙ sym (fetches-next i j k (x - y) (table_in b₀) (omega arith) joins-all) in
          record { holds = rw same at g; held = held g; same = ap count (its-table g) ∙ length-replace (table_in b).servers i _ ∙ h.same }

      pub copying-all : k ≤ n → n ≤ k → Holds b (fetches c (table_in b₀) i j).table
      copying-all l m =
          let whole : k ≡ min c (x - y) = omega arith in
          rw (← fetches-min i j c (x - y) (table_in b₀) joins-all, ← whole) h.holds

    pub copying-count : n ≡ (fetches c (table_in b₀) i j).copied
    copying-count = all ∙ sym (copied_is i j c (x - y) (table_in b₀) joins-all)
