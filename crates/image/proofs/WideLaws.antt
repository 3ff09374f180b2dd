-- The width of a table's entries, and its bakes. Assumes nothing.
use Prim.Native.Nat.{ℕ, ◌≤◌}
use native.Mathlib.Omega.{arith}
use mathlib.Core.Bool.{Bool, true, false, cond}
use mathlib.Core.Path.{◌≡◌, refl}
use Rattle.words.specs.Lists.{every}
use Rattle.words.proofs.Tests.{Passes}
use Rattle.algorithm.specs.Table.{Table}
use Rattle.image.specs.Image.{unbaked, wide}

pub wide-most : (t : Table) → wide t ≤ 1
unfolding wide
wide-most t = go (every unbaked t.servers)
  where
    go : (b : Bool) → cond b 0 1 ≤ 1
    go true = omega arith
    go false = omega arith

pub narrow-unbaked : (t : Table) → wide t ≡ 0 → Passes (every unbaked t.servers)
unfolding wide
narrow-unbaked t = go (every unbaked t.servers)
  where
    go : (b : Bool) → ◌≡◌ {A = ℕ} (cond b 0 1) 0 → Passes b
    go true e = record { yes = tt }
    go false e = absurd (omega arith)

pub unbaked-narrow : (t : Table) → Passes (every unbaked t.servers) → wide t ≡ 0
unfolding wide
unbaked-narrow t = go (every unbaked t.servers)
  where
    go : (b : Bool) → Passes b → ◌≡◌ {A = ℕ} (cond b 0 1) 0
    go true h = refl
    go false h = absurd h.yes
