-- Slices that the engine can work on. Assumes nothing.
use Prim.Native.Nat.{ℕ}
use mathlib.Core.Bool.{true}
use mathlib.Core.List.{List}
use mathlib.Core.Path.{◌≡◌}
use Rattle.table.specs.Layout.{whole}
use Rattle.table.specs.Slice.{Held}
use Rattle.table.proofs.HeldLaws.{held}
use Rattle.whole.proofs.Determined.{whole-held, whole-sound}
use Rattle.engine.specs.Engine.{Ready, Played}

pub whole_ready : (b : List ℕ) → whole b ≡ true → Ready b
whole_ready b e = record { held = whole-held b e; sound = whole-sound b e }

-- a run leaves a table
pub played-held : (b p r : List ℕ) (k : ℕ) (b' r' : List ℕ) → Played b p r k b' r' → Held b'
played-held b p r k b' r' h = held h.table
