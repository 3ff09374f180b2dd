-- A place in a list of actions. Assumes nothing.
use Rattle.std.specs.Prelude.{ℕ, ◌+◌, ◌-◌, List, cond, length, leb}
use Rattle.walk.specs.declared.Found.{Found}
use Rattle.walk.specs.declared.Found.TheVariants.{Action, Cut, End}

-- what stands there: 8 bytes and the place behind them, fewer and the end, or nothing
unfoldable pub found_at : List ℕ → ℕ → Found
found_at p at = cond (leb (length p) at) End (cond (leb 8 (length p - at)) (Action (at + 8)) (Cut (length p)))

-- the place behind what is found at a place; behind nothing it is the place itself
abbrev pub place_behind : ℕ → Found → ℕ
place_behind at (Action e) = e
place_behind at (Cut e) = e
place_behind at End = at

-- where a walk goes on: the place behind what stands there
unfoldable pub behind : List ℕ → ℕ → ℕ
behind p at = place_behind at (found_at p at)
