-- `members::all_meet` meets its contract: a set that is not empty has 1 to 16 servers. Assumes nothing.
use native.Mathlib.Omega.{arith}
use lib.Count.{ones-le}
use Rattle.members.proofs.Masks.{ones_pos}
use Rattle.members.proofs.all_meet.Goals as goal

pub least_shared-least-requires : goal.least_shared-least-requires
least_shared-least-requires c = let a = c.args.a in
    let b = c.args.b in
    omega (arith, ones_pos a (omega arith), ones-le 16 a (omega arith), ones_pos b (omega arith), ones-le 16 b (omega arith))
