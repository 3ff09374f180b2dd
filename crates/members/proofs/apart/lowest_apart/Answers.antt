-- `members::apart::lowest_apart` meets its contract. Assumes nothing.
use native.Mathlib.Omega.{arith}
use Rattle.words.proofs.Tests.{false-fails}
use Rattle.members.proofs.Masks.{ones_pos}
use Rattle.members.proofs.Pairs.{pair_found}
use Rattle.members.proofs.apart.lowest_apart.Goals as goal

pub overflow_sub-b : goal.overflow_sub-b
overflow_sub-b c = omega (arith, ones_pos c.args.b (omega arith))

pub returns : goal.returns
returns c =
    pair_found c.args.a c.args.b (omega arith) (omega arith) (false-fails c.requires.b_value) 16 _ _ (omega arith) (omega arith)
    c.lowest_servers-spared.ensures c.lowest_servers-old.ensures c.lowest_servers-new.ensures
