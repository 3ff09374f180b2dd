-- `members::apart::lowest_servers` meets its contract. Assumes nothing.
use borrow.Author.Rules.{rules}
use mathlib.Core.Path.{refl}
use native.Mathlib.Omega.{arith}
use Rattle.members.specs.Members.{mask}
use Rattle.members.specs.Rules.{is_low}
use Rattle.members.proofs.Masks.{mask_lt}
use Rattle.members.proofs.Lowest.{low-next}
use Rattle.members.proofs.apart.lowest_servers.Goals as goal

pub loop-i-init : goal.loop-i-init
unfolding mask
loop-i-init c = refl

pub with_next-q-requires : goal.with_next-q-requires
with_next-q-requires c = omega (arith, mask_lt c.loop-i.i (is_low c.args.k c.args.m))

pub loop-i-preserved : goal.loop-i-preserved
loop-i-preserved c = search (rules, low-next)
