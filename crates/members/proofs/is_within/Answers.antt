-- `members::is_within` meets its contract. Assumes nothing.
use mathlib.Core.Path.{sym, ◌∙◌}
use Prim.Native.Nat.{◌^◌}
use native.Mathlib.Omega.{arith}
use lib.Pow.{pow_mono}
use borrow.Author.Tests.{lt-ltb, le-leb}
use Rattle.members.proofs.Masks.{none_above}
use Rattle.members.proofs.is_within.Goals as goal

pub returns-then-n-ge32 : goal.returns-then-n-ge32
returns-then-n-ge32 c = let n = c.args.n in
    let m = c.args.m in
    le-leb 32 n (omega arith)
    ∙ rw (lt-ltb 0 m (omega arith)) (sym (lt-ltb m (2 ^ n) (omega (arith, pow_mono {i = 32} {j = n} (omega arith)))))

pub returns-else-n-ge32 : goal.returns-else-n-ge32
returns-else-n-ge32 c = rw (lt-ltb 0 c.args.m (omega arith)) (none_above c.args.n c.args.m)
