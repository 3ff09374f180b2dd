-- `walk::found_at` meets its contract: each branch's test says which case of `found_at` holds.
-- The sum is taken where eight bytes are left, so it is at most the length and does not wrap.
-- Assumes nothing.
use borrow.Author.Tests.{le-leb, lt-leb}
use Rattle.walk.specs.Plan.{found_at}
use Rattle.walk.proofs.found_at.Goals as goal

pub returns-then-n-at : goal.returns-then-n-at
unfolding found_at
returns-then-n-at c = simp (le-leb _ _ c.if-n-at.true)

pub returns-then-n-at-ge8 : goal.returns-then-n-at-ge8
unfolding found_at
returns-then-n-at-ge8 c = simp (lt-leb _ _ c.if-n-at.false, le-leb _ _ c.if-n-at-ge8.true)

pub returns : goal.returns
unfolding found_at
returns c = simp (lt-leb _ _ c.if-n-at.false, lt-leb _ _ c.if-n-at-ge8.false)
