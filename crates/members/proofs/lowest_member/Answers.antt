-- `members::lowest_member` meets its contract. Assumes nothing.
use mathlib.Core.Path.{sym, ◌∙◌}
use native.Mathlib.Numerals.{add-one}
use native.Mathlib.Omega.{arith}
use Rattle.members.proofs.Lowest.{trailing-lowest, empty-lowest}
use Rattle.members.proofs.lowest_member.Goals as goal

pub returns-then-m-eq0 : goal.returns-then-m-eq0
returns-then-m-eq0 c = rw c.if-m-eq0.true (sym (empty-lowest 16))

pub returns : goal.returns
returns c = add-one _ ∙ trailing-lowest 16 c.args.m (omega arith) (omega arith)
