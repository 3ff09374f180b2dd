-- `members::sheet::least_shared` meets its contract: that the array is the rule's list is computed here. Assumes nothing.
use native.Mathlib.Omega.{arith}
use Rattle.members.proofs.SheetLaws.{entry}
use Rattle.members.proofs.sheet.least_shared.Goals as goal

pub returns : goal.returns
returns c = entry c.args.a c.args.b (omega arith) (omega arith) (omega arith) (omega arith)
