-- `report::parts::put_role` meets its contract. Assumes nothing.
use borrow.Author.Rules.{rules}
use Rattle.report.proofs.LineLaws.{primary, secondary}
use Rattle.report.proofs.parts.put_role.Goals as goal

pub returns-then-role-eq-PRIMARY : goal.returns-then-role-eq-PRIMARY
returns-then-role-eq-PRIMARY c = search (rules, primary)

pub returns : goal.returns
returns c = search (rules, secondary)
