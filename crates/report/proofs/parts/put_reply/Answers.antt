-- `report::parts::put_reply` meets its contract. Assumes nothing.
use borrow.Author.Rules.{rules}
use Rattle.report.proofs.LineLaws.{taken, refused}
use Rattle.report.proofs.parts.put_reply.Goals as goal

pub returns-then-number-eq0 : goal.returns-then-number-eq0
returns-then-number-eq0 c = search (rules, taken)

pub returns : goal.returns
returns c = search (rules, refused)
