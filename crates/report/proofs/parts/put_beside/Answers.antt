-- `report::parts::put_beside` meets its contract. Assumes nothing.
use borrow.Author.Rules.{rules}
use Rattle.report.proofs.LineLaws.{no-server, server-shown}
use Rattle.report.proofs.parts.put_beside.Goals as goal

pub returns-then-server-eq0 : goal.returns-then-server-eq0
returns-then-server-eq0 c = search (rules, no-server)

pub returns : goal.returns
returns c = search (rules, server-shown)
