-- `report::parts::put_copies` meets its contract. Assumes nothing.
use borrow.Author.Rules.{rules}
use Rattle.report.proofs.LineLaws.{no_copies, copies-shown}
use Rattle.report.proofs.parts.put_copies.Goals as goal

pub returns-then-copied-eq0 : goal.returns-then-copied-eq0
returns-then-copied-eq0 c = search (rules, no_copies)

pub returns : goal.returns
returns c = search (rules, copies-shown)
