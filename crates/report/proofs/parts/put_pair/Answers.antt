-- `report::parts::put_pair` meets its contract. Assumes nothing.
use borrow.Author.Rules.{rules}
use Rattle.report.proofs.LineLaws.{no-pair, pair-shown}
use Rattle.report.proofs.parts.put_pair.Goals as goal

pub returns-then-old-eq0 : goal.returns-then-old-eq0
returns-then-old-eq0 c = search (rules, no-pair)

pub returns : goal.returns
returns c = search (rules, pair-shown)
