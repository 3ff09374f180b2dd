-- `report::bad_site_line` meets its contract. Assumes nothing.
use borrow.Author.Rules.{rules}
use Rattle.report.proofs.LineLaws.{bad-site}
use Rattle.report.proofs.bad_site_line.Goals as goal

pub returns : goal.returns
returns c = search (rules, bad-site)
