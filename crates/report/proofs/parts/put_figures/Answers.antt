-- `report::parts::put_figures` meets its contract. Assumes nothing.
use borrow.Author.Rules.{rules}
use Rattle.buffer.proofs.FieldLaws.{six-fields}
use Rattle.report.proofs.parts.put_figures.Goals as goal

pub returns : goal.returns
returns c = search (rules, six-fields)
