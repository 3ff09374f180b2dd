-- `writer::put_contents` meets its contract. Assumes nothing.
use borrow.Author.Rules.{rules}
use Rattle.writer.proofs.PlaceLaws.{placed-none, placed-more, entered-none, entered-more, entered-last}
use Rattle.writer.proofs.put_contents.Goals as goal

pub loop-e-init : goal.loop-e-init
loop-e-init c = search (rules, placed-none, entered-none)

pub loop-e-preserved : goal.loop-e-preserved
loop-e-preserved c = search (rules, placed-more, entered-more)

pub returns-2 : goal.returns-2
returns-2 c = search (rules, entered-last)
