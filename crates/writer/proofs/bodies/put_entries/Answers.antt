-- `writer::bodies::put_entries` meets its contract. Assumes nothing.
use borrow.Author.Rules.{rules}
use Rattle.writer.proofs.BodyWriteLaws.{paired_none, paired-more, paired-last}
use Rattle.writer.proofs.bodies.put_entries.Goals as goal

pub loop-p-init : goal.loop-p-init
loop-p-init c = search (rules, paired_none)

pub loop-p-preserved : goal.loop-p-preserved
loop-p-preserved c = search (rules, paired-more)

pub returns-2 : goal.returns-2
returns-2 c = search (rules, paired-last)
