-- `reader::fill::put_marks` meets its contract. Assumes nothing.
use borrow.Author.Rules.{rules}
use Rattle.reader.proofs.FillLaws.{marks-none, marks-more, marks-all}
use Rattle.reader.proofs.fill.put_marks.Goals as goal

pub loop-k-init : goal.loop-k-init
loop-k-init c = search (rules, marks-none)

pub loop-k-preserved : goal.loop-k-preserved
loop-k-preserved c = search (rules, marks-more)

pub returns : goal.returns
returns c = search (rules, marks-all)
