-- `writer::bodies::is_unbaked` meets its contract. Assumes nothing.
use borrow.Author.Rules.{rules}
use Rattle.writer.proofs.BakeLaws.{bakes-tell}
use Rattle.writer.proofs.bodies.is_unbaked.Goals as goal

pub returns : goal.returns
returns c = search (rules, bakes-tell)
