-- `writer::bodies::put_number` meets its contract. Assumes nothing.
use borrow.Author.Rules.{rules}
use Rattle.writer.proofs.BodyWriteLaws.{number-put}
use Rattle.writer.proofs.bodies.put_number.Goals as goal

pub returns : goal.returns
returns c = search (rules, number-put)
