-- `writer::bodies::put_figures` meets its contract. Assumes nothing.
use borrow.Author.Rules.{rules}
use Rattle.writer.proofs.BodyWriteLaws.{figures-put}
use Rattle.writer.proofs.bodies.put_figures.Goals as goal

pub returns : goal.returns
returns c = search (rules, figures-put)
