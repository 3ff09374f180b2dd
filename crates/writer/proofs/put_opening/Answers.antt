-- `writer::put_opening` meets its contract. Assumes nothing.
use borrow.Author.Rules.{rules}
use Rattle.writer.proofs.PlaceLaws.{opening-put}
use Rattle.writer.proofs.put_opening.Goals as goal

pub returns : goal.returns
returns c = search (rules, opening-put)
