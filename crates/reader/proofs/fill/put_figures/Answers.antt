-- `reader::fill::put_figures` meets its contract. Assumes nothing.
use borrow.Author.Rules.{rules}
use Rattle.reader.proofs.FillLaws.{figures-put}
use Rattle.reader.proofs.fill.put_figures.Goals as goal

pub returns : goal.returns
returns c = search (rules, figures-put)
