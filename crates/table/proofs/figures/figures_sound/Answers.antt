-- `table::figures::figures_sound` meets its contract. Assumes nothing.
use borrow.Author.Rules.{rules}
use Rattle.table.proofs.FigureLaws.{figures-tell}
use Rattle.table.proofs.figures.figures_sound.Goals as goal

pub returns : goal.returns
returns c = search (rules, figures-tell)
