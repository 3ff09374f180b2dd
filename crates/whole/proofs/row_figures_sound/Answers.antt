-- `whole::row_figures_sound` meets its contract. Assumes nothing.
use Rattle.whole.proofs.CheckLaws.{figures-at}
use Rattle.whole.proofs.row_figures_sound.Goals as goal

pub returns : goal.returns
returns c = search figures-at
