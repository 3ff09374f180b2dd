-- `whole::row_sound` meets its contract. Assumes nothing.
use Rattle.whole.proofs.CheckLaws.{row-long, row_at}
use Rattle.whole.proofs.row_sound.Goals as goal

pub returns-then-length-gt-LONGEST : goal.returns-then-length-gt-LONGEST
returns-then-length-gt-LONGEST c = search row-long

pub returns : goal.returns
returns c = search row_at
