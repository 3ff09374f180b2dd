-- `whole::rows_sound` meets its contract. Assumes nothing.
use Rattle.whole.proofs.CheckLaws.{rows_none, rows_more, rows_all}
use Rattle.whole.proofs.rows_sound.Goals as goal

pub loop-k-init : goal.loop-k-init
loop-k-init c = rows_none _ _

pub loop-k-preserved : goal.loop-k-preserved
loop-k-preserved c = search rows_more

pub returns : goal.returns
returns c = search rows_all
