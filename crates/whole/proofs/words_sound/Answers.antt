-- `whole::words_sound` meets its contract. Assumes nothing.
use Rattle.whole.proofs.CheckLaws.{words-at}
use Rattle.whole.proofs.words_sound.Goals as goal

pub returns : goal.returns
returns c = search words-at
