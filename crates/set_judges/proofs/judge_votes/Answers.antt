-- `set_judges::judge_votes` meets its contract. Assumes nothing.
use Rattle.set_judges.proofs.SetLaws.{weighing}
use Rattle.set_judges.proofs.judge_votes.Goals as goal

pub returns-then-larger : goal.returns-then-larger
returns-then-larger c = search weighing depth 9

pub returns-then-newer : goal.returns-then-newer
returns-then-newer c = search weighing depth 9

pub returns-then-ahead : goal.returns-then-ahead
returns-then-ahead c = search weighing depth 9
