-- `set_judges::judge_commit` meets its contract. Assumes nothing.
use Rattle.set_judges.proofs.SetLaws.{weighing}
use Rattle.set_judges.proofs.judge_commit.Goals as goal

pub is_marked_otherwise-requires-clause-i_value : goal.is_marked_otherwise-requires-clause-i_value
is_marked_otherwise-requires-clause-i_value c = cc

pub returns-then-opposed : goal.returns-then-opposed
returns-then-opposed c = search weighing depth 9
