-- `set_judges::judge_majorities` meets its contract. Assumes nothing.
use Rattle.set_judges.proofs.SetLaws.{term-alike}
use Rattle.set_judges.proofs.judge_majorities.Goals as goal

pub is_safe-requires-clause-same_value : goal.is_safe-requires-clause-same_value
is_safe-requires-clause-same_value c = search term-alike
