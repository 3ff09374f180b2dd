-- `set_judges::judge_reconfigure` meets its contract. Assumes nothing.
use mathlib.Core.Path.{ap}
use mathlib.Core.Bool.{not}
use Rattle.set_judges.proofs.SetLaws.{denied}
use Rattle.set_judges.proofs.judge_reconfigure.Goals as goal

pub refuse_set-requires-clause-m_value : goal.refuse_set-requires-clause-m_value
refuse_set-requires-clause-m_value c = denied _ _ c.may_become.ensures (ap not c.if-not-may_become.true)
