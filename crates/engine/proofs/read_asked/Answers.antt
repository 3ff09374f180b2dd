-- `engine::read_asked` meets its contract. Assumes nothing.
use Rattle.engine.proofs.StepLaws.{form-answered}
use Rattle.engine.proofs.read_asked.Goals as goal

pub returns-clause-refused : goal.returns-clause-refused
returns-clause-refused c = form-answered _ _ c.requires _ _ c.of.ensures c.count.ensures.value _ c.read_action.ensures
