-- `engine::step` meets its contract. Assumes nothing.
use borrow.Author.Rules.{rules}
use mathlib.Core.Path.{refl}
use Rattle.engine.proofs.StepLaws.{fitting, answered-step}
use Rattle.engine.proofs.step.Goals as goal

pub answer-requires : goal.answer-requires
answer-requires c = search (rules, fitting)

pub returns : goal.returns
returns c = answered-step _ _ c.requires _ _ refl refl _ c.read_asked.ensures.read _ (search rules) _ _ c.answer.ensures
