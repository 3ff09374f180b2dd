-- `engine::judge_asked` meets its contract. Assumes nothing.
use borrow.Author.Rules.{rules}
use Rattle.engine.proofs.StepLaws.{judged, own-answered}
use Rattle.engine.proofs.judge_asked.Goals as goal

pub judge-requires : goal.judge-requires
judge-requires c = record { sound = rw c.of.ensures c.requires.ready.sound; fitting = rw c.of.ensures c.requires.fitting }

pub returns-clause-refused : goal.returns-clause-refused
returns-clause-refused c = own-answered _ _ _ _ c.of.ensures c.judge.ensures c.requires.ready.held

pub returns-clause-judged : goal.returns-clause-judged
returns-clause-judged c = search (rules, judged)
