-- `rehearsal::put_cut` meets its contract. Assumes nothing.
use borrow.Author.Rules.{rules}
use Rattle.rehearsal.proofs.PlayedLaws.{uncut, is_cut}
use Rattle.rehearsal.proofs.put_cut.Goals as goal

pub returns-in-Action : goal.returns-in-Action
returns-in-Action c = search (rules, uncut)

pub returns-in-Cut : goal.returns-in-Cut
returns-in-Cut c = search (rules, is_cut)
