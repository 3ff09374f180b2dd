-- `rehearsal::rehearse` meets its contract. Assumes nothing.
use borrow.Author.Rules.{rules}
use Rattle.rehearsal.proofs.InputLaws.{told-shown, site-shown}
use Rattle.rehearsal.proofs.rehearse.Goals as goal

pub returns-in-Ok : goal.returns-in-Ok
returns-in-Ok c = search (rules, site-shown)

pub returns-in-Err : goal.returns-in-Err
returns-in-Err c = search (rules, told-shown)
