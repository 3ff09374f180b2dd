-- `rehearsal::open_input` meets its contract. Assumes nothing.
use borrow.Author.Rules.{rules}
use Rattle.rehearsal.proofs.InputLaws.{bad-site-told, playable}
use Rattle.rehearsal.proofs.open_input.Goals as goal

pub returns-in-Ok : goal.returns-in-Ok
returns-in-Ok c = search (rules, playable)

pub returns-in-Err : goal.returns-in-Err
returns-in-Err c = search (rules, bad-site-told)
