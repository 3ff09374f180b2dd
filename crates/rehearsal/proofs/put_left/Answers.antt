-- `rehearsal::put_left` meets its contract. Assumes nothing.
use borrow.Author.Rules.{rules}
use Rattle.rehearsal.proofs.PlayedLaws.{left-shown, left-room, left-savable}
use Rattle.rehearsal.proofs.put_left.Goals as goal

pub put_image-requires-clause-savable : goal.put_image-requires-clause-savable
put_image-requires-clause-savable c = search (rules, left-savable)

pub put_image-requires-clause-t_in_bounds : goal.put_image-requires-clause-t_in_bounds
put_image-requires-clause-t_in_bounds c = search (rules, left-room)

pub returns : goal.returns
returns c = search (rules, left-shown)
