-- `writer::put_bodies` meets its contract. Assumes nothing.
use borrow.Author.Rules.{rules}
use Rattle.writer.proofs.PlaceLaws.{bodied-none, body-room, bodied-more, bodied-last}
use Rattle.writer.proofs.put_bodies.Goals as goal

pub loop-e-init : goal.loop-e-init
loop-e-init c = search (rules, bodied-none)

pub put_body-requires-clause-e_in_bounds : goal.put_body-requires-clause-e_in_bounds
put_body-requires-clause-e_in_bounds c = search (rules, body-room)

pub loop-e-preserved : goal.loop-e-preserved
loop-e-preserved c = search (rules, bodied-more)

pub returns-2 : goal.returns-2
returns-2 c = search (rules, bodied-last)
