-- `writer::bodies::put_log` meets its contract. Assumes nothing.
use borrow.Author.Rules.{rules}
use Rattle.writer.proofs.BodyWriteLaws.{terms-room, narrow-put}
use Rattle.writer.proofs.bodies.put_log.Goals as goal

pub put_terms-requires-clause-room : goal.put_terms-requires-clause-room
put_terms-requires-clause-room c = search (rules, terms-room)

pub returns-then-width-eq0 : goal.returns-then-width-eq0
returns-then-width-eq0 c = search (rules, narrow-put)
