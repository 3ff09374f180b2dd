-- `writer::bodies::put_server` meets its contract. Assumes nothing.
use borrow.Author.Rules.{rules}
use Rattle.writer.proofs.BodyWriteLaws.{figures-room, log-fits, server-put}
use Rattle.writer.proofs.bodies.put_server.Goals as goal

pub put_figures-requires-clause-room : goal.put_figures-requires-clause-room
put_figures-requires-clause-room c = search (rules, figures-room)

pub put_log-requires-clause-room : goal.put_log-requires-clause-room
put_log-requires-clause-room c = search (rules, log-fits)

pub returns : goal.returns
returns c = search (rules, server-put)
