-- `writer::saved::Saved::put_body` meets its contract. Assumes nothing.
use borrow.Author.Rules.{rules}
use Rattle.writer.proofs.BodyWriteLaws.{server-room, marks-room, server-wrote, marks-wrote}
use Rattle.writer.proofs.saved.Saved.put_body.Goals as goal

pub put_server-requires-clause-room : goal.put_server-requires-clause-room
put_server-requires-clause-room c = search (rules, server-room)

pub put_marks-requires : goal.put_marks-requires
put_marks-requires c = search (rules, marks-room)

pub returns-then-e-ge1 : goal.returns-then-e-ge1
returns-then-e-ge1 c = search (rules, server-wrote)

pub returns : goal.returns
returns c = search (rules, marks-wrote)
