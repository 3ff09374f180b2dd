-- `reader::fill::put_server` meets its contract. Assumes nothing.
use borrow.Author.Rules.{rules}
use Rattle.reader.proofs.FillLaws.{server-filled}
use Rattle.reader.proofs.fill.put_server.Goals as goal

pub returns : goal.returns
returns c = search (rules, server-filled)
