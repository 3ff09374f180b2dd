-- `reader::fill::fill_servers` meets its contract. Assumes nothing.
use borrow.Author.Rules.{rules}
use Rattle.table.proofs.HeldLaws.{held}
use Rattle.reader.proofs.FillLaws.{filled-none, filled_within, filled-empty, filled_more, filled-last}
use Rattle.reader.proofs.fill.fill_servers.Goals as goal

pub loop-s-init : goal.loop-s-init
loop-s-init c = search (rules, filled-none)

pub put_server-requires-clause-held : goal.put_server-requires-clause-held
put_server-requires-clause-held c = search (rules, held)

pub put_server-requires-clause-within : goal.put_server-requires-clause-within
put_server-requires-clause-within c = search (rules, filled_within)

pub put_server-requires-clause-s_value : goal.put_server-requires-clause-s_value
put_server-requires-clause-s_value c = search (rules, filled-empty)

pub loop-s-preserved : goal.loop-s-preserved
loop-s-preserved c = search (rules, filled_more)

pub returns-2 : goal.returns-2
returns-2 c = search (rules, filled-last)
