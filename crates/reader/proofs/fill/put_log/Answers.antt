-- `reader::fill::put_log` meets its contract. Assumes nothing.
use borrow.Author.Rules.{rules}
use Rattle.reader.proofs.FillLaws.{log-none, log-room, log-more}
use Rattle.reader.proofs.fill.put_log.Goals as goal

pub loop-k-init : goal.loop-k-init
loop-k-init c = search (rules, log-none)

pub push-requires-clause-s_len_bound : goal.push-requires-clause-s_len_bound
push-requires-clause-s_len_bound c = search (rules, log-room)

pub loop-k-preserved : goal.loop-k-preserved
loop-k-preserved c = search (rules, log-more)
