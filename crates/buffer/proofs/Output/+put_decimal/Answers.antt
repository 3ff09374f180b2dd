-- `buffer::Output::put_decimal` meets its contract. Assumes nothing.
use borrow.Author.Rules.{rules}
use Rattle.buffer.proofs.DecimalLaws.{one-digit, last-room, last-digit}
use Rattle.buffer.proofs.Output.+put_decimal.Goals as goal

pub returns-then-v-lt10 : goal.returns-then-v-lt10
returns-then-v-lt10 t c = search (rules, one-digit)

pub put_byte-requires-2 : goal.put_byte-requires-2
put_byte-requires-2 t c = search (rules, last-room)

pub returns : goal.returns
returns t c = search (rules, last-digit)
