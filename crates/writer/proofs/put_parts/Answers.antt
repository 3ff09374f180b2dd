-- `writer::put_parts` meets its contract. Assumes nothing.
use borrow.Author.Rules.{rules}
use Rattle.writer.proofs.PlaceLaws.{opening-room, contents-room, bodies-room, image-wrote}
use Rattle.writer.proofs.put_parts.Goals as goal

pub put_opening-requires : goal.put_opening-requires
put_opening-requires c = search (rules, opening-room)

pub put_contents-requires : goal.put_contents-requires
put_contents-requires c = search (rules, contents-room)

pub put_bodies-requires : goal.put_bodies-requires
put_bodies-requires c = search (rules, bodies-room)

pub returns : goal.returns
returns c = search (rules, image-wrote)
