-- `image::bodies::server_sound` meets its contract. Assumes nothing.
use borrow.Author.Rules.{rules}
use Rattle.image.proofs.BodyLaws.{server-tells}
use Rattle.image.proofs.bodies.server_sound.Goals as goal

pub returns : goal.returns
returns c = search (rules, server-tells)
