-- `image::bodies::marks_sound` meets its contract. Assumes nothing.
use borrow.Author.Rules.{rules}
use Rattle.image.proofs.BodyLaws.{no-marks, marks-tell}
use Rattle.image.proofs.bodies.marks_sound.Goals as goal

pub returns-then-n-eq0 : goal.returns-then-n-eq0
returns-then-n-eq0 c = search (rules, no-marks)

pub returns : goal.returns
returns c = search (rules, marks-tell)
