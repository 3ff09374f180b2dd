-- `form::read_action` meets its contract. Assumes nothing.
use borrow.Author.Rules.{rules}
use Rattle.form.proofs.FormLaws.{other_length, eight-bytes}
use Rattle.form.proofs.read_action.Goals as goal

pub returns-then-a-ne8 : goal.returns-then-a-ne8
returns-then-a-ne8 c = search (rules, other_length)

pub returns : goal.returns
returns c = search (rules, eight-bytes)
