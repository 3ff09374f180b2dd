-- `form::bake_in` meets its contract. Assumes nothing.
use borrow.Author.Rules.{rules}
use Rattle.form.proofs.FormLaws.{bake-read}
use Rattle.form.proofs.bake_in.Goals as goal

pub returns : goal.returns
returns c = search (rules, bake-read)
