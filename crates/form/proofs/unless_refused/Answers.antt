-- `form::unless_refused` meets its contract. Assumes nothing.
use borrow.Author.Rules.{rules}
use Rattle.form.proofs.FormLaws.{refused-form, asked-form}
use Rattle.form.proofs.unless_refused.Goals as goal

pub returns : goal.returns
returns c = search (rules, refused-form, asked-form)
