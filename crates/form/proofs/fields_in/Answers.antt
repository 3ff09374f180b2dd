-- `form::fields_in` meets its contract. Assumes nothing.
use borrow.Author.Rules.{rules}
use Rattle.form.proofs.FormLaws.{fields_read}
use Rattle.form.proofs.fields_in.Goals as goal

pub returns : goal.returns
returns c = search (rules, fields_read)
