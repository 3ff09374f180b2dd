-- `form::set_fits` meets its contract. Assumes nothing.
use borrow.Author.Rules.{rules}
use Rattle.form.proofs.FormLaws.{count_fits, set-within}
use Rattle.form.proofs.set_fits.Goals as goal

pub returns-then-kind-eq9 : goal.returns-then-kind-eq9
returns-then-kind-eq9 c = search (rules, count_fits)

pub returns : goal.returns
returns c = search (rules, set-within)
