-- `rehearsal::save` meets its contract. Assumes nothing.
use mathlib.Core.Path.{refl}
use borrow.Author.Rules.{rules}
use Rattle.std.proofs.lemmas.Result.{err_from_is_err_and}
use Rattle.rehearsal.proofs.InputLaws.{told-saved, site-saved}
use Rattle.rehearsal.proofs.save.Goals as goal

pub returns-in_err-at : goal.returns-in_err-at
returns-in_err-at c =
    let p = err_from_is_err_and c.from_residual.result c.from_residual.ensures.1 in
    rw (p.1, p.2) (told-saved _ _ _ _ _ _ _ c.open_input.ensures refl refl _ c.in_err-at.was (search rules))

pub returns : goal.returns
returns c = search (rules, site-saved, c.in_ok-at.was)
