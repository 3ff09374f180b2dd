-- `reader::read` meets its contract. Assumes nothing.
use borrow.Author.Rules.{rules}
use Rattle.std.proofs.lemmas.Result.{err_from_is_err_and}
use Rattle.reader.proofs.ReplyLaws.{read-bytes}
use Rattle.reader.proofs.read.Goals as goal

pub returns-in_err-judge-clause-reply : goal.returns-in_err-judge-clause-reply
returns-in_err-judge-clause-reply c = let p = err_from_is_err_and c.from_residual.result c.from_residual.ensures.1 in rw (p.1, p.2) (search rules)

pub returns-clause-bytes : goal.returns-clause-bytes
returns-clause-bytes c = search (rules, read-bytes, c.type_inv.table)
