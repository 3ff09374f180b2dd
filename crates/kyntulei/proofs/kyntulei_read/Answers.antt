-- `kyntulei::kyntulei_read` meets its contract. Assumes nothing.
use borrow.Author.Rules.{rules}
use Rattle.kyntulei.proofs.CallLaws.{read-told}
use Rattle.kyntulei.proofs.kyntulei_read.Goals as goal

pub returns : goal.returns
returns c = search (rules, read-told)
