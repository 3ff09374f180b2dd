-- `kyntulei::kyntulei_write` meets its contract. Assumes nothing.
use borrow.Author.Rules.{rules}
use Rattle.kyntulei.proofs.CallLaws.{write-told}
use Rattle.kyntulei.proofs.kyntulei_write.Goals as goal

pub returns : goal.returns
returns c = search (rules, write-told)
