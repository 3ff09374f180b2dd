-- `set_judges::is_safe` meets its contract. Assumes nothing.
use borrow.Author.Rules.{rules}
use Rattle.questions.proofs.MarkLaws.{marked-any}
use Rattle.set_judges.proofs.SetLaws.{safe-told, unsafe-told}
use Rattle.set_judges.proofs.is_safe.Goals as goal

pub returns-then-is_marked : goal.returns-then-is_marked
returns-then-is_marked c = search (rules, safe-told, marked-any)

pub returns : goal.returns
returns c = search (rules, unsafe-told, marked-any)
