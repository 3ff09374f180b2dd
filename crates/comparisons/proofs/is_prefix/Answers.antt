-- `comparisons::is_prefix` meets its contract. Assumes nothing.
use borrow.Author.Rules.{rules}
use Rattle.comparisons.proofs.LogLaws.{prefix-long, prefix-next, prefix-all}
use Rattle.comparisons.proofs.is_prefix.Goals as goal

pub returns-then-lt : goal.returns-then-lt
returns-then-lt c = search (rules, prefix-long)

pub loop-k-preserved : goal.loop-k-preserved
loop-k-preserved c = search (rules, prefix-next)

pub returns : goal.returns
returns c = search (rules, prefix-all)
