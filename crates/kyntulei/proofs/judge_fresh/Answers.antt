-- `kyntulei::judge_fresh` meets its contract. Assumes nothing.
use borrow.Author.Rules.{rules}
use Rattle.kyntulei.proofs.FreshLaws.{other_length, other-rule, other-floor, no-server, too_many, good-set, bad-set}
use Rattle.kyntulei.proofs.judge_fresh.Goals as goal

pub returns-then-table-ne-BYTES : goal.returns-then-table-ne-BYTES
returns-then-table-ne-BYTES c = search (rules, other_length)

pub returns-then-rule-gt-RULE_2 : goal.returns-then-rule-gt-RULE_2
returns-then-rule-gt-RULE_2 c = search (rules, other-rule)

pub returns-then-floor-gt-MOST : goal.returns-then-floor-gt-MOST
returns-then-floor-gt-MOST c = search (rules, other-floor)

pub returns-then-n-eq0 : goal.returns-then-n-eq0
returns-then-n-eq0 c = search (rules, no-server)

pub returns-then-n-gt-MOST : goal.returns-then-n-gt-MOST
returns-then-n-gt-MOST c = search (rules, too_many)

pub returns-then-is_within : goal.returns-then-is_within
returns-then-is_within c = search (rules, good-set)

pub returns : goal.returns
returns c = search (rules, bad-set)
