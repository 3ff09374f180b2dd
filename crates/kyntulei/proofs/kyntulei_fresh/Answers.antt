-- `kyntulei::kyntulei_fresh` meets its contract. Assumes nothing.
use borrow.Author.Rules.{rules}
use Rattle.kyntulei.proofs.FreshLaws.{refused, fill-sized, fill-few, count_fits, set-fits, rule_fits, floor-fits, filled}
use Rattle.kyntulei.proofs.kyntulei_fresh.Goals as goal

pub returns-in-Err : goal.returns-in-Err
returns-in-Err c = search (rules, refused)

pub overflow_cast-n : goal.overflow_cast-n
overflow_cast-n c = search (rules, count_fits)

pub overflow_cast-set : goal.overflow_cast-set
overflow_cast-set c = search (rules, set-fits)

pub overflow_cast-rule : goal.overflow_cast-rule
overflow_cast-rule c = search (rules, rule_fits)

pub overflow_cast-floor : goal.overflow_cast-floor
overflow_cast-floor c = search (rules, floor-fits)

pub fill_fresh-requires : goal.fill_fresh-requires
fill_fresh-requires c = (search (rules, fill-sized), search (rules, fill-few))

pub returns-in-Ok : goal.returns-in-Ok
returns-in-Ok c = search (rules, filled)
