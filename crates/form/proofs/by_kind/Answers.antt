-- `form::by_kind` meets its contract. Assumes nothing.
use borrow.Author.Rules.{rules}
use Rattle.form.proofs.FormLaws.{uses-j, uses-set, of-kind, no_kind}
use Rattle.form.proofs.by_kind.Goals as goal

pub unless_refused-requires : goal.unless_refused-requires
unless_refused-requires c = search (rules, uses-j, uses-set)

pub unless_refused-requires-in-2 : goal.unless_refused-requires-in-2
unless_refused-requires-in-2 c = search (rules, uses-j, uses-set)

pub unless_refused-requires-in-3 : goal.unless_refused-requires-in-3
unless_refused-requires-in-3 c = search (rules, uses-j, uses-set)

pub unless_refused-requires-in-4 : goal.unless_refused-requires-in-4
unless_refused-requires-in-4 c = search (rules, uses-j, uses-set)

pub unless_refused-requires-in-5 : goal.unless_refused-requires-in-5
unless_refused-requires-in-5 c = search (rules, uses-j, uses-set)

pub unless_refused-requires-in-6 : goal.unless_refused-requires-in-6
unless_refused-requires-in-6 c = search (rules, uses-j, uses-set)

pub unless_refused-requires-in-7 : goal.unless_refused-requires-in-7
unless_refused-requires-in-7 c = search (rules, uses-j, uses-set)

pub unless_refused-requires-in-8 : goal.unless_refused-requires-in-8
unless_refused-requires-in-8 c = search (rules, uses-j, uses-set)

pub unless_refused-requires-in-9 : goal.unless_refused-requires-in-9
unless_refused-requires-in-9 c = search (rules, uses-j, uses-set)

pub returns-in-1 : goal.returns-in-1
returns-in-1 c = search (rules, of-kind)

pub returns-in-2 : goal.returns-in-2
returns-in-2 c = search (rules, of-kind)

pub returns-in-3 : goal.returns-in-3
returns-in-3 c = search (rules, of-kind)

pub returns-in-4 : goal.returns-in-4
returns-in-4 c = search (rules, of-kind)

pub returns-in-5 : goal.returns-in-5
returns-in-5 c = search (rules, of-kind)

pub returns-in-6 : goal.returns-in-6
returns-in-6 c = search (rules, of-kind)

pub returns-in-7 : goal.returns-in-7
returns-in-7 c = search (rules, of-kind)

pub returns-in-8 : goal.returns-in-8
returns-in-8 c = search (rules, of-kind)

pub returns-in-9 : goal.returns-in-9
returns-in-9 c = search (rules, of-kind)

pub returns-in_default : goal.returns-in_default
returns-in_default c = search (rules, no_kind)
