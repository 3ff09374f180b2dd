-- `table::view::Table::marked` meets its contract. Assumes nothing.
use native.Mathlib.Omega.{arith}
use mathlib.Core.Path.{◌≡◌}
use lib.ListN.{length}
use borrow.Author.Rules.{rules}
use Rattle.algorithm.specs.Table.{positions}
use Rattle.table.proofs.RowLaws.{mark-read, marks-all}
use Rattle.table.proofs.MarkLaws.{bare-none, bare-more, bare-found, bare-all}
use Rattle.table.proofs.view.Table.marked.Goals as goal

pub loop-n-init : goal.loop-n-init
loop-n-init c = search (rules, bare-none, marks-all)

pub returns-then-word-ne0-clause-value : goal.returns-then-word-ne0-clause-value
returns-then-word-ne0-clause-value c =
    let all : length c.args.self.now.marks ≡ positions = search (rules, marks-all) in
    bare-found c.args.self.now all c.loop-n.n c.word.result (omega arith) (search (rules, mark-read)) c.if-word-ne0.true c.loop-n.invariant

pub loop-n-preserved : goal.loop-n-preserved
loop-n-preserved c = search (rules, bare-more, mark-read, marks-all)

pub returns : goal.returns
returns c = search (rules, bare-all, marks-all)
