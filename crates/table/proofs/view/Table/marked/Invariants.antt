-- The loop of `table::view::Table::marked`: the marks behind the first n are 0. Assumes nothing.
use Rattle.table.proofs.MarkLaws.{Bare}
use Rattle.table.proofs.view.Table.marked.Given as goal

abbrev pub invariant-loop-n : goal.invariant-loop-n
invariant-loop-n l = Bare l.self.marks l.n
