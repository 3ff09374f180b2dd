-- `table::view::Table::length` meets its contract. Assumes nothing.
use Prim.Native.Nat.{◌≤◌}
use native.Mathlib.Omega.{arith}
use borrow.Author.Rules.{rules}
use Rattle.table.proofs.RowLaws.{log-short}
use Rattle.algorithm.specs.Table.{positions}
use Rattle.table.proofs.view.Table.length.Goals as goal

pub overflow_cast-result : goal.overflow_cast-result
overflow_cast-result c = let h : c.field.result ≤ positions = search (rules, log-short) in omega arith

pub returns : goal.returns
returns c = search (rules, log-short)
