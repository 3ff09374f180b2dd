-- `table::view::Table::count` meets its contract. Assumes nothing.
use Prim.Native.Nat.{◌≤◌}
use native.Mathlib.Omega.{arith}
use borrow.Author.Rules.{rules}
use Rattle.algorithm.specs.Table.{most_servers}
use Rattle.table.proofs.RowLaws.{count_small, count-read}
use Rattle.table.proofs.view.Table.count.Goals as goal

pub overflow_cast-result : goal.overflow_cast-result
overflow_cast-result c = let few : c.word.result ≤ most_servers = search (rules, count_small) in omega arith

pub returns : goal.returns
returns c = search (rules, count-read, count_small)
