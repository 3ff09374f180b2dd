-- `table::view::Table::row` meets its contract. Assumes nothing.
use Prim.Native.Nat.{ℕ, ◌+◌, ◌≤◌}
use mathlib.Core.Path.{◌≡◌}
use lib.ListN.{length, get_or}
use borrow.Author.Rules.{rules}
use Rattle.algorithm.specs.Table.{Server, last, positions}
use Rattle.algorithm.specs.declared.Term.{Term}
use Rattle.algorithm.specs.declared.Version.{Version}
use Rattle.algorithm.specs.declared.Position.{Position}
use Rattle.table.specs.declared.rows.Row.{Row}
use Rattle.table.specs.Layout.{row}
use Rattle.table.specs.Slice.{seen}
use Rattle.table.proofs.RowLaws.{last-read}
use Rattle.table.proofs.view.Table.row.Goals as goal

seen_by : (s : Server) (r m e : ℕ) (t c : Term) (v : Version) (l : Position) → r ≡ s.role → t.0 ≡ s.term → m ≡ s.config.set
    → v.0 ≡ s.config.version → c.0 ≡ s.config.term → l.0 ≡ length s.log → l.0 ≤ positions → e ≡ get_or (row s) (5 + l.0) 0
    → ◌≡◌ {A = Row}
    (record { figures = record { role = r; term = t; set = m; version = v; config = c }; length = l; last = record { 0 = e } }) (seen s)
seen_by s r m e t c v l er et em ev ec el short ee =
    let end : e ≡ last s.log = last-read s l.0 e el short ee in
    λ d.
    record {
      figures =
          record { role = er d; term = record { 0 = et d }; set = em d; version = record { 0 = ev d }; config = record { 0 = ec d } };
      length = record { 0 = el d };
      last = record { 0 = end d };
    }

pub returns : goal.returns
returns c = (search seen_by, search rules)
