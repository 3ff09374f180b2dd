-- `writer::saved::Saved::size_of` meets its contract. Assumes nothing.
use borrow.Author.Rules.{rules}
use native.Mathlib.Nat.{mul-le-mul}
use native.Mathlib.Omega.{arith}
use Rattle.writer.proofs.BodyWriteLaws.{its-marks-size, its-server-size}
use Rattle.writer.proofs.saved.Saved.size_of.Goals as goal

pub returns-then-e-ge1 : goal.returns-then-e-ge1
returns-then-e-ge1 c = (search (rules, its-server-size), omega (arith, mul-le-mul c.entry_bytes.ensures.2 c.length.ensures.1))

pub returns : goal.returns
returns c = (search (rules, its-marks-size), search rules)
