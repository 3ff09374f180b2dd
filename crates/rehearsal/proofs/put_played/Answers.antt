-- `rehearsal::put_played` meets its contract. Assumes nothing.
use native.Mathlib.Omega.{arith}
use borrow.Author.Rules.{rules}
use Rattle.engine.proofs.ReadyLaws.{played-held}
use Rattle.rehearsal.proofs.PlayedLaws.{played-shown}
use Rattle.rehearsal.proofs.put_played.Goals as goal

pub of-requires : goal.of-requires
of-requires c = search (rules, played-held)

pub returns : goal.returns
returns c = search (rules, played-shown _ _ _ _ _ _ (omega arith) (search rules) c.run-n.ensures _ _ c.as_chunks.ensures.front (omega arith))
