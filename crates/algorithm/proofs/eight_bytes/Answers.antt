-- `algorithm::eight_bytes` meets its contract. Assumes nothing.
use borrow.Author.Rules.{rules}
use Rattle.algorithm.proofs.Replies.{copied-eight}
use Rattle.algorithm.proofs.eight_bytes.Goals as goal

pub returns-in-Ok : goal.returns-in-Ok
returns-in-Ok c = search (rules, copied-eight)
