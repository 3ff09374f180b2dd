-- `rehearsal::put_replies` meets its contract. Assumes nothing.
use borrow.Author.Rules.{rules}
use Rattle.report.proofs.OrderLaws.{lined-none}
use Rattle.rehearsal.proofs.PlayedLaws.{replies-more}
use Rattle.rehearsal.proofs.put_replies.Goals as goal

pub loop-k-init : goal.loop-k-init
loop-k-init c = search (rules, lined-none)

pub loop-k-preserved : goal.loop-k-preserved
loop-k-preserved c = search (rules, replies-more)
