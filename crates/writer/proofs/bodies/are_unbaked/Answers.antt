-- `writer::bodies::are_unbaked` meets its contract. Assumes nothing.
use borrow.Author.Rules.{rules}
use Rattle.writer.proofs.BakeLaws.{bare-none, bare-more, bare-last}
use Rattle.writer.proofs.bodies.are_unbaked.Goals as goal

pub loop-s-init : goal.loop-s-init
loop-s-init c = bare-none _

pub loop-s-preserved : goal.loop-s-preserved
loop-s-preserved c = search (rules, bare-more)

pub returns-2 : goal.returns-2
returns-2 c = bare-last _ _ _ _ c.loop-s.invariant c.loop-s-test.true (search rules) _ c.is_unbaked-unbaked.ensures (search rules)
