-- `doers::configs::vote` meets its contract. Assumes nothing.
use native.Mathlib.Omega.{arith}
use borrow.Author.Rules.{rules}
use Rattle.doers.proofs.VoteLaws.{voted-none, vote-more, vote-none, voted-all}
use Rattle.doers.proofs.configs.vote.Goals.{then-is_member, else-is_member}
use Rattle.doers.proofs.configs.vote.Goals as goal

pub loop-s-init : goal.loop-s-init
loop-s-init c = search (rules, voted-none)

pub loop-s-preserved : goal.loop-s-preserved
loop-s-preserved c =
    elim c.if-is_member.branch [ then-is_member w ↦ search (rules, vote-more) | else-is_member w ↦ search (rules, vote-none) ]

pub returns : goal.returns
returns c = voted-all _ _ _ _ _ _ _ c.count.ensures.value c.of.ensures c.loop-s.invariant (omega (arith, c.count.ensures.few))
