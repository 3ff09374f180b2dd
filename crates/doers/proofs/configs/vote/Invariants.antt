-- The loop of `doers::configs::vote`: the servers before s have voted. Assumes nothing.
use Rattle.doers.proofs.VoteLaws.{Voted}
use Rattle.doers.proofs.configs.vote.Given as goal

abbrev pub invariant-loop-s : goal.invariant-loop-s
invariant-loop-s l = Voted l.initial.t l.q l.term.0 l.t l.s
