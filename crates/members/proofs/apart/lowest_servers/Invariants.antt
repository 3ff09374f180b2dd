-- The loop of `members::apart::lowest_servers`: q has those of the servers 1 to i. Assumes nothing.
use mathlib.Core.Path.{◌≡◌}
use Rattle.members.specs.Rules.{lowest_servers}
use Rattle.members.proofs.apart.lowest_servers.Given as goal

abbrev pub invariant-loop-i : goal.invariant-loop-i
invariant-loop-i l = l.q ≡ lowest_servers l.i l.k l.m
