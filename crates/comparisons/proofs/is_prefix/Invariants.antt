-- The loop of `comparisons::is_prefix`: the logs agree up to k if `ok`, and what follows decides the rest. Assumes nothing.
use Rattle.algorithm.specs.Table.{server}
use Rattle.comparisons.proofs.LogLaws.{PrefixFrom}
use Rattle.comparisons.proofs.is_prefix.Given as goal

abbrev pub invariant-loop-k : goal.invariant-loop-k
invariant-loop-k l = PrefixFrom l.k (server l.t l.i).log (server l.t l.j).log l.ok
