-- What is asked of the members of a set q, beside server i: each is a test of the algorithm. Assumes nothing.
use Rattle.std.specs.Prelude.{ℕ, zero, suc, ◌+◌, cond, eqb}
use Rattle.members.specs.Members.{passing}
use Rattle.algorithm.specs.Table.{Table, count, server, mark}
use Rattle.algorithm.specs.Actions.{larger_term, newer_config, log_ahead, same_config, same_term, supports_at}
use Rattle.questions.specs.declared.votes.Objections.{Objections}
use Rattle.questions.specs.declared.shares.Shares.{Shares}

-- the members among the servers 1 to k that have something against i's election
abbrev pub objecting : Table → ℕ → ℕ → ℕ → Objections
objecting t i q k =
    record { larger = passing k (larger_term t i) q; newer = passing k (newer_config t i) q; ahead = passing k (log_ahead t i) q }

-- the members among the servers 1 to k that have i's configuration, and those that have its term
abbrev pub alike : Table → ℕ → ℕ → ℕ → Shares
alike t i q k = record { config = passing k (same_config t i) q; term = passing k (same_term t i) q }

-- q; where position p is marked with i's term, only those of q that support i there
abbrev pub narrowed_at : Table → ℕ → ℕ → ℕ → ℕ
narrowed_at t i p q = cond (eqb (mark t p) (server t i).term) (passing (count t) (supports_at t i p) q) q

-- the same at each of the positions o + 1 to o + k
unfoldable pub narrowed_past : ℕ → ℕ → Table → ℕ → ℕ → ℕ
narrowed_past o zero t i q = q
narrowed_past o (suc k) t i q = narrowed_at t i (o + suc k) (narrowed_past o k t i q)
