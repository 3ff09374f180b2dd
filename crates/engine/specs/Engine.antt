-- What the engine asks of a slice, and what a step and a run leave in it. Assumes nothing.
use Rattle.std.specs.Prelude.{ℕ, ◌*◌, ◌/◌, ◌≤◌, min, true, false, List, ◌++◌, ◌≡◌, length, drop, replicate, Result}
use Rattle.words.specs.Refusal.{nothing, answer, given}
use Rattle.members.specs.Members.{within}
use Rattle.algorithm.specs.declared.Refused.{Refused}
use Rattle.algorithm.specs.Run.{reply_of, replies_bytes, own_refusals, Outcome, answered, outcome_by, step, piece_count, run_to}
use Rattle.algorithm.specs.Table.{Table, count, positions, broken}
use Rattle.table.specs.Layout.{table_in}
use Rattle.table.specs.Slice.{Holds, Held, Within}
use Rattle.form.specs.declared.Asked.{Asked}
use Rattle.form.specs.declared.Asked.TheVariants.{Elect, Reconfigure, Send, Spread, Write, Fetch, RollBack, Commit, Stretch}
use Rattle.form.specs.Form.{named}

-- the servers that are asked for are servers of the table, the set is within them, and the count is one that a log can have
abbrev pub Fitting : Table → Asked → Type 0
Fitting t (Elect i Q) = Within t i × (within Q (count t) ≡ true)
Fitting t (Reconfigure i M) = Within t i × (within M (count t) ≡ true)
Fitting t (Send i j) = Within t i × Within t j
Fitting t (Spread i j) = Within t i × Within t j
Fitting t (Write i B) = Within t i
Fitting t (Fetch i j) = Within t i × Within t j
Fitting t (RollBack i j) = Within t i × Within t j
Fitting t (Commit i Q) = Within t i × (within Q (count t) ≡ true)
Fitting t (Stretch i j c) = Within t i × Within t j × ((1 ≤ c) × (c ≤ positions))

-- the slice holds a table, and that breaks no rule
pub record Ready (b : List ℕ) : Type 0 where
  pub held : Held b
  pub sound : broken (table_in b) ≡ false

-- what an action does that 1 to 5 do not refuse
abbrev pub own_outcome : Table → Asked → Outcome
own_outcome t x = outcome_by t (given (own_refusals t (named x))) (named x)

-- what is asked on the slice b is answered r, and leaves b'
pub record Answered (b : List ℕ) (x : Asked) (r : Result ℕ Refused) (b' : List ℕ) : Type 0 where
  pub reply : r ≡ reply_of (answered (own_outcome (table_in b) x))
  pub table : Holds b' (own_outcome (table_in b) x).table

-- the action a on the slice b is answered r, and leaves b'
pub record Stepped (b a : List ℕ) (r : Result ℕ Refused) (b' : List ℕ) : Type 0 where
  pub reply : r ≡ reply_of (answered (step (table_in b) a))
  pub table : Holds b' (step (table_in b) a).table
  pub ready : Ready b'

-- how many pieces of the plan p are played: all, or as many as r has room for replies of eight bytes
abbrev pub played : List ℕ → List ℕ → ℕ
played p r = min (piece_count p) (length r / 8)

-- the plan p on the slice b: k pieces are played; b' is left, and r' is their replies with the rest of r behind
pub record Played (b p r : List ℕ) (k : ℕ) (b' r' : List ℕ) : Type 0 where
  pub count : k ≡ played p r
  pub replies : r' ≡ replies_bytes (run_to (played p r) (table_in b) p).replies ++ drop (8 * played p r) r
  pub table : Holds b' (run_to (played p r) (table_in b) p).table

-- the plan p on a broken table: k pieces are answered 1
pub record AllRefused (p r : List ℕ) (k : ℕ) (r' : List ℕ) : Type 0 where
  pub count : k ≡ played p r
  pub replies : r' ≡ replies_bytes (replicate (played p r) (answer 1 nothing)) ++ drop (8 * played p r) r
