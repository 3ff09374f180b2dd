-- A table that breaks no rule, and a commit in it that Algorithm 2 allows and document 01 refuses with 22: the leader, of term 2, is not in Q
-- and has an entry of term 1 where both members of Q have one of term 2. No run from a fresh table shows it (Reached: commit-not-narrowed).
-- Assumes nothing.
use Prim.Native.Nat.{ℕ, zero, suc}
use mathlib.Core.List.{[], ◌∷◌}
use mathlib.Core.Path.{◌≡◌, refl}
use native.Mathlib.Omega.{arith}
use lib.Count.{ones}
use Rattle.words.specs.Lists.{nth, every}
use Rattle.words.specs.Refusal.{first}
use Rattle.words.proofs.Tests.{Fails}
use Rattle.members.specs.Members.{Member}
use Rattle.members.proofs.Masks.{member-le}
use Rattle.algorithm.specs.Table.{config_of, entries, Server, Table, server_with, with_servers, broken, fresh}
use Rattle.algorithm.specs.Cases.{action_bytes}
use Rattle.algorithm.specs.Run.{refusals, step}
use Rattle.paper.specs.Paper.{size, InLog, CommitEntry, Requires}
use Rattle.paper.specs.Narrowings.{MarkedOnce}
use Rattle.paper.specs.Shown.{set_shown, shown}

-- a server of term 2 with that role and one entry, of that term
abbrev one_entry : ℕ → ℕ → Server
one_entry role u = server_with role 2 (config_of 7 1 2) (entries (u ∷ []))

-- a leader with an entry of term 1, and two voters with one of term 2
abbrev pub split : Table
split = with_servers (one_entry 1 1 ∷ one_entry 0 2 ∷ one_entry 0 2 ∷ []) (fresh 3 7 0 0)

-- the table breaks no rule
pub split-sound : Fails (broken split)
unfolding broken every
split-sound = record { no = tt }

-- the commit by servers 2 and 3 is refused with 22
pub split-refused : (step split (action_bytes 8 1 0 6)).number ≡ 22
unfolding step refusals first broken every nth ones
split-refused = refl

-- Algorithm 2 allows it
pub split-allowed : Requires (shown split) (CommitEntry 1 (set_shown 6))
unfolding size nth
split-allowed = ((λ x u. (voters x u).0, omega arith), refl, λ j u. (voters j u).1)
  where
    voters : (x : ℕ) → Member x 6 → Member x 7 × (InLog (shown split) 1 2 x × ((shown split).term x ≡ 2))
    voters zero u = absurd u
    voters (suc zero) u = absurd u
    voters (suc (suc zero)) u = (tt, ((1, (omega arith, omega arith), refl, refl), refl))
    voters (suc (suc (suc zero))) u = (tt, ((1, (omega arith, omega arith), refl, refl), refl))
    voters (suc (suc (suc (suc k)))) u = absurd (omega (arith, member-le 3 (suc (suc (suc (suc k)))) {m = 6} (omega arith) u))

-- and refusal 24 does not stand against it
pub split-once : MarkedOnce (shown split) 1
unfolding nth
split-once u (m, o) = absurd (omega arith)
