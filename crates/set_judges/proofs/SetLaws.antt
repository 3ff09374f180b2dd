-- How the servers that pass decide a refusal. Assumes nothing.
use Prim.Native.Nat.{ℕ, zero, suc, ◌≤◌, ◌<◌}
use native.Mathlib.Omega.{arith}
use mathlib.Core.Logic.{◌≢◌}
use mathlib.Core.Path.{◌≡◌, refl, sym, ap, subst, ◌∙◌}
use mathlib.Core.Bool.{Bool, true, false, not, ◌||◌}
use mathlib.Core.List.{[], ◌∷◌}
use lib.Dec.{T, eqb, ltb}
use lib.Bits.{bit_xor}
use lib.ListN.{length}
use Rattle.members.specs.Members.{member, within, majority, passing, some_pass, lowest_up_to, lowest_in}
use borrow.Author.Tests.{ne_eqb}
use Rattle.words.specs.Refusal.{answer}
use Rattle.words.proofs.Tests.{false-fails}
use Rattle.members.specs.Rules.{all_meet, may_follow, old_apart, new_apart, lowest_pair}
use Rattle.members.specs.declared.apart.Pair.{Pair}
use Rattle.members.proofs.Masks.{without-passing}
use Rattle.members.proofs.Majorities.{other-rule}
use Rattle.members.proofs.Lowest.{lowest-passing}
use Rattle.members.proofs.Pairs.{some-apart, majority-range}
use Rattle.std.specs.Prelude.{Err}
use Rattle.algorithm.specs.declared.Refused.TheVariants.{LargerTerm, NewerConfig, LogAhead, MayNotFollow, Apart, Opposed}
use Rattle.algorithm.specs.Run.{refused_of, verdict_of}
use Rattle.algorithm.specs.Table.{Log, Table, count, server, last, most_servers}
use Rattle.algorithm.specs.Actions.{one_server, apart_shown, larger_term, newer_config, log_ahead, same_term, some_marked, holds_committed, q1, q2, p1, supports_at, opposes_at}
use Rattle.questions.specs.declared.votes.Objections.{Objections}
use Rattle.questions.specs.declared.shares.Shares.{Shares}
use Rattle.questions.specs.Questions.{objecting, alike}
use Rattle.algorithm.proofs.Seen.{within-width}
use Rattle.algorithm.proofs.Replies.{replying}

-- x are the members of q that have a fault
module _ (n : ℕ) (fault : ℕ → Bool) (q x : ℕ) (e : x ≡ passing n fault q) where
  -- r is the lowest of them as the code has found it
  fault-told : (r : ℕ) → n ≤ 16 → r ≡ lowest_up_to 16 (λ s. member s x) → r ≡ lowest_in n fault q
  fault-told r few f = f ∙ ap (λ (m : ℕ). lowest_up_to 16 (λ s. member s m)) e ∙ lowest-passing n q fault 16 few

-- some member of q objects to an election
module _ (t : Table) (i q : ℕ) (o : Objections) (e : o ≡ objecting t i q (count t)) where
  pub larger-told : ltb 0 o.larger ≡ some_pass (count t) (larger_term t i) q
  larger-told = ap (λ (u : Objections). ltb 0 u.larger) e

  pub newer-told : ltb 0 o.newer ≡ some_pass (count t) (newer_config t i) q
  newer-told = ap (λ (u : Objections). ltb 0 u.newer) e

  pub ahead-told : ltb 0 o.ahead ≡ some_pass (count t) (log_ahead t i) q
  ahead-told = ap (λ (u : Objections). ltb 0 u.ahead) e

  -- r is the lowest that does
  module _ (few : count t ≤ most_servers) (r : ℕ) where
    pub larger-at : r ≡ lowest_up_to 16 (λ s. member s o.larger) → Err (LargerTerm r) ≡ verdict_of (answer 8 (one_server (lowest_in (count t) (larger_term t i) q)))
    larger-at f = ap (λ (s : ℕ). Err (LargerTerm s)) (fault-told (count t) (larger_term t i) q o.larger (ap (λ (u : Objections). u.larger) e) r few f)

    pub newer-at : r ≡ lowest_up_to 16 (λ s. member s o.newer) → Err (NewerConfig r) ≡ verdict_of (answer 9 (one_server (lowest_in (count t) (newer_config t i) q)))
    newer-at f = ap (λ (s : ℕ). Err (NewerConfig s)) (fault-told (count t) (newer_config t i) q o.newer (ap (λ (u : Objections). u.newer) e) r few f)

    pub ahead-at : r ≡ lowest_up_to 16 (λ s. member s o.ahead) → Err (LogAhead r) ≡ verdict_of (answer 10 (one_server (lowest_in (count t) (log_ahead t i) q)))
    ahead-at f = ap (λ (s : ℕ). Err (LogAhead s)) (fault-told (count t) (log_ahead t i) q o.ahead (ap (λ (u : Objections). u.ahead) e) r few f)

-- those of the set m that are alike, where the code has read m
module _ (t : Table) (i m : ℕ) (o : Shares) (e : o ≡ alike t i m (count t)) (f : m ≡ (server t i).config.set) where
  pub config-told : (r : Bool) → r ≡ majority o.config m → r ≡ q1 t i
  config-told r g = rw (← f) (g ∙ ap (λ (u : Shares). majority u.config m) e)

  pub term_told : (r : Bool) → r ≡ majority o.term m → r ≡ q2 t i
  term_told r g = rw (← f) (g ∙ ap (λ (u : Shares). majority u.term m) e)

  pub term-alike : o.term ≡ passing (count t) (same_term t i) (server t i).config.set
  term-alike = rw (← f) (ap (λ (u : Shares). u.term) e)

-- P1: a majority of those that hold what is marked is asked for where some mark is of the term
module _ (t : Table) (i : ℕ) (s : Bool) (e : s ≡ some_marked t.marks (server t i).term) where
  pub safe-told : (x : ℕ) (r : Bool) → s ≡ true → x ≡ passing (count t) (holds_committed t i) (server t i).config.set
      → r ≡ majority x (server t i).config.set → r ≡ p1 t i
  safe-told x r o f g = rw (sym e ∙ o, ← f) g

  pub unsafe-told : s ≡ false → false ≡ p1 t i
  unsafe-told o = rw (sym e ∙ o)

-- the members of q, a set of the table's servers, without the supporters x of server i at its last entry
module _ (t : Table) (i q p x : ℕ) (e : x ≡ passing (count t) (supports_at t i p) q) (f : p ≡ length (server t i).log) (w : within q (count t) ≡ true) where
  opposing : bit_xor q x ≡ passing (count t) (opposes_at t i (length (server t i).log)) q
  opposing =
      rw (e, f) (without-passing (count t) q (supports_at t i (length (server t i).log)) (within-width (count t) (record { yes = subst T (sym w) tt })))

  pub opposed-told : ltb 0 (bit_xor q x) ≡ some_pass (count t) (opposes_at t i (length (server t i).log)) q
  opposed-told = ap (ltb 0) opposing

  pub opposed-at : count t ≤ most_servers → (r : ℕ) → r ≡ lowest_up_to 16 (λ s. member s (bit_xor q x))
      → Err (Opposed r) ≡ verdict_of (answer 23 (one_server (lowest_in (count t) (opposes_at t i (length (server t i).log)) q)))
  opposed-at few r f = ap (λ (s : ℕ). Err (Opposed s)) (fault-told (count t) (opposes_at t i (length (server t i).log)) q (bit_xor q x) opposing r few f)

-- where refusal 22 does not hold, the log has an entry
pub has-entry : (l : Log) (v p : ℕ) → (eqb (length l) 0 || not (eqb (last l) v)) ≡ false → p ≡ length l → 1 ≤ p
has-entry [] v p o e = let z : ◌≡◌ {A = ℕ} 0 1 = cc in omega arith
has-entry (x ∷ l) v p o e = omega arith

-- under rule 2 refusal 13 shows the majorities: one is not empty
pair-shown : (R s m : ℕ) → R ≢ 0 → 0 < s → 0 < m → all_meet s m ≡ false
    → Apart (old_apart s m) (new_apart s m) ≡ refused_of (answer 13 (apart_shown R s m))
pair-shown zero s m o a b f = absurd (o refl)
pair-shown (suc k) s m o a b f =
    let (some, _) = majority-range (old_apart s m) (some-apart s m a b (false-fails f)).pair.old in
    rw (ne_eqb (old_apart s m) 0 (omega arith))

-- a test that the code has turned round
pub denied : (r b : Bool) → r ≡ b → not r ≡ true → b ≡ false
denied true b e o = let z : ◌≡◌ {A = ℕ} 0 1 = cc in absurd (omega arith)
denied false b e o = sym e

-- refusal 13, where the code has read the rule u
module _ (R s m u : ℕ) (f : u ≡ R) where
  pub alone-told : u ≡ 0 → MayNotFollow ≡ refused_of (answer 13 (apart_shown R s m))
  alone-told z = rw (sym f ∙ z)

  -- and the set x
  module _ (x : ℕ) (e : x ≡ s) where
    module _ (h : (0 < s) × (0 < m)) (no : may_follow R s m ≡ false) (o : u ≢ 0) where
      not-met : all_meet s m ≡ false
      not-met = sym (other-rule R s m (rw f at o)) ∙ no

      pub read-not-met : all_meet x m ≡ false
      read-not-met = rw e not-met

      pub pair-told : (p : Pair) → p ≡ lowest_pair x m → Apart p.old p.new ≡ refused_of (answer 13 (apart_shown R s m))
      pair-told p q = rw (q, e) (pair-shown R s m (rw f at o) h.0 h.1 not-met)

-- what finds the first refusal from tests on sets, with the server that it shows
pub ruleset weighing = (replying, larger-told, newer-told, ahead-told, larger-at, newer-at, ahead-at, config-told, term_told, opposed-told, opposed-at)
