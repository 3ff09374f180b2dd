-- How the theory sees a table, and what it sees after another server, other voters or another mark. Assumes nothing.
use Prim.Native.Nat.{ℕ, zero, suc, ◌+◌, ◌^◌, ◌≤◌, ◌<◌}
use mathlib.Core.Bool.{Bool, true, false, cond}
use mathlib.Core.List.{List, [], ◌∷◌}
use mathlib.Core.Logic.{◌⊎◌, inl, inr}
use mathlib.Core.Path.{◌≡◌, refl, ap, ◌∙◌}
use native.Mathlib.Decide.{dec_lt}
use native.Mathlib.Omega.{arith}
use lib.Dec.{ltb, eqb}
use lib.ListN.{length, get_or, get_or-eq_default, replicate}
use Rattle.members.specs.Members.{member, within}
use Rattle.words.proofs.Tests.{Passes, both, less, at_most}
use Rattle.members.proofs.Masks.{member-above}
use Rattle.words.specs.Lists.{nth, put}
use Rattle.algorithm.specs.Table.{Log, Server, Table, count, absent, server, mark, with_server, with_log, fresh_server, fresh}
use Rattle.algorithm.specs.Actions.{stepped_down, voters_from, voted}
use Rattle.algorithm.specs.Run.{known}
use Rattle.algorithm.proofs.Logless as logless
use Rattle.algorithm.proofs.Logless.{State, core}
use Rattle.words.proofs.Choice.{put-elim}
use Rattle.words.proofs.Lists.{nth-replace}
use Rattle.algorithm.proofs.Full.{View}

abbrev pub view : Table → View
view t = record { core = core t; log = λ n. (server t n).log; mark = mark t }

-- two views are the same where they show the same of every server and position
pub view-is : (t : Table) {c : State} {L : ℕ → Log} {M : ℕ → ℕ} → ((n : ℕ) → core t n ≡ c n) → ((n : ℕ) → (server t n).log ≡ L n)
    → ((p : ℕ) → mark t p ≡ M p) → view t ≡ record { core = c; log = L; mark = M }
view-is t f g h = λ i. record { core = λ n. f n i; log = λ n. g n i; mark = λ p. h p i }

pub known-range : {n i : ℕ} → Passes (known n i) → (1 ≤ i) × (i ≤ n)
known-range k = let (a, b) = both k in (at_most a, at_most b)

pub within-width : {m : ℕ} (n : ℕ) → Passes (within m n) → m < 2 ^ n
within-width {m} n w = less (both {a = ltb 0 m} w).1

-- ---- another server i

module _ (t : Table) (i : ℕ) (s : Server) (here : Passes (known (count t) i)) where
  server-with : (n : ℕ) → server (with_server t i s) n ≡ put (server t) i s n
  server-with = let (a, b) = known-range here in nth-replace t.servers i s absent a b

  seen-with : {B : Type 0} (f : Server → B) (n : ℕ) → f (server (with_server t i s) n) ≡ put (λ m. f (server t m)) i (f s) n
  unfolding put
  seen-with f n = ap f (server-with n) ∙ go (eqb n i)
    where
      go : (b : Bool) → f (cond b s (server t n)) ≡ cond b (f s) (f (server t n))
      go true = refl
      go false = refl

  -- what does not differ at server i does not change
  same-with : {B : Type 0} (f : Server → B) → f s ≡ f (server t i) → (n : ℕ) → f (server (with_server t i s) n) ≡ f (server t n)
  same-with f e n = seen-with f n ∙ put-elim (λ m x. x ≡ f (server t m)) e (λ m. refl) n

  -- its role, term and configuration are other
  pub view-core : s.log ≡ (server t i).log → view (with_server t i s) ≡ record { core = put (core t) i (with_log [] s); log = (view t).log; mark = mark t }
  view-core e = view-is (with_server t i s) (seen-with (with_log [])) (same-with (λ a. a.log) e) (λ p. refl)

  -- its log is other
  pub view-log : with_log [] s ≡ core t i → view (with_server t i s) ≡ record { core = core t; log = put (view t).log i s.log; mark = mark t }
  view-log e = view-is (with_server t i s) (same-with (with_log []) e) (seen-with (λ a. a.log)) (λ p. refl)

-- ---- voters

module _ (q T' : ℕ) where
  -- the members among the servers k, k + 1, ..
  get_or-voters : (l : List Server) (k m n : ℕ) → n ≡ k + m → m < length l
      → get_or (voters_from k q T' l) m absent ≡ cond (member n q) (stepped_down T' (get_or l m absent)) (get_or l m absent)
  unfolding voters_from
  get_or-voters [] k m n e h = absurd (omega arith)
  get_or-voters (s ∷ l) k zero n e h = let z : k ≡ n = omega arith in rw z
  get_or-voters (s ∷ l) k (suc m) n e h = get_or-voters l (suc k) m n (omega arith) (omega arith)

  length-voters : (l : List Server) (k : ℕ) → length (voters_from k q T' l) ≡ length l
  unfolding voters_from
  length-voters [] k = refl
  length-voters (s ∷ l) k = ap suc (length-voters l (suc k))

  pub count-voted : (t : Table) → count (voted t q T') ≡ count t
  count-voted t = length-voters t.servers 1

  module _ (t : Table) (sets : Passes (within q (count t))) where
    pub server-voted : (n : ℕ) → server (voted t q T') n ≡ cond (member n q) (stepped_down T' (server t n)) (server t n)
    unfolding nth
    server-voted zero = refl
    server-voted (suc m) = go (dec_lt m (count t))
      where
        go : Dec (m < count t)
            → get_or (voters_from 1 q T' t.servers) m absent ≡ cond (member (suc m) q) (stepped_down T' (get_or t.servers m absent)) (get_or t.servers m absent)
        go (yes h) = get_or-voters t.servers 1 m (suc m) (omega arith) h
        go (no h) =
            rw (
              get_or-eq_default (voters_from 1 q T' t.servers) absent {n = m} (omega (arith, length-voters t.servers 1)),
              get_or-eq_default t.servers absent {n = m} (omega arith),
              member-above (count t) (suc m) (within-width (count t) sets) (omega arith),
            )

    -- logs are those that were, and the rest is as the algorithm without logs says
    pub log-voted : (n : ℕ) → (server (voted t q T') n).log ≡ (server t n).log
    log-voted n = ap (λ a. a.log) (server-voted n) ∙ go (member n q)
      where
        go : (b : Bool) → (cond b (stepped_down T' (server t n)) (server t n)).log ≡ (server t n).log
        go true = refl
        go false = refl

    pub core-voted : (n : ℕ) → core (voted t q T') n ≡ logless.voted (core t) q T' n
    unfolding logless.voted
    core-voted n = ap (with_log []) (server-voted n) ∙ go (member n q)
      where
        go : (b : Bool) → with_log [] (cond b (stepped_down T' (server t n)) (server t n)) ≡ cond b (stepped_down T' (core t n)) (core t n)
        go true = refl
        go false = refl

-- ---- a fresh table

module _ (n M R F : ℕ) where
  fresh-or-absent : (n k : ℕ) → (get_or (replicate n (fresh_server M)) k absent ≡ fresh_server M) ⊎ (get_or (replicate n (fresh_server M)) k absent ≡ absent)
  fresh-or-absent zero k = inr refl
  fresh-or-absent (suc n) zero = inl refl
  fresh-or-absent (suc n) (suc k) = fresh-or-absent n k

  pub server-fresh : (k : ℕ) → (server (fresh n M R F) k ≡ fresh_server M) ⊎ (server (fresh n M R F) k ≡ absent)
  unfolding nth
  server-fresh zero = inr refl
  server-fresh (suc k) = fresh-or-absent n k
