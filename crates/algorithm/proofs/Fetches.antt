-- Single fetches one after another: what they keep, how many are taken, and two stretches joined. Assumes nothing.
use Prim.Native.Nat.{ℕ, zero, suc, ◌+◌, ◌-◌, ◌≤◌, ◌<◌, min}
use mathlib.Core.Bool.{Bool, true, false, cond}
use mathlib.Core.List.{[], ◌∷◌, ◌++◌}
use mathlib.Core.Logic.{◌≢◌}
use mathlib.Core.Path.{◌≡◌, refl, sym, ap, ◌∙◌}
use native.Mathlib.Decide.{ℕ_discrete}
use native.Mathlib.Nat.{zero-add, suc-add, zero-min, min-zero, suc-min-suc}
use native.Mathlib.Omega.{arith}
use lib.Dec.{ltb, eqb}
use lib.ListN.{length}
use borrow.Author.Tests.{eqb-true, eq-eqb, ne_eqb}
use Rattle.words.specs.Lists.{every}
use Rattle.words.specs.Refusal.{first}
use Rattle.words.proofs.Choice.{cond-elim, put-elim}
use Rattle.words.proofs.Lists.{length-replace, nth-replace, nth-replaced}
use Rattle.words.proofs.RefusalLaws.{NoneHold, none-hold}
use Rattle.words.proofs.Tests.{Passes, refuted, both-refuted, fails, fails-false, equal, less, is-equal, is-less, is_true, second-of}
use Rattle.algorithm.specs.Table.{Entry, Log, Table, absent, count, server, entry_at, term_at, last, with_entry}
use Rattle.algorithm.specs.Actions.{joins, fetch_refusals, fetch_after, Fetched, no_fetch, one_fetch, fetches}
use Rattle.algorithm.specs.Run.{known}
use Rattle.algorithm.proofs.Logs.{length-plus, at-plus-end}
use Rattle.algorithm.proofs.Seen.{known-range}

-- f, and then g on the table that f left
abbrev pub joined : Fetched → Fetched → Fetched
joined f g = record { copied = f.copied + g.copied; table = g.table }

module _ (i j : ℕ) where
  -- the next fetch is taken, or refused and with it those behind it
  taken_next : (c : ℕ) (t : Table) → first (fetch_refusals t i j) ≡ 0 → fetches (suc c) t i j ≡ one_fetch (fetches c (fetch_after t i j) i j)
  unfolding fetches
  taken_next c t e = rw e

  pub refused-next : (c : ℕ) (t : Table) → first (fetch_refusals t i j) ≢ 0 → fetches c t i j ≡ no_fetch t
  unfolding fetches
  refused-next zero t n = refl
  refused-next (suc c) t n = rw (ne_eqb (first (fetch_refusals t i j)) 0 n)

  -- what a taken fetch keeps, fetches one after another keep
  pub fetches-keep : (P : Table → Type 0) → ((t : Table) → NoneHold (fetch_refusals t i j) → P t → P (fetch_after t i j)) → (c : ℕ) (t : Table) → P t
      → P (fetches c t i j).table
  unfolding fetches every
  fetches-keep P keeps zero t h = h
  fetches-keep P keeps (suc c) t h = go (eqb (first (fetch_refusals t i j)) 0) refl (fetches-keep P keeps c (fetch_after t i j))
    where
      go : (b : Bool) → eqb (first (fetch_refusals t i j)) 0 ≡ b → (P (fetch_after t i j) → P (fetches c (fetch_after t i j) i j).table)
          → P (cond b (one_fetch (fetches c (fetch_after t i j) i j)) (no_fetch t)).table
      go true e rest = rest (keeps t (none-hold (fetch_refusals t i j) tt (eqb-true _ _ e)) h)
      go false e rest = h

  -- a stretch of a entries and then one of b is the stretch of a + b
  pub fetches-join : (a b : ℕ) (t : Table) → fetches (a + b) t i j ≡ joined (fetches a t i j) (fetches b (fetches a t i j).table i j)
  unfolding fetches
  fetches-join zero b t = rw (zero-add b, zero-add (fetches b t i j).copied)
  fetches-join (suc a) b t = go (ℕ_discrete (first (fetch_refusals t i j)) 0) (fetches-join a b (fetch_after t i j))
    where
      go : Dec (first (fetch_refusals t i j) ≡ 0)
          → fetches (a + b) (fetch_after t i j) i j ≡ joined (fetches a (fetch_after t i j) i j) (fetches b (fetches a (fetch_after t i j) i j).table i j)
          → fetches (suc a + b) t i j ≡ joined (fetches (suc a) t i j) (fetches b (fetches (suc a) t i j).table i j)
      go (yes e) rest = rw (suc-add a b, e, suc-add (fetches a (fetch_after t i j) i j).copied _) (ap one_fetch rest)
      go (no n) rest = rw (refused-next (suc a + b) t n, refused-next (suc a) t n, refused-next b t n)

  -- no more are copied than the count says
  pub copied-most : (c : ℕ) (t : Table) → (fetches c t i j).copied ≤ c
  unfolding fetches
  copied-most zero t = omega arith
  copied-most (suc c) t =
      cond-elim (λ (f : Fetched). f.copied ≤ suc c) (eqb (first (fetch_refusals t i j)) 0)
      (λ _. omega (arith, copied-most c (fetch_after t i j)))
      (λ _. omega arith)

  -- and fewer only where a further one would be refused
  pub stopped : (c : ℕ) (t : Table) → (fetches c t i j).copied < c → first (fetch_refusals (fetches c t i j).table i j) ≢ 0
  unfolding fetches
  stopped zero t h = absurd (omega arith)
  stopped (suc c) t h = go (ℕ_discrete (first (fetch_refusals t i j)) 0) (stopped c (fetch_after t i j)) h
    where
      go : Dec (first (fetch_refusals t i j) ≡ 0)
          → ((fetches c (fetch_after t i j) i j).copied < c → first (fetch_refusals (fetches c (fetch_after t i j) i j).table i j) ≢ 0)
          → (fetches (suc c) t i j).copied < suc c → first (fetch_refusals (fetches (suc c) t i j).table i j) ≢ 0
      go (yes e) rest h = rw (taken_next c t e) (rest (let less : suc (fetches c (fetch_after t i j) i j).copied < suc c = rw (taken_next c t e) at h in omega arith))
      go (no n) rest h = rw (refused-next (suc c) t n) n

  -- and where the first is taken, some are
  pub some-copied : (c : ℕ) (t : Table) → first (fetch_refusals t i j) ≡ 0 → 1 ≤ c → 1 ≤ (fetches c t i j).copied
  some-copied zero t e h = absurd (omega arith)
  some-copied (suc c) t e h = rw (taken_next c t e) (omega arith)

-- i's log joins j's, which is d entries longer, in a table that has server i, as a secondary
pub record Joined (t : Table) (i j d : ℕ) : Type 0 where
  pub known : Passes (known (count t) i)
  pub role : (server t i).role ≡ 0
  pub joins : Passes (joins (server t i).log (server t j).log)
  pub longer : length (server t j).log ≡ length (server t i).log + d

module _ (t : Table) (i j : ℕ) where
  abbrev l : Log
  l = (server t i).log

  abbrev m : Log
  m = (server t j).log

  -- so it is where a fetch is taken
  pub may-join : Passes (known (count t) i) → NoneHold (fetch_refusals t i j) → Joined t i j (length m - length l)
  may-join k none =
      let (longer, join) = both-refuted {a = ltb (length l) (length m)} {b = joins l m} (none 20) in
      let more : length l < length m = less longer in
      record { known = k; role = equal (refuted (none 6)); joins = join; longer = omega arith }

  -- a fetch is taken where an entry is left
  pub one_left : (d : ℕ) → Joined t i j (suc d) → first (fetch_refusals t i j) ≡ 0
  unfolding first
  one_left d h =
      let longer : ltb (length l) (length m) ≡ true = is_true _ (is-less {a = length l} (omega (arith, h.longer))).yes in
      let join : joins l m ≡ true = is_true _ h.joins.yes in
      rw (eq-eqb (server t i).role 0 h.role, longer, join)

  -- and refused where none is
  pub none_left : Joined t i j 0 → first (fetch_refusals t i j) ≢ 0
  unfolding first
  none_left h e =
      let longer : ltb (length l) (length m) ≡ false = fails-false (fails (λ y. let more : length l < length m = less y in omega (arith, h.longer))) in
      let z : ◌≡◌ {A = ℕ} 20 0 = rw (eq-eqb (server t i).role 0 h.role, longer) at e in
      omega arith

  -- i's log has an entry more
  entry_more : Passes (known (count t) i) → server (fetch_after t i j) i ≡ with_entry (entry_at m (length l + 1)) (server t i)
  entry_more k = let (some, few) = known-range k in nth-replaced t.servers i (with_entry (entry_at m (length l + 1)) (server t i)) absent some few

  -- a taken fetch leaves one fewer
  pub one_fewer : (d : ℕ) → Joined t i j (suc d) → Joined (fetch_after t i j) i j d
  one_fewer d h =
      let e : Entry = entry_at m (length l + 1) in
      let apart : i ≢ j = λ z. omega (arith, h.longer, ap (λ (n : ℕ). length (server t n).log) z) in
      let here = entry_more h.known in
      let (some, few) = known-range h.known in
      let there : server (fetch_after t i j) j ≡ server t j =
      nth-replace t.servers i (with_entry e (server t i)) absent some few j
      ∙ put-elim (λ n s. n ≡ j → s ≡ server t n) {f = server t} {k = i} {a = with_entry e (server t i)} (λ z. absurd (apart z)) (λ n _. refl) j refl in
      let end : last (l ++ (e ∷ [])) ≡ term_at m (length (l ++ (e ∷ []))) = rw (length-plus l e) (at-plus-end l e) in
      record {
        known = rw (length-replace t.servers i (with_entry e (server t i))) h.known;
        role = ap (λ s. s.role) here ∙ h.role;
        joins = rw (here, there) (second-of (eqb (length (l ++ (e ∷ []))) 0) (is-equal end));
        longer = rw (here, there) (omega (arith, h.longer, length-plus l e));
      }

-- ---- how many

module _ (i j : ℕ) where
  -- after k of k + d fetches d are left
  pub left-on : (k d n : ℕ) (t : Table) → n ≡ k + d → Joined t i j n → Joined (fetches k t i j).table i j d
  unfolding fetches
  left-on zero d n t e h = let same : n ≡ d = omega arith in rw same at h
  left-on (suc k) d zero t e h = absurd (omega arith)
  left-on (suc k) d (suc n) t e h = rw (one_left t i j n h) (left-on k d n (fetch_after t i j) (omega arith) (one_fewer t i j n h))

  -- one fetch more, where one is left
  pub fetches-next : (k n : ℕ) (t : Table) → k < n → Joined t i j n → (fetches (k + 1) t i j).table ≡ fetch_after (fetches k t i j).table i j
  unfolding fetches
  fetches-next k n t o h =
      let s = (fetches k t i j).table in
      let left : Joined s i j (suc (n - k - 1)) = left-on k (suc (n - k - 1)) n t (omega arith) h in
      ap (λ (f : Fetched). f.table) (fetches-join i j k 1 t ∙ ap (joined (fetches k t i j)) (taken_next i j 0 s (one_left s i j (n - k - 1) left)))

  -- as many are copied as the count says, or as j's log is longer
  pub copied_is : (c d : ℕ) (t : Table) → Joined t i j d → (fetches c t i j).copied ≡ min c d
  unfolding fetches
  copied_is zero d t h = omega arith
  copied_is (suc c) zero t h = rw (ne_eqb (first (fetch_refusals t i j)) 0 (none_left t i j h)) (omega arith)
  copied_is (suc c) (suc d) t h = rw (one_left t i j d h) (omega (arith, copied_is c d (fetch_after t i j) (one_fewer t i j d h)))

  -- a count above that is as good as that
  pub fetches-min : (c d : ℕ) (t : Table) → Joined t i j d → fetches (min c d) t i j ≡ fetches c t i j
  unfolding fetches
  fetches-min zero d t h = rw (zero-min d)
  fetches-min (suc c) zero t h = rw (min-zero (suc c)) (sym (refused-next i j (suc c) t (none_left t i j h)))
  fetches-min (suc c) (suc d) t h =
      rw (suc-min-suc c d, one_left t i j d h) (ap one_fetch (fetches-min c d (fetch_after t i j) (one_fewer t i j d h)))

  -- and by so many i's log has grown
  pub copied-grows : (c : ℕ) (t : Table) → Passes (known (count t) i)
      → length (server (fetches c t i j).table i).log ≡ length (server t i).log + (fetches c t i j).copied
  unfolding fetches
  copied-grows zero t k = omega arith
  copied-grows (suc c) t k =
      let entry : Entry = entry_at (server t j).log (length (server t i).log + 1) in
      let one : length (server (fetch_after t i j) i).log ≡ length (server t i).log + 1 =
      ap (λ s. length s.log) (entry_more t i j k) ∙ length-plus (server t i).log entry in
      let rest = copied-grows c (fetch_after t i j) (rw (length-replace t.servers i (with_entry entry (server t i))) k) in
      cond-elim (λ (f : Fetched). length (server f.table i).log ≡ length (server t i).log + f.copied) (eqb (first (fetch_refusals t i j)) 0)
      (λ _. omega arith)
      (λ _. omega arith)
