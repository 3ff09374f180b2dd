-- A stretch beside the single fetches that it stands for: its reply, its table and its count. Assumes nothing.
use Prim.Native.Nat.{ℕ, zero, suc, ◌+◌, ◌-◌, ◌≤◌, ◌<◌, min}
use mathlib.Core.Bool.{true}
use mathlib.Core.List.{List}
use mathlib.Core.Logic.{◌≢◌}
use mathlib.Core.Path.{◌≡◌, refl, sym, ap, ◌∙◌}
use native.Mathlib.Decide.{ℕ_discrete}
use native.Mathlib.Omega.{arith}
use lib.Dec.{ltb}
use lib.ListN.{length, replicate, replicate-append-replicate}
use Rattle.words.specs.Lists.{between}
use Rattle.words.specs.Refusal.{first}
use Rattle.words.proofs.Lists.{length-replace}
use Rattle.words.proofs.Tests.{Passes, Fails, together, both-refuted, fails-false, less, is_true, is-at-most}
use Rattle.algorithm.specs.Table.{Table, count, server, broken, positions}
use Rattle.algorithm.specs.Bytes.{stretch, set_of}
use Rattle.algorithm.specs.Actions.{joins, fetch_refusals, fetch_after, Fetched, fetches}
use Rattle.algorithm.specs.Cases.{action_bytes}
use Rattle.algorithm.specs.Run.{known, refusals, after, step, Ran, play}
use Rattle.algorithm.proofs.Refusals.{Taken, taken, refused-stays}
use Rattle.algorithm.proofs.Fetches.{refused-next, fetches-join, may-join, copied_is, copied-grows}
use Rattle.algorithm.proofs.Kept.{step-sound}
use Rattle.algorithm.proofs.Runs.{play-append}

module _ (i j : ℕ) where
  -- the bytes of a fetch
  abbrev pub single : List ℕ
  single = action_bytes 6 i j 0

  -- the bytes of a stretch of c entries
  abbrev pub several : ℕ → List ℕ
  several c = action_bytes 9 i j c

  -- c fetches in a plan
  abbrev pub singles : ℕ → List (List ℕ)
  singles c = replicate c single

  module _ (c : ℕ) (some : 1 ≤ c) (most : c ≤ positions) where
    count-read : set_of (several c) ≡ c
    count-read = omega arith

    -- a stretch is refused as a fetch is
    pub same-refusals : (t : Table) → refusals t (several c) ≡ refusals t single
    unfolding refusals
    same-refusals t =
        let fits : between 1 positions c ≡ true = is_true _ (together (is-at-most some) (is-at-most most)).yes in
        rw (count-read, fits)

    -- its number is the fetch's
    pub stretch-number : (t : Table) → (step t (several c)).number ≡ (step t single).number
    unfolding step
    stretch-number t = ap first (same-refusals t)

    -- where it is taken, it is fetches one after another
    taken-stretch : (t : Table) → (step t (several c)).number ≡ 0 → Taken t (stretch i j c)
    unfolding step
    taken-stretch t e = rw count-read at (taken t (several c) e)

    stretch-table : (t : Table) → (step t (several c)).number ≡ 0 → (step t (several c)).table ≡ (fetches c t i j).table
    unfolding step after
    stretch-table t e = rw (e, count-read)

    -- and tells how many
    pub stretch-copied : (t : Table) → (step t (several c)).number ≡ 0 → (step t (several c)).shown.copied ≡ (fetches c t i j).copied
    unfolding step
    stretch-copied t e = rw (e, count-read)

    -- by so many i's log has grown
    pub stretch-grows : (t : Table) → (step t (several c)).number ≡ 0
        → length (server (step t (several c)).table i).log ≡ length (server t i).log + (step t (several c)).shown.copied
    stretch-grows t e = rw (stretch-table t e, stretch-copied t e) (copied-grows i j c t (taken-stretch t e).fit.0.0)

    -- which is its count, or what j's log has more where that is less
    pub stretch-most : (t : Table) → (step t (several c)).number ≡ 0
        → (step t (several c)).shown.copied ≡ min c (length (server t j).log - length (server t i).log)
    stretch-most t e =
        let k = taken-stretch t e in
        stretch-copied t e ∙ copied_is i j c (length (server t j).log - length (server t i).log) t (may-join t i j k.fit.0.0 k.own)

    -- and that is some
    pub stretch-some : (t : Table) → (step t (several c)).number ≡ 0 → 1 ≤ (step t (several c)).shown.copied
    stretch-some t e =
        let l = (server t i).log in
        let m = (server t j).log in
        let longer : length l < length m =
        less (both-refuted {a = ltb (length l) (length m)} {b = joins l m} ((taken-stretch t e).own 20)).0 in
        omega (arith, stretch-most t e)

  -- ---- the table is what so many fetches in a plan leave

  -- a fetch that is refused is refused again
  refused-again : (c : ℕ) (t : Table) → (step t single).number ≢ 0 → (play t (singles c)).table ≡ t
  unfolding play
  refused-again zero t n = refl
  refused-again (suc c) t n = ap (λ (s : Table). (play s (singles c)).table) (refused-stays t single (omega arith)) ∙ refused-again c t n

  -- the table keeps the rules and has both servers, so that 1 to 5 do not hold
  abbrev Ready : Table → Type 0
  Ready t = Fails (broken t) × (Passes (known (count t) i) × Passes (known (count t) j))

  ready-number : (t : Table) → Ready t → (step t single).number ≡ first (fetch_refusals t i j)
  unfolding step refusals first
  ready-number t (sound, (a, b)) = rw (fails-false sound, is_true (known (count t) i) a.yes, is_true (known (count t) j) b.yes)

  fetch-table : (t : Table) → (step t single).number ≡ 0 → (step t single).table ≡ fetch_after t i j
  unfolding step after
  fetch-table t e = rw e

  plays-fetches : (c : ℕ) (t : Table) → Ready t → (play t (singles c)).table ≡ (fetches c t i j).table
  unfolding play fetches
  plays-fetches zero t h = refl
  plays-fetches (suc c) t h = go (ℕ_discrete (first (fetch_refusals t i j)) 0) (plays-fetches c (fetch_after t i j))
    where
      go : Dec (first (fetch_refusals t i j) ≡ 0) → (Ready (fetch_after t i j) → (play (fetch_after t i j) (singles c)).table ≡ (fetches c (fetch_after t i j) i j).table)
          → (play t (singles (suc c))).table ≡ (fetches (suc c) t i j).table
      go (yes e) rest =
          let same : (step t single).table ≡ fetch_after t i j = fetch-table t (ready-number t h ∙ e) in
          let sound : Fails (broken (fetch_after t i j)) = rw same at (step-sound t single h.0) in
          rw e (ap (λ (s : Table). (play s (singles c)).table) same ∙ rest (sound, rw (length-replace t.servers i _) h.1))
      go (no n) rest =
          refused-again (suc c) t (λ z. n (sym (ready-number t h) ∙ z)) ∙ ap (λ (f : Fetched). f.table) (sym (refused-next i j (suc c) t n))

  module _ (c : ℕ) (some : 1 ≤ c) (most : c ≤ positions) where
    pub stretch-plays : (t : Table) → (step t (several c)).table ≡ (play t (singles c)).table
    stretch-plays t = go (ℕ_discrete (step t (several c)).number 0)
      where
        go : Dec ((step t (several c)).number ≡ 0) → (step t (several c)).table ≡ (play t (singles c)).table
        go (yes e) =
            let k = taken-stretch c some most t e in
            stretch-table c some most t e ∙ sym (plays-fetches c t (k.sound, k.fit.0))
        go (no n) =
            refused-stays t (several c) (omega arith) ∙ sym (refused-again c t (λ z. n (stretch-number c some most t ∙ z)))

  -- a stretch of one entry is a fetch
  pub stretch-one : (t : Table) → (step t (several 1)).table ≡ (step t single).table
  unfolding play
  stretch-one t = stretch-plays 1 (omega arith) (omega arith) t

  -- a stretch of a entries and then one of b leave what the stretch of a + b leaves, and the counts of both are its count
  module _ (a b : ℕ) (some : 1 ≤ a) (more : 1 ≤ b) (most : a + b ≤ positions) (t : Table) where
    pub stretches-join : (step (step t (several a)).table (several b)).table ≡ (step t (several (a + b))).table
    stretches-join =
        stretch-plays b more (omega arith) (step t (several a)).table
        ∙ ap (λ (s : Table). (play s (singles b)).table) (stretch-plays a some (omega arith) t)
        ∙ ap (λ (r : Ran). r.table) (sym (play-append t (singles a) (singles b)))
        ∙ ap (λ (p : List (List ℕ)). (play t p).table) (replicate-append-replicate a b single)
        ∙ sym (stretch-plays (a + b) (omega arith) most t)

    pub counts-join : (step t (several a)).number ≡ 0 → (step (step t (several a)).table (several b)).number ≡ 0
        → (step t (several (a + b))).shown.copied ≡ (step t (several a)).shown.copied + (step (step t (several a)).table (several b)).shown.copied
    counts-join e f =
        let whole : (step t (several (a + b))).number ≡ 0 =
        stretch-number (a + b) (omega arith) most t ∙ sym (stretch-number a some (omega arith) t) ∙ e in
        rw (
          stretch-copied (a + b) (omega arith) most t whole,
          stretch-copied b more (omega arith) (step t (several a)).table f,
          stretch-copied a some (omega arith) t e,
          stretch-table a some (omega arith) t e,
        )
        (ap (λ (f : Fetched). f.copied) (fetches-join i j a b t))
