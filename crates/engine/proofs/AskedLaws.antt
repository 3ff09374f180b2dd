-- What is asked, by its kind: what the refusals that do not hold leave to the function that does it. Assumes nothing.
use Prim.Native.Nat.{ℕ, ◌≤◌, ◌<◌}
use native.Mathlib.Omega.{arith}
use mathlib.Core.Path.{◌≡◌, sym, subst}
use mathlib.Core.Logic.{◌≢◌}
use mathlib.Core.Bool.{true, false, not}
use mathlib.Core.List.{List, [], ◌∷◌}
use lib.Dec.{T, leb, ltb, eqb}
use lib.ListN.{length}
use Rattle.words.specs.Lists.{every}
use Rattle.words.specs.Refusal.{first, given}
use Rattle.words.proofs.Tests.{Fails, both, together, neither, both-refuted, unequal, less, at_most, above, is_true, is-at-most, false-fails}
use Rattle.words.proofs.RefusalLaws.{none-hold}
use Rattle.members.specs.Members.{within}
use Rattle.std.specs.Prelude.{Result}
use Rattle.algorithm.specs.declared.Refused.{Refused}
use Rattle.algorithm.specs.Table.{Log, Table, broken, count, server, ceiling, positions, last, prefix}
use Rattle.algorithm.specs.Actions.{joins, elect_refusals, reconfigure_refusals, write_refusals, fetch_refusals, roll_back_refusals, commit_refusals, fetches}
use Rattle.algorithm.specs.Run.{verdict_of, own_refusals, after, taken_shown}
use Rattle.algorithm.proofs.Refusals.{Fits}
use Rattle.algorithm.proofs.Sound.{SoundServer, table-sound, here-sound}
use Rattle.table.specs.Slice.{Holds, Within}
use Rattle.table.proofs.HeldLaws.{known-within}
use Rattle.form.specs.declared.Asked.{Asked}
use Rattle.form.specs.declared.Asked.TheVariants.{Elect, Reconfigure, Send, Spread, Write, Fetch, RollBack, Commit, Stretch}
use Rattle.form.specs.Form.{named}
use Rattle.engine.specs.Engine.{Fitting}

pub fits : (t : Table) (x : Asked) → Fits (count t) (named x) → Fitting t x
fits t (Elect i q) (k, w) = (known-within t _ k, is_true _ w.yes)
fits t (Reconfigure i m) (k, w) = (known-within t _ k, is_true _ w.yes)
fits t (Send i j) (k, l) = (known-within t _ k, known-within t _ l)
fits t (Spread i j) (k, l) = (known-within t _ k, known-within t _ l)
fits t (Write i B) (k, _) = known-within t _ k
fits t (Fetch i j) (k, l) = (known-within t _ k, known-within t _ l)
fits t (RollBack i j) (k, l) = (known-within t _ k, known-within t _ l)
fits t (Commit i q) (k, w) = (known-within t _ k, is_true _ w.yes)
fits t (Stretch i j c) ((k, l), w) = let (some, most) = both {a = leb 1 c} w in (known-within t _ k, known-within t _ l, (at_most some, at_most most))

-- ---- who takes part

module _ (t : Table) (x : Asked) (i j : ℕ) (f : Fitting t x) where
  pub elect-i : x ≡ Elect i j → Within t i
  elect-i e = (rw e at f).0

  pub elect-set : x ≡ Elect i j → within j (count t) ≡ true
  elect-set e = (rw e at f).1

  pub reconfigure-i : x ≡ Reconfigure i j → Within t i
  reconfigure-i e = (rw e at f).0

  pub send-i : x ≡ Send i j → Within t i
  send-i e = (rw e at f).0

  pub send-j : x ≡ Send i j → Within t j
  send-j e = (rw e at f).1

  pub spread-i : x ≡ Spread i j → Within t i
  spread-i e = (rw e at f).0

  pub spread-j : x ≡ Spread i j → Within t j
  spread-j e = (rw e at f).1

  pub write-i : x ≡ Write i j → Within t i
  write-i e = rw e at f

  pub fetch-i : x ≡ Fetch i j → Within t i
  fetch-i e = (rw e at f).0

  pub fetch-j : x ≡ Fetch i j → Within t j
  fetch-j e = (rw e at f).1

  pub roll-back-i : x ≡ RollBack i j → Within t i
  roll-back-i e = (rw e at f).0

  pub roll-back-j : x ≡ RollBack i j → Within t j
  roll-back-j e = (rw e at f).1

  pub commit-i : x ≡ Commit i j → Within t i
  commit-i e = (rw e at f).0

  pub commit-set : x ≡ Commit i j → within j (count t) ≡ true
  commit-set e = (rw e at f).1

module _ (t : Table) (x : Asked) (i j c : ℕ) (f : Fitting t x) (e : x ≡ Stretch i j c) where
  pub stretch-i : Within t i
  stretch-i = (rw e at f).0

  pub stretch-j : Within t j
  stretch-j = (rw e at f).1

  stretch-count : (1 ≤ c) × (c ≤ positions)
  stretch-count = (rw e at f).2

sound-at : {t : Table} {i : ℕ} → broken t ≡ false → Within t i → SoundServer (count t) (server t i)
sound-at {t} {i} h w = here-sound (table-sound (false-fails h)) i (together (is-at-most w.some) (is-at-most w.known))

-- a reconfiguration has an old set and a new one that are not empty
module _ (t : Table) (x : Asked) (i m : ℕ) (h : broken t ≡ false) (f : Fitting t x) (e : x ≡ Reconfigure i m) where
  pub old-some : 0 < (server t i).config.set
  old-some = less (both {a = ltb 0 (server t i).config.set} (sound-at h (reconfigure-i t x i m f e)).config.set).0

  pub new-some : 0 < m
  new-some =
      let fit : Fitting t (Reconfigure i m) = rw e at f in
      less (both {a = ltb 0 m} (record { yes = subst T (sym fit.1) tt })).0

-- ---- what is said of a kind is said of what is asked

pub judged : (t : Table) (x y : Asked) (r : Result (Unit {0}) Refused) → x ≡ y → r ≡ verdict_of (given (own_refusals t (named y)))
    → r ≡ verdict_of (given (own_refusals t (named x)))
judged t x y r e h = rw e h

-- nothing is shown of it
pub quietly : (t : Table) (x y : Asked) → x ≡ y → 0 ≡ (taken_shown t (named y)).copied → 0 ≡ (taken_shown t (named x)).copied
quietly t x y e h = rw e h

pub did : (b : List ℕ) (t : Table) (x y : Asked) → x ≡ y → Holds b (after t (named y)) → Holds b (after t (named x))
did b t x y e h = rw e h

-- ---- what the kinds need of the table

below_top : {n : ℕ} → Fails (eqb n ceiling) → n ≤ ceiling → n < ceiling
below_top {n} h l = let other : n ≢ ceiling = unequal h in omega arith

-- an empty log is a prefix of any
not-prefix : (l m : Log) → Fails (prefix l m) → 1 ≤ length l
unfolding prefix
not-prefix [] m h = absurd h.no
not-prefix (e ∷ l) m h = omega arith

module _ (t : Table) (x : Asked) (i j : ℕ) (h : broken t ≡ false) (f : Fitting t x) (z : first (own_refusals t (named x)) ≡ 0) where
  pub elect-below : x ≡ Elect i j → (server t i).term < ceiling
  unfolding every
  elect-below e = below_top (none-hold (elect_refusals t i j) tt (rw e at z) 11) (sound-at h (elect-i t x i j f e)).term

  pub reconfigure-below : x ≡ Reconfigure i j → (server t i).config.version < ceiling
  unfolding every
  reconfigure-below e =
      below_top (none-hold (reconfigure_refusals t i j) tt (rw e at z) 11) (sound-at h (reconfigure-i t x i j f e)).config.version

  pub write-room : x ≡ Write i j → length (server t i).log < positions
  unfolding every
  write-room e = above (none-hold (write_refusals t i) tt (rw e at z) 19)

  -- the other's log is longer, and has room itself
  pub fetch-room : x ≡ Fetch i j → length (server t i).log < positions
  unfolding every
  fetch-room e =
      let l = (server t i).log in
      let m = (server t j).log in
      let longer : length l < length m =
      less (both-refuted {a = ltb (length l) (length m)} {b = joins l m} (none-hold (fetch_refusals t i j) tt (rw e at z) 20)).0 in
      omega (arith, (sound-at h (fetch-j t x i j f e)).short)

  pub roll-back-some : x ≡ RollBack i j → 1 ≤ length (server t i).log
  unfolding every
  roll-back-some e =
      let l = (server t i).log in
      let m = (server t j).log in
      not-prefix l m (neither {a = not (ltb (last l) (last m))} (none-hold (roll_back_refusals t i j) tt (rw e at z) 21)).1

  pub commit-some : x ≡ Commit i j → 1 ≤ length (server t i).log
  unfolding every
  commit-some e =
      let n = length (server t i).log in
      let some : n ≢ 0 = unequal (neither {a = eqb n 0} (none-hold (commit_refusals t i j) tt (rw e at z) 22)).0 in
      omega arith

-- a stretch is a fetch and perhaps more
module _ (t : Table) (x : Asked) (i j c : ℕ) (z : first (own_refusals t (named x)) ≡ 0) (e : x ≡ Stretch i j c) where
  pub stretch-first : first (fetch_refusals t i j) ≡ 0
  stretch-first = rw e at z

  pub stretch-told : (k : ℕ) → k ≡ (fetches c t i j).copied → k ≡ (taken_shown t (named x)).copied
  stretch-told k h = rw e h

-- ---- what finds that a kind may be judged, and done

pub ruleset judging = (elect-i, reconfigure-i, old-some, new-some, send-i, send-j, spread-i, spread-j, write-i, fetch-i, fetch-j, roll-back-i, roll-back-j, commit-i, commit-set, stretch-i, stretch-j, judged)

pub ruleset acting = (elect-i, elect-set, elect-below, reconfigure-i, reconfigure-below, send-i, send-j, spread-i, spread-j, write-i, write-room, fetch-i, fetch-j, fetch-room, roll-back-i, roll-back-some, commit-i, commit-some, stretch-i, stretch-j, stretch-first, stretch-told, did, quietly)
