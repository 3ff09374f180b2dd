-- A step of a table that keeps the rules gives one that keeps them, and a fresh table keeps them. Assumes nothing.
use Prim.Native.Nat.{ℕ, ◌+◌, ◌-◌, ◌≤◌, ◌<◌}
use mathlib.Core.Bool.{not}
use mathlib.Core.List.{List, [], ◌∷◌, ◌++◌}
use mathlib.Core.Logic.{◌≢◌, inl, inr, ⊎_elim}
use mathlib.Core.Path.{◌≡◌, refl, sym, subst}
use native.Mathlib.Omega.{arith}
use lib.Dec.{leb, ltb}
use lib.ListN.{length, take, length-append, length-take, length-replicate}
use Rattle.members.specs.Members.{within}
use Rattle.words.proofs.Tests.{Passes, Fails, together, refuted, both-refuted, equal, unequal, less, above, is-at-most}
use Rattle.words.specs.Lists.{every}
use Rattle.algorithm.specs.Table.{Entry, entry_of, no_entry, Log, Table, count, server, primary, entry_at, with_server, changed, with_config, with_log, with_entry, ceiling, largest_bake, positions, sound_entry, sound_server, broken, fresh_server, fresh, most_servers}
use Rattle.algorithm.specs.Bytes.{Action, elect, reconfigure, commit, send, spread, fetch, roll_back, write, stretch, unknown, action_of}
use Rattle.algorithm.specs.Actions.{fetch_refusals, fetch_after, stepped_down, winner, next_config, joins}
use Rattle.algorithm.specs.Run.{known, after, step}
use Rattle.words.proofs.RefusalLaws.{NoneHold}
use Rattle.words.proofs.Lists.{length-replace, every-nth, every-plus, every_take, every-replicate}
use Rattle.algorithm.proofs.Refusals.{Taken, outcome}
use Rattle.algorithm.proofs.Seen.{count-voted}
use Rattle.algorithm.proofs.Fetches.{fetches-keep}
use Rattle.algorithm.proofs.Sound.{SoundServer, SoundTable, sound-server, table-sound, sound-table, here-sound, with-sound, mark-sound, stepped-sound, voted-sound}

module _ {t : Table} (h : SoundTable t) (i : ℕ) (a : SoundServer (count t) (server t i)) where
  log-sound : (l : Log) → length l ≤ positions → Passes (every sound_entry l) → SoundTable (with_server t i (with_log l (server t i)))
  log-sound l short e =
      with-sound h i (with_log l (server t i)) (record { role = a.role; term = a.term; config = a.config; short = short; entries = e })

  entry-sound : (e : Entry) → length (server t i).log < positions → Passes (sound_entry e) → SoundTable (changed t i (with_entry e))
  entry-sound e short s =
      log-sound ((server t i).log ++ (e ∷ [])) (omega (arith, length-append (server t i).log (e ∷ [])))
      (every-plus sound_entry (server t i).log e a.entries s)

  -- a primary's term can be an entry's, with any bake
  primary-entry : {B : ℕ} → B ≤ largest_bake → Fails (not (primary (server t i))) → Passes (sound_entry (entry_of (server t i).term B))
  primary-entry fits p =
      let e : (server t i).role ≡ 1 = equal (refuted p) in
      let some : 1 ≤ (server t i).term = ⊎_elim (λ r. r.1) (λ r. absurd (omega arith)) a.role in
      together (together (is-at-most some) (is-at-most a.term)) (is-at-most fits)

-- a taken fetch appends an entry of the other log
pub fetch-sound : (t : Table) (i j : ℕ) → SoundTable t → Passes (known (count t) i) × Passes (known (count t) j) → NoneHold (fetch_refusals t i j)
    → SoundTable (fetch_after t i j)
fetch-sound t i j h (i-fits, j-fits) none =
    let b = here-sound h j j-fits in
    let l : Log = (server t i).log in
    let m : Log = (server t j).log in
    let (first, _) = both-refuted {a = ltb (length l) (length m)} {b = joins l m} (none 20) in
    let longer : length l < length m = less first in
    entry-sound h i (here-sound h i i-fits) (entry_at m (length l + 1)) (omega (arith, b.short))
    (every-nth sound_entry m (length l + 1) no_entry b.entries (omega arith) (omega arith))

-- a taken action leaves a table that keeps the rules
pub after-sound : (t : Table) (a : Action) → Taken t a → SoundTable (after t a)
unfolding after
after-sound t unknown k = table-sound k.sound
after-sound t (elect i q) k =
    let h = table-sound k.sound in
    let a = here-sound h i k.fit.0 in
    let T' : ℕ = (server t i).term + 1 in
    let not_top : (server t i).term ≢ ceiling = unequal (k.own 11) in
    let top : T' ≤ ceiling = omega (arith, a.term) in
    with-sound (voted-sound h q T' top) i (winner T' (server t i))
    (subst (λ (n : ℕ). SoundServer n (winner T' (server t i))) (sym (count-voted q T' t))
    (record {
      role = inl (refl, omega arith);
      term = top;
      config = record { set = a.config.set; some = a.config.some; version = a.config.version; term = top };
      short = a.short;
      entries = a.entries;
    }))
after-sound t (reconfigure i m) k =
    let h = table-sound k.sound in
    let a = here-sound h i k.fit.0 in
    let not_top : (server t i).config.version ≢ ceiling = unequal (k.own 11) in
    with-sound h i (with_config (next_config m (server t i).config) (server t i))
    (record {
      role = a.role;
      term = a.term;
      config =
          record { set = k.fit.1; some = omega arith; version = omega (arith, a.config.version); term = a.config.term };
      short = a.short;
      entries = a.entries;
    })
after-sound t (send i j) k =
    let h = table-sound k.sound in
    let b = here-sound h j k.fit.1 in
    with-sound h j (with_config (server t i).config (server t j))
    (record { role = b.role; term = b.term; config = (here-sound h i k.fit.0).config; short = b.short; entries = b.entries })
after-sound t (spread i j) k =
    let h = table-sound k.sound in
    with-sound h j (stepped_down (server t i).term (server t j))
    (stepped-sound (here-sound h j k.fit.1) (server t i).term (here-sound h i k.fit.0).term)
after-sound t (write i B) k =
    let h = table-sound k.sound in
    let a = here-sound h i k.fit.0 in
    entry-sound h i a (entry_of (server t i).term B) (above (k.own 19)) (primary-entry h i a k.fit.1 (k.own 6))
after-sound t (fetch i j) k = fetch-sound t i j (table-sound k.sound) k.fit k.own
after-sound t (roll_back i j) k =
    let h = table-sound k.sound in
    let a = here-sound h i k.fit.0 in
    let l : Log = (server t i).log in
    log-sound h i a (take (length l - 1) l) (omega (arith, a.short, length-take (length l - 1) l)) (every_take sound_entry (length l - 1) l a.entries)
after-sound t (commit i q) k =
    let h = table-sound k.sound in
    mark-sound h (length (server t i).log) (server t i).term (here-sound h i k.fit.0).term
after-sound t (stretch i j c) k =
    let Fitting : Table → Type 0 = λ s. SoundTable s × (Passes (known (count s) i) × Passes (known (count s) j)) in
    let keeps : (s : Table) → NoneHold (fetch_refusals s i j) → Fitting s → Fitting (fetch_after s i j) =
    λ s none (h, fit). (fetch-sound s i j h fit none, rw (length-replace s.servers i _) fit) in
    (fetches-keep i j Fitting keeps c t (table-sound k.sound, k.fit.0)).0

-- a step of a table that is not broken gives a table that is not broken
pub step-sound : (t : Table) (a : List ℕ) → Fails (broken t) → Fails (broken (step t a).table)
step-sound t a h =
    ⊎_elim (λ d. rw d.table (sound-table (after-sound t (action_of a) d.taken))) (λ r. rw r.table h) (outcome t a)

-- a fresh table of 1 to 16 servers with a set within them, under one of the two rules and with a floor up to 16, is not broken
pub fresh-sound : (n M R F : ℕ) → 1 ≤ n → n ≤ most_servers → Passes (within M n) → R ≤ 1 → F ≤ most_servers → Fails (broken (fresh n M R F))
unfolding every
fresh-sound n M R F some few w one low =
    let e : count (fresh n M R F) ≡ n = length-replicate n (fresh_server M) in
    let sound : SoundServer (count (fresh n M R F)) (fresh_server M) = record {
      role = inr refl;
      term = omega arith;
      config = record { set = rw e w; some = omega arith; version = omega arith; term = omega arith };
      short = omega arith;
      entries = record { yes = tt };
    } in
    sound-table (record {
      some = omega arith;
      few = omega arith;
      servers = every-replicate (sound_server (count (fresh n M R F))) n (fresh_server M) (sound-server sound);
      full = length-replicate {A = ℕ} positions 0;
      marks = every-replicate (λ m. leb m ceiling) positions 0 (record { yes = tt });
      rule = one;
      floor = low;
    })
