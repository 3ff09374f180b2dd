-- A taken action of the algorithm is moves of the theory: what each test of a refusal means, kind by kind. Assumes nothing.
use Prim.Native.Nat.{ℕ, zero, suc, ◌+◌, ◌-◌, ◌^◌, ◌≤◌, ◌<◌}
use mathlib.Core.Bool.{not, ◌||◌}
use mathlib.Core.List.{List, [], ◌∷◌}
use mathlib.Core.Logic.{◌≢◌, inl, inr, ⊎_elim}
use mathlib.Core.Path.{◌≡◌, refl, sym, ap, ◌∙◌, subst}
use native.Mathlib.Nat.{eq-or-lt_of_le}
use native.Mathlib.Decide.{dec_le}
use native.Mathlib.Omega.{arith}
use lib.Dec.{ltb, eqb}
use lib.ListN.{length, get_or, take, get_or-eq_default}
use Rattle.members.specs.Members.{member, within, majority}
use Rattle.words.proofs.Tests.{Passes, both, together, either, neither, refuted, contradiction, both-refuted, equal, unequal, less, not-less, at_most, is-equal, is-at-most}
use Rattle.members.proofs.Majorities.{majority-is, may-follow, most-map, none_passes, most-pass}
use Rattle.words.specs.Lists.{nth, put}
use Rattle.words.specs.Refusal.{refuse}
use Rattle.algorithm.specs.Table.{Log, Server, Table, count, server, entry_of, entry_at, mark, with_config, with_entry, with_log, positions, newer, last, held, prefix}
use Rattle.algorithm.specs.Bytes.{Action, elect, reconfigure, commit, send, spread, fetch, roll_back, write, unknown, action_of, stretch}
use Rattle.algorithm.specs.Actions.{stepped_down, voted, winner, elect_after, some_marked, holds_marked, p1, marked_otherwise, next_config, reconfigure_after, send_after, spread_after, write_after, fetch_after, roll_back_after, entry_refusals, commit_after, fetch_refusals, fetches}
use Rattle.algorithm.specs.Run.{known, after, step, wins, brought_by, Written, writes}
use Rattle.algorithm.proofs.Logless as logless
use Rattle.algorithm.proofs.Logless.{core}
use Rattle.words.proofs.Lists.{length-replace, nth-replace}
use Rattle.words.proofs.RefusalLaws.{NoneHold, none_before}
use Rattle.algorithm.proofs.Refusals.{Taken, outcome}
use Rattle.algorithm.proofs.Logs.{HasEntry, Prefix}
use Rattle.algorithm.proofs.Full as full
use Rattle.algorithm.proofs.Full.{View, Settled, CanFetch, CanCommit, LogMoves, then, Moves, sets, logs, rests, one}
use Rattle.algorithm.proofs.Seen.{view, view-is, within-width, view-core, view-log, count-voted, log-voted, core-voted}
use Rattle.algorithm.proofs.Sound.{SoundTable, table-sound, here-sound}
use Rattle.algorithm.proofs.Fetches.{fetches-keep}

-- ---- what the tests mean

pub held-is : {l : Log} {p u : ℕ} → Passes (held l p u) → HasEntry l p u
held-is h =
    let (ab, c) = both h in
    let (a, b) = both ab in
    record { some = at_most a; within = at_most b; is = equal c }

pub is_held : {l : Log} {p u : ℕ} → HasEntry l p u → Passes (held l p u)
is_held h = together (together (is-at-most h.some) (is-at-most h.within)) (is-equal h.is)

is-prefix : (l m : Log) → Prefix l m → Passes (prefix l m)
unfolding prefix nth
is-prefix [] m f = record { yes = tt }
is-prefix (e ∷ l) [] f = absurd (omega (arith, f.short))
is-prefix (e ∷ l) (d ∷ m) f =
    together (is-equal (f.same 1 (omega arith)))
    (is-prefix l m (record { short = omega (arith, f.short); same = elim [ zero ↦ λ _. refl | suc k ↦ λ h. f.same (suc (suc k)) (omega arith) ] }))

pub some-marked : (ms : List ℕ) (u : ℕ) → Passes (some_marked ms u) → (p : ℕ) × (nth ms p 0 ≡ u)
unfolding some_marked nth
some-marked ms u h = let (k, e) = go ms h in (suc k, e)
  where
    go : (ms : List ℕ) → Passes (some_marked ms u) → (k : ℕ) × (get_or ms k 0 ≡ u)
    go [] h = absurd h.yes
    go (m ∷ ms) h = ⊎_elim (λ e. (0, equal e)) (λ r. let (k, e) = go ms r in (suc k, e)) (either {a = eqb m u} h)

pub holds-marked : (t : Table) (u : ℕ) (l : Log) (k : ℕ) → Passes (holds_marked k t u l) → (p : ℕ) → 1 ≤ p → p ≤ k → mark t p ≡ u → HasEntry l p u
unfolding holds_marked
holds-marked t u l zero h p a b e = absurd (omega arith)
holds-marked t u l (suc k) h p a b e =
    let (here, rest) = both {a = not (eqb (mark t (suc k)) u) || held l (suc k) u} h in
    ⊎_elim
    (λ z. rw z
    (⊎_elim (λ n. absurd (contradiction (record { no = n.yes }) (is-equal (ap (mark t) (sym z) ∙ e)))) held-is
    (either {a = not (eqb (mark t (suc k)) u)} here)))
    (λ o. holds-marked t u l k rest p a (omega arith) e)
    (eq-or-lt_of_le b)

-- marks stand at the positions 1 to 64
pub mark-range : {t : Table} → SoundTable t → (p : ℕ) → 0 < mark t p → (1 ≤ p) × (p ≤ positions)
unfolding nth
mark-range h zero o = absurd (omega arith)
mark-range {t} h (suc k) o = (omega arith, go (dec_le (suc k) positions))
  where
    go : Dec (suc k ≤ positions) → suc k ≤ positions
    go (yes l) = l
    go (no l) = absurd (omega (arith, get_or-eq_default t.marks 0 {n = k} (omega (arith, h.full))))

-- ---- kind by kind

-- a view that is another's is reached by the same moves
moved : {v v' : View} {ts : List ℕ} {ws : List Written} (t : Table) → view t ≡ v' → Moves v v' ts ws → Moves v (view t) ts ws
moved {v} {ts = ts} {ws = ws} t e m = subst (λ w. Moves v w ts ws) (sym e) m

module _ (t : Table) (i q : ℕ) (k : Taken t (elect i q)) where
  elect-view : view (elect_after t i q) ≡ full.after (view t) (full.config (logless.elect i q))
  elect-view =
      let T : ℕ = (server t i).term + 1 in
      let here : Passes (known (count (voted t q T)) i) = subst (λ (n : ℕ). Passes (known n i)) (sym (count-voted q T t)) k.fit.0 in
      view-core (voted t q T) i (winner T (server t i)) here (sym (log-voted q T t k.fit.1 i))
      ∙ (λ j. record {
        core = put (λ n. core-voted q T t k.fit.1 n j) i (winner T (core t i));
        log = λ n. log-voted q T t k.fit.1 n j;
        mark = mark t;
      })

  elect-moves : Moves (view t) (view (elect_after t i q)) (wins t (elect i q)) []
  elect-moves =
      let width = within-width (count t) k.fit.1 in
      let (most, self) = both-refuted {a = majority q (server t i).config.set} {b = member i q} (k.own 7) in
      moved (elect_after t i q) elect-view (sets (logless.elect i q) (
        record {
          majority = majority-is most;
          self = self.yes;
          terms = λ s m. not-less (none_passes (count t) q width _ (k.own 8) s m);
          configs = λ s m. (none_passes (count t) q width _ (k.own 9) s m).no;
        },
        λ s m. (none_passes (count t) q width _ (k.own 10) s m).no,
      ))

module _ (t : Table) (i m : ℕ) (k : Taken t (reconfigure i m)) where
  abbrev a : Server
  a = server t i

  table : SoundTable t
  table = table-sound k.sound

  width : a.config.set < 2 ^ count t
  width = within-width (count t) (here-sound table i k.fit.0).config.set

  settled : Passes (p1 t i) → a.role ≡ 1 → Settled (view t) i
  settled h leads =
      let (some, most) = both h in
      let (p, e) = some-marked t.marks a.term some in
      record {
        position = p;
        marked = record { is = e; positive = ⊎_elim (λ r. r.1) (λ r. absurd (omega arith)) (here-sound table i k.fit.0).role };
        most = most-map
            (λ s u. let (term, all) = both u in (
              equal term,
              λ p marked.
                  let (some, few) = mark-range table p (omega (arith, marked.is, marked.positive)) in
                  holds-marked t a.term (server t s).log positions all p some few marked.is,
            ))
            (most-pass (count t) a.config.set width _ most);
      }

  reconfigure-moves : Moves (view t) (view (reconfigure_after t i m)) [] []
  reconfigure-moves =
      let leads : a.role ≡ 1 = equal (refuted (k.own 6)) in
      let in-set : Passes (member i m) = refuted (k.own 12) in
      moved (reconfigure_after t i m) (view-core t i (with_config (next_config m a.config) a) k.fit.0 refl)
      (sets (logless.reconfigure i m) (
        record {
          primary = leads;
          self = in-set.yes;
          meet = may-follow t.rule (refuted (k.own 13));
          Q1 = most-map (λ s u. let (version, term) = both u in (equal version, equal term)) (most-pass (count t) a.config.set width _ (refuted (k.own 14)));
          Q2 = most-map (λ s u. equal u) (most-pass (count t) a.config.set width _ (refuted (k.own 15)));
        },
        settled (refuted (k.own 16)) leads,
      ))

module _ (t : Table) (i j : ℕ) where
  abbrev l : Log
  l = (server t i).log

  abbrev m : Log
  m = (server t j).log

  send-moves : Taken t (send i j) → Moves (view t) (view (send_after t i j)) [] []
  send-moves k =
      let newer : Passes (newer (server t i).config (server t j).config) = refuted (k.own 17) in
      moved (send_after t i j) (view-core t j (with_config (server t i).config (server t j)) k.fit.1 refl)
      (sets (logless.send i j) (record { secondary = equal (refuted (k.own 6)); newer = newer.yes }, tt))

  spread-moves : Taken t (spread i j) → Moves (view t) (view (spread_after t i j)) [] []
  spread-moves k =
      moved (spread_after t i j) (view-core t j (stepped_down (server t i).term (server t j)) k.fit.1 refl)
      (sets (logless.spread i j) (less (refuted (k.own 18)), tt))

  can-fetch : NoneHold (fetch_refusals t i j) → CanFetch (view t) i j
  can-fetch none =
      let (longer, joined) = both-refuted {a = ltb (length l) (length m)} (none 20) in
      record {
        secondary = equal (refuted (none 6));
        longer = less longer;
        same = ⊎_elim (λ z. inl (equal z)) (λ e. inr (equal e)) (either joined);
      }

  fetch-view : Passes (known (count t) i) → view (fetch_after t i j) ≡ full.after (view t) (full.fetch i j)
  fetch-view k = view-log t i (with_entry (entry_at m (length l + 1)) (server t i)) k refl

  fetch-moves : Taken t (fetch i j) → Moves (view t) (view (fetch_after t i j)) [] []
  fetch-moves k = moved (fetch_after t i j) (fetch-view k.fit.0) (one (full.fetch i j) tt (can-fetch k.own))

  roll-back-moves : Taken t (roll_back i j) → Moves (view t) (view (roll_back_after t i j)) [] []
  roll-back-moves k =
      let (smaller, apart) = neither {a = not (ltb (last l) (last m))} (k.own 21) in
      moved (roll_back_after t i j) (view-log t i (with_log (take (length l - 1) l) (server t i)) k.fit.0 refl)
      (one (full.roll-back i j) tt (record {
        secondary = equal (refuted (k.own 6));
        less = less (refuted smaller);
        no-prefix = λ f. contradiction apart (is-prefix l m f);
      }))

-- a stretch is a fetch after another
stretch-moves : (t : Table) (i j c : ℕ) → Taken t (stretch i j c) → Moves (view t) (view (fetches c t i j).table) [] []
stretch-moves t i j c k = logs ((fetches-keep i j Leading leads c t (k.fit.0.0, λ v more. more)).1 _ full.none)
  where
    -- what is reached from s is reached from t
    Leading : Table → Type 0
    Leading s = Passes (known (count s) i) × ((v : View) → LogMoves (view s) v [] → LogMoves (view t) v [])

    leads : (s : Table) → NoneHold (fetch_refusals s i j) → Leading s → Leading (fetch_after s i j)
    leads s none (here, lead) = (
      rw (length-replace s.servers i _) here,
      λ v more. lead v (then (full.fetch i j) tt (can-fetch s i j none) (subst (λ w. LogMoves w v []) (fetch-view s i j here) more)),
    )

write_moves : (t : Table) (i B : ℕ) → Taken t (write i B) → Moves (view t) (view (write_after t i B)) [] (writes t (write i B))
write_moves t i B k =
    moved (write_after t i B) (view-log t i (with_entry (entry_of (server t i).term B) (server t i)) k.fit.0 refl)
    (one (full.write i B) tt (equal (refuted (k.own 6))))

-- what the refusals before 24 ask of a commit
pub can-commit : (t : Table) (i q : ℕ) → Passes (within q (count t)) → NoneHold (entry_refusals t i q) → CanCommit (view t) i q
can-commit t i q fits none =
    let (empty, other) = neither {a = eqb (length (server t i).log) 0} (none 22) in
    let some : length (server t i).log ≢ 0 = unequal empty in
    record {
      primary = equal (refuted (none 6));
      majority = majority-is (refuted (none 7));
      some = omega arith;
      own = equal (refuted other);
      held = λ s v. let (term, holds) = both (refuted (none_passes (count t) q (within-width (count t) fits) _ (none 23) s v)) in (equal term, held-is holds);
    }

module _ (t : Table) (i q : ℕ) (k : Taken t (commit i q)) where
  can : CanCommit (view t) i q
  can = can-commit t i q k.fit.1 (none_before (entry_refusals t i q) (refuse 24 (marked_otherwise t i) ∷ []) k.own)

  commit-moves : Moves (view t) (view (commit_after t i q)) [] []
  commit-moves =
      let h = table-sound k.sound in
      moved (commit_after t i q)
      (view-is (commit_after t i q) (λ n. refl) (λ n. refl)
      (nth-replace t.marks (length (server t i).log) (server t i).term 0 can.some (omega (arith, h.full, (here-sound h i k.fit.0).short))))
      (one (full.commit i q) tt can)

-- ---- every step

taken-moves : (t : Table) (a : Action) → Taken t a → Moves (view t) (view (after t a)) (wins t a) (writes t a)
unfolding after
taken-moves t unknown k = rests
taken-moves t (elect i q) k = elect-moves t i q k
taken-moves t (reconfigure i m) k = reconfigure-moves t i m k
taken-moves t (send i j) k = send-moves t i j k
taken-moves t (spread i j) k = spread-moves t i j k
taken-moves t (write i B) k = write_moves t i B k
taken-moves t (fetch i j) k = fetch-moves t i j k
taken-moves t (roll_back i j) k = roll-back-moves t i j k
taken-moves t (commit i q) k = commit-moves t i q k
taken-moves t (stretch i j c) k = stretch-moves t i j c k

-- whatever table and bytes: a step of the algorithm is moves of the theory
pub moves : (t : Table) (a : List ℕ) → Moves (view t) (view (step t a).table) (brought_by wins t a) (brought_by writes t a)
moves t a =
    ⊎_elim (λ d. rw (d.table, d.won, d.wrote) (taken-moves t (action_of a) d.taken)) (λ r. rw (r.table, r.won, r.wrote) rests) (outcome t a)
