-- Document 01's algorithm takes an action exactly where Algorithm 2 allows it and no narrowing forbids it, and leads where Algorithm 2 leads.
-- Assumes nothing.
use Prim.Native.Nat.{ℕ, zero, suc, ◌+◌, ◌≤◌, ◌<◌}
use mathlib.Core.List.{List, [], ◌∷◌}
use mathlib.Core.Logic.{⊎_elim, ◌↔◌}
use mathlib.Core.Path.{◌≡◌, refl, ap, ◌∙◌}
use native.Mathlib.Decide.{ℕ_discrete}
use native.Mathlib.Omega.{arith}
use lib.Dec.{leb, eqb}
use lib.ListN.{length, get_or}
use Rattle.words.specs.Lists.{every, between}
use Rattle.words.specs.Refusal.{first, refuse}
use Rattle.words.proofs.Tests.{Passes, Fails, both, both-refuted, at_most}
use Rattle.words.proofs.Lists.{length-replace}
use Rattle.words.proofs.RefusalLaws.{NoneHold, none-hold, first-later, one_more, none_before}
use Rattle.algorithm.specs.Table.{Table, count, server, mark, broken}
use Rattle.algorithm.specs.Bytes.{kinds, kind_of, i_of, j_of, set_of, bake_of, action_of}
use Rattle.algorithm.specs.Actions.{voted, winner, fetch_refusals, fetch_after, entry_refusals, marked_otherwise, fetches}
use Rattle.algorithm.specs.Run.{known, form_refusals, common_refusals, own_refusals, refusals, after, step}
use Rattle.algorithm.proofs.Refusals.{Fits, common-fit, Taken, taken}
use Rattle.algorithm.proofs.Seen.{count-voted}
use Rattle.algorithm.proofs.Sound.{SoundTable, table-sound, here-sound}
use Rattle.algorithm.proofs.Fetches.{refused-next, stopped, some-copied, copied-most}
use Rattle.algorithm.proofs.Kept.{fetch-sound, after-sound}
use Rattle.algorithm.proofs.Taken.{can-commit}
use Rattle.algorithm.specs.Bytes as house
use Rattle.paper.specs.Paper.{Action, GetEntries, Requires, Step}
use Rattle.paper.specs.Shown.{shown, OfPaper, times_asked, Repeats, never, again, UpTo}
use Rattle.paper.proofs.EachKind.{spread-kind, send-kind, write-kind, fetch-kind, roll-back-kind, commit-kind, elect-kind, reconfigure-kind}
use Rattle.paper.proofs.Figures.{length-shown, AllFail, Allows, none-all, first-all}
use Rattle.paper.proofs.After.{write-after, fetch-after, roll-back-after, reconfigure-after, send-after, spread-after, elect-after, commit-after}

-- Algorithm 2 allows the action in the state that the table shows, and no narrowing forbids it
abbrev pub Allowed : Table → house.Action → Type 0
Allowed t a = OfPaper (Allows t) a

-- the action leads from the state that t shows to the one that z shows by one step of Algorithm 2, and a stretch by as many as its count says
-- and Algorithm 2 allows
abbrev pub Leads : Table → house.Action → Table → Type 0
Leads t a z = OfPaper (λ b. UpTo (times_asked a) b t z) a

-- ---- a kind from 1 to 9 is known

Known : house.Action → Type 0
Known a = OfPaper (λ _. Unit {0}) a

kind-known : (k i j m B : ℕ) → 1 ≤ k → k ≤ 9 → Known (get_or (kinds i j m B) k house.unknown)
unfolding Known
kind-known zero i j m B a b = absurd (omega arith)
kind-known (suc zero) i j m B a b = tt
kind-known (suc (suc zero)) i j m B a b = tt
kind-known (suc (suc (suc zero))) i j m B a b = tt
kind-known (suc (suc (suc (suc zero)))) i j m B a b = tt
kind-known (suc (suc (suc (suc (suc zero))))) i j m B a b = tt
kind-known (suc (suc (suc (suc (suc (suc zero)))))) i j m B a b = tt
kind-known (suc (suc (suc (suc (suc (suc (suc zero))))))) i j m B a b = tt
kind-known (suc (suc (suc (suc (suc (suc (suc (suc zero)))))))) i j m B a b = tt
kind-known (suc (suc (suc (suc (suc (suc (suc (suc (suc zero))))))))) i j m B a b = tt
kind-known (suc (suc (suc (suc (suc (suc (suc (suc (suc (suc k)))))))))) i j m B a b = absurd (omega arith)

-- ---- 6 to 24, all kinds

judged : (t : Table) → SoundTable t → (a : house.Action) → Fits (count t) a → Known a → (NoneHold (own_refusals t a) → Allowed t a) × (Allowed t a → AllFail (own_refusals t a))
unfolding Known
judged t s house.unknown fit k = absurd k
judged t s (house.elect i q) (i-fits, q-fits) k = elect-kind t s i q i-fits q-fits
judged t s (house.reconfigure i m) (i-fits, m-fits) k = reconfigure-kind t s i m i-fits m-fits
judged t s (house.send i j) fit k = send-kind t s i j
judged t s (house.spread i j) fit k = spread-kind t s i j
judged t s (house.write i B) (i-fits, _) k = write-kind t s i i i-fits
judged t s (house.fetch i j) fit k = fetch-kind t s i j
judged t s (house.roll_back i j) (i-fits, j-fits) k = roll-back-kind t s i j i-fits j-fits
judged t s (house.commit i q) (i-fits, q-fits) k = commit-kind t s i q i-fits q-fits
judged t s (house.stretch i j c) fit k = fetch-kind t s i j

-- an action that 2 to 5 do not refuse has a known kind, and its servers and set are the table's
formed : (t : Table) (bs : List ℕ) → Fails (broken t) → NoneHold (form_refusals (count t) bs) → Fits (count t) (action_of bs) × Known (action_of bs)
formed t bs sound form =
    let (_, range) = both-refuted {a = eqb (length bs) 8} {b = between 1 9 (kind_of bs)} (form 2) in
    let (low, high) = both range in
    ((common-fit t bs (one_more (refuse 1 (broken t)) (form_refusals (count t) bs) sound form)).1, kind-known (kind_of bs) (i_of bs) (j_of bs) (set_of bs) (bake_of bs) (at_most low) (at_most high))

-- ---- the theorem

-- A table that breaks no rule takes an action exactly if it is well formed (2 to 5 do not hold), Algorithm 2 allows it in the state that the
-- table shows, and no narrowing forbids it.
pub taken-exactly : (t : Table) (bs : List ℕ) → Fails (broken t)
    → ((step t bs).number ≡ 0) ↔ (NoneHold (form_refusals (count t) bs) × Allowed t (action_of bs))
unfolding step refusals every
taken-exactly t bs sound = (there, back)
  where
    there : first (refusals t bs) ≡ 0 → NoneHold (form_refusals (count t) bs) × Allowed t (action_of bs)
    there e =
        let (c, _) = first-later 0 (common_refusals t bs) (own_refusals t (action_of bs)) tt e in
        let form : NoneHold (form_refusals (count t) bs) = none-all (form_refusals (count t) bs) (c 2, (c 3, (c 4, (c 5, tt)))) in
        let (fit, known) = formed t bs sound form in
        (form, (judged t (table-sound sound) (action_of bs) fit known).0 (taken t bs e).own)

    back : NoneHold (form_refusals (count t) bs) × Allowed t (action_of bs) → first (refusals t bs) ≡ 0
    back (form, allowed) =
        let (fit, known) = formed t bs sound form in
        let own = (judged t (table-sound sound) (action_of bs) fit known).1 allowed in
        first-all (refusals t bs) (sound, (form 2, (form 3, (form 4, (form 5, own)))))

-- ---- where it leads

-- one step is all that is asked for
one_time : {t z : Table} {b : Action} → Step (shown t) b (shown z) → UpTo 1 b t z
one_time h = record { times = 1; some = omega arith; most = omega arith; steps = again h never; stops = λ o. absurd (omega arith) }

module _ (i j : ℕ) where
  -- a fetch that is taken is a GetEntries
  gets : (t : Table) → SoundTable t → Passes (known (count t) i) → NoneHold (fetch_refusals t i j) → Step (shown t) (GetEntries i j) (shown (fetch_after t i j))
  gets t s k none =
      record { requires = ((fetch-kind t s i j).0 none).0; assigns = fetch-after t i j k; servers = length-replace t.servers i _ }

  -- so that a stretch is as many of them as were copied
  repeats : (c : ℕ) (t : Table) → SoundTable t → Passes (known (count t) i) × Passes (known (count t) j)
      → Repeats (GetEntries i j) (fetches c t i j).copied t (fetches c t i j).table
  unfolding fetches every
  repeats zero t s fit = never
  repeats (suc c) t s fit = go (ℕ_discrete (first (fetch_refusals t i j)) 0) (repeats c (fetch_after t i j))
    where
      go : Dec (first (fetch_refusals t i j) ≡ 0)
          → (SoundTable (fetch_after t i j) → Passes (known (count (fetch_after t i j)) i) × Passes (known (count (fetch_after t i j)) j)
          → Repeats (GetEntries i j) (fetches c (fetch_after t i j) i j).copied (fetch_after t i j) (fetches c (fetch_after t i j) i j).table)
          → Repeats (GetEntries i j) (fetches (suc c) t i j).copied t (fetches (suc c) t i j).table
      go (yes e) rest =
          let none = none-hold (fetch_refusals t i j) tt e in
          rw e (again (gets t s fit.0 none) (rest (fetch-sound t i j s fit none) (rw (length-replace t.servers i _) fit)))
      go (no n) rest = rw (refused-next i j (suc c) t n) never

led : (t : Table) (a : house.Action) → Taken t a → Allowed t a → Leads t a (after t a)
unfolding after
led t house.unknown k can = absurd can
led t (house.elect i q) k (can, _) =
    let T : ℕ = (server t i).term + 1 in
    let e = length-replace (voted t q T).servers i (winner T (server t i)) ∙ count-voted q T t in
    one_time (record { requires = can; assigns = elect-after t i q k.fit.0 k.fit.1 can.1; servers = e })
led t (house.reconfigure i m) k (can, _) =
    one_time (record { requires = can; assigns = reconfigure-after t i i k.fit.0 m; servers = length-replace t.servers i _ })
led t (house.send i j) k (can, _) =
    one_time (record { requires = can; assigns = send-after t i j k.fit.1; servers = length-replace t.servers j _ })
led t (house.spread i j) k (can, _) =
    one_time (record { requires = can; assigns = spread-after t i j k.fit.1; servers = length-replace t.servers j _ })
led t (house.write i B) k (can, _) =
    one_time (record { requires = can; assigns = write-after t i i k.fit.0 B; servers = length-replace t.servers i _ })
led t (house.fetch i j) k (can, _) =
    one_time (record { requires = can; assigns = fetch-after t i j k.fit.0; servers = length-replace t.servers i _ })
led t (house.roll_back i j) k (can, _) =
    one_time (record { requires = can; assigns = roll-back-after t i j k.fit.0; servers = length-replace t.servers i _ })
led t (house.commit i q) k (can, (_, once)) =
    let sound = table-sound k.sound in
    let a = here-sound sound i k.fit.0 in
    let so = can-commit t i q k.fit.1 (none_before (entry_refusals t i q) (refuse 24 (marked_otherwise t i) ∷ []) k.own) in
    let positive : 0 < (server t i).term = ⊎_elim (λ r. r.1) (λ r. absurd (omega (arith, so.primary))) a.role in
    let marked : (u : ℕ) → mark t (length (server t i).log) ≡ u → 0 < u → u ≡ (server t i).term =
    λ u m o. once u (ap (mark t) (length-shown (server t i).log) ∙ m, o) in
    one_time (record { requires = can; assigns = commit-after t i q so.some (omega (arith, sound.full, a.short)) positive marked; servers = refl })
led t (house.stretch i j c) k can =
    let sound = table-sound k.sound in
    let (some, _) = both {a = leb 1 c} k.fit.1 in
    let none_left : (fetches c t i j).copied < c → ¬ Requires (shown (fetches c t i j).table) (GetEntries i j) =
    λ o can. stopped i j c t o (first-all (fetch_refusals (fetches c t i j).table i j) ((fetch-kind (fetches c t i j).table (after-sound t (house.stretch i j c) k) i j).1 (can, tt))) in
    record {
      times = (fetches c t i j).copied;
      some = some-copied i j c t (first-all (fetch_refusals t i j) ((fetch-kind t sound i j).1 can)) (at_most some);
      most = copied-most i j c t;
      steps = repeats i j c t sound k.fit.0;
      stops = none_left;
    }

-- A taken action leads from the state that the table shows to the one that the table after it shows, as Algorithm 2 has it.
pub taken-leads : (t : Table) (bs : List ℕ) → (step t bs).number ≡ 0 → Leads t (action_of bs) (step t bs).table
unfolding step refusals every
taken-leads t bs e =
    let k : Taken t (action_of bs) = taken t bs e in
    rw e (led t (action_of bs) k ((taken-exactly t bs k.sound).0 e).1)

-- what is said twice of the paper's action that an action is
pub both_of : (P R : Action → Type 0) (a : house.Action) → OfPaper P a → OfPaper R a → (c : Action) × P c × R c
both_of P R house.unknown p r = absurd p
both_of P R (house.elect i q) p r = (_, p, r)
both_of P R (house.reconfigure i m) p r = (_, p, r)
both_of P R (house.send i j) p r = (_, p, r)
both_of P R (house.spread i j) p r = (_, p, r)
both_of P R (house.write i B) p r = (_, p, r)
both_of P R (house.fetch i j) p r = (_, p, r)
both_of P R (house.roll_back i j) p r = (_, p, r)
both_of P R (house.commit i q) p r = (_, p, r)
both_of P R (house.stretch i j c) p r = (_, p, r)
