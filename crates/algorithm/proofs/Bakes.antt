-- Where entries come from: every entry of a log has the bake of the one write that was taken in its term at its position. Assumes nothing.
use Prim.Native.Nat.{ℕ, ◌+◌, ◌-◌, ◌≤◌, ◌<◌}
use mathlib.Core.Bool.{Bool, true, false, cond}
use mathlib.Core.List.{List, [], ◌∷◌, ◌++◌, append-nil, append_assoc}
use mathlib.Core.Logic.{◌⊎◌, inl, inr, ⊎_elim}
use mathlib.Core.Path.{◌≡◌, refl, sym, ap, ◌∙◌}
use native.Mathlib.Decide.{dec_le}
use native.Mathlib.Omega.{arith}
use lib.ListN.{length}
use borrow.Author.Tests.{eq-eqb}
use Rattle.words.specs.Lists.{put}
use Rattle.words.proofs.Choice.{put_same, put-elim}
use Rattle.words.proofs.Tests.{Passes, both, equal}
use Rattle.algorithm.specs.Table.{Config, Entry, entry_of, Log, entry_at, bake_at, fresh}
use Rattle.algorithm.specs.Run.{Written, written_at, bakes_of}
use Rattle.algorithm.proofs.Logless as logless
use Rattle.algorithm.proofs.Logless.{State}
use Rattle.algorithm.proofs.Logs.{HasEntry, length-plus, entry-plus, entry-plus-end, length_cut, entry-cut}
use Rattle.algorithm.proofs.Invariant.{Reaches, here, Leads, Inv, lead}
use Rattle.algorithm.proofs.Steps.{Makes, changed, step, election-new, leads}
use Rattle.algorithm.proofs.Full.{View, Action, config, write, fetch, roll-back, commit, CanFetch, CanRollBack, Allowed, after, wrote, LogMoves, none, then, Moves, sets, logs}
use Rattle.algorithm.proofs.Seen.{view}
use Rattle.algorithm.proofs.Safe.{Safe, no-entry, safe-log}

-- in the term u at position p nothing can be written any more: the term is reached, so no later election wins it, and a primary of it has a log that long
pub record Closed (c : State) (L : ℕ → Log) (u p : ℕ) : Type 0 where
  pub reached : Reaches c u
  pub led : {i : ℕ} {C : Config} → Leads c i C → C.term ≡ u → p ≤ length (L i)

-- ws is what was written
pub record Traced (c : State) (L : ℕ → Log) (ws : List Written) : Type 0 where
  -- an entry has the one bake that was written in its term at its position
  pub entry : {n p u : ℕ} → HasEntry (L n) p u → bakes_of u p ws ≡ bake_at (L n) p ∷ []
  -- where something was written nothing more can be
  pub closed : {u p : ℕ} → 0 < length (bakes_of u p ws) → Closed c L u p

-- the log x has at p an entry of the term u, with the bake that it has in one of the logs L
record From (L : ℕ → Log) (x : Log) (p u : ℕ) : Type 0 where
  at : ℕ
  held : HasEntry (L at) p u
  bake : bake_at x p ≡ bake_at (L at) p

from : (L : ℕ → Log) (n : ℕ) {x : Log} {p u : ℕ} → HasEntry x p u → p ≤ length (L n) → entry_at x p ≡ entry_at (L n) p → From L x p u
from L n h o e = record {
  at = n;
  held = record { some = h.some; within = o; is = ap (λ a. a.term) (sym e) ∙ h.is };
  bake = ap (λ a. a.bake) e;
}

was-here : (L : ℕ → Log) (n : ℕ) {p u : ℕ} → HasEntry (L n) p u → From L (L n) p u
was-here L n h = from L n h h.within refl

bakes-append : (u p : ℕ) (vs ws : List Written) → bakes_of u p (vs ++ ws) ≡ bakes_of u p vs ++ bakes_of u p ws
unfolding bakes_of
bakes-append u p [] ws = refl
bakes-append u p (v ∷ vs) ws = rw (bakes-append u p vs ws) (go (written_at u p v) (bakes_of u p vs) (bakes_of u p ws))
  where
    go : (b : Bool) (bs cs : List ℕ) → cond b (v.bake ∷ (bs ++ cs)) (bs ++ cs) ≡ cond b (v.bake ∷ bs) bs ++ cs
    go true bs cs = refl
    go false bs cs = refl

-- ---- nothing is written

module _ {c c' : State} {L L' : ℕ → Log} {ws : List Written} (traced : Traced c L ws) where
  -- every entry was there, and what was closed stays so
  quiet : ((n p u : ℕ) → HasEntry (L' n) p u → From L (L' n) p u)
      → ((u p : ℕ) → Closed c L u p → Closed c' L' u p) → Traced c' L' ws
  quiet was stays = record {
    entry = λ {n} {p} {u} h. let f = was n p u h in traced.entry f.held ∙ ap (λ (b : ℕ). b ∷ []) (sym f.bake);
    closed = λ {u} {p} o. stays u p (traced.closed o);
  }

module _ {c : State} {L : ℕ → Log} (inv : Inv c) where
  -- an election's term is new, and who reconfigures led its term before
  config-closed : (a : logless.Action) → logless.Allowed c a → (u p : ℕ) → Closed c L u p → Closed (logless.after c a) L u p
  config-closed a can u p k = record {
    reached = let (n, h) = k.reached in (n, omega (arith, (step inv a can n).config.0));
    led = λ {i} {C} l e. ⊎_elim (λ (o, _). k.led o e) (λ (z, m). rw z (made a can C m.new e)) (lead (step inv a can) inv l);
  }
    where
      made : (a : logless.Action) → logless.Allowed c a → (C : Config) → Makes c a C → C.term ≡ u → p ≤ length (L (changed a))
      made (logless.elect i q) can C m e =
          let (n, h) = k.reached in
          absurd (omega (arith, ap (λ (D : Config). D.term) m, election-new inv i q can (here c n)))
      made (logless.reconfigure i m) can C z e = k.led (leads inv i m can) (ap (λ (D : Config). D.term) z ∙ e)
      made (logless.send i j) can C m e = absurd m
      made (logless.spread i j) can C m e = absurd m

-- ---- an entry more

module _ (L : ℕ → Log) (i : ℕ) (e : Entry) where
  abbrev Longer : ℕ → Log
  Longer = put L i (L i ++ (e ∷ []))

  longer-closed : {c : State} (u p : ℕ) → Closed c L u p → Closed c Longer u p
  longer-closed u p k = record {
    reached = k.reached;
    led = λ {i = n} l z. put-elim (λ n (x : Log). p ≤ length (L n) → p ≤ length x) (λ o. omega (arith, length-plus (L i) e)) (λ n o. o) n (k.led l z);
  }

  -- an entry is an old one, or e
  abbrev OldOrNew : Log → ℕ → ℕ → Type 0
  OldOrNew x p u = From L x p u ⊎ ((p ≡ length (L i) + 1) × (entry_at x p ≡ e))

  old-or-new : (n p u : ℕ) → HasEntry (Longer n) p u → OldOrNew (Longer n) p u
  old-or-new n p u = put-elim (λ n (x : Log). HasEntry x p u → OldOrNew x p u) (λ h. go h (dec_le p (length (L i)))) (λ n h. inl (was-here L n h)) n
    where
      go : HasEntry (L i ++ (e ∷ [])) p u → Dec (p ≤ length (L i)) → OldOrNew (L i ++ (e ∷ [])) p u
      go h (yes o) = inl (from L i h o (entry-plus (L i) e p o))
      go h (no o) =
          let z : p ≡ length (L i) + 1 = omega (arith, h.within, length-plus (L i) e) in
          inr (z, rw z (entry-plus-end (L i) e))

-- ---- a write of the bake B at the primary i

module _ {c : State} {L : ℕ → Log} {ws : List Written} (inv : Inv c) (traced : Traced c L ws) (i B : ℕ) (primary : (c i).role ≡ 1) where
  abbrev e : Entry
  e = entry_of (c i).term B

  abbrev w : Written
  w = record { term = (c i).term; position = length (L i) + 1; bake = B }

  l : Leads c i (c i).config
  l = record { primary = primary; is = refl }

  -- nothing was written there before
  free : bakes_of (c i).term (length (L i) + 1) ws ≡ []
  free = go (bakes_of (c i).term (length (L i) + 1) ws) refl
    where
      go : (bs : List ℕ) → bakes_of (c i).term (length (L i) + 1) ws ≡ bs → bs ≡ []
      go [] z = refl
      go (x ∷ bs) z =
          let some : 0 < length (bakes_of (c i).term (length (L i) + 1) ws) = rw z (omega arith) in
          absurd (omega (arith, (traced.closed some).led l (inv.own l)))

  -- now B was, and it alone
  there : bakes_of (c i).term (length (L i) + 1) (ws ++ (w ∷ [])) ≡ B ∷ []
  unfolding bakes_of
  there =
      bakes-append (c i).term (length (L i) + 1) ws (w ∷ [])
      ∙ rw (free, eq-eqb (c i).term (c i).term refl, eq-eqb (length (L i) + 1) (length (L i) + 1) refl)

  -- elsewhere nothing more was written
  there-or-same : (u p : ℕ) → ((u ≡ (c i).term) × (p ≡ length (L i) + 1)) ⊎ (bakes_of u p (ws ++ (w ∷ [])) ≡ bakes_of u p ws)
  unfolding bakes_of
  there-or-same u p = go (written_at u p w) refl
    where
      go : (t : Bool) → written_at u p w ≡ t
          → ((u ≡ (c i).term) × (p ≡ length (L i) + 1)) ⊎ (bakes_of u p (ws ++ (w ∷ [])) ≡ bakes_of u p ws)
      go true z =
          let h : Passes (written_at u p w) = record { yes = rw z tt } in
          let (x, y) = both h in
          inl (sym (equal x), sym (equal y))
      go false z = inr (bakes-append u p ws (w ∷ []) ∙ rw (z, append-nil))

  write-traced : Traced c (Longer L i e) (ws ++ (w ∷ []))
  write-traced = record {
    entry = λ {n} {p} {u} h. ⊎_elim
        (λ f. ⊎_elim
        (λ (x, y). let z : bake_at (L f.at) p ∷ [] ≡ [] = sym (traced.entry f.held) ∙ rw (x, y) free in absurd (omega (arith, ap length z)))
        (λ z. z ∙ traced.entry f.held ∙ ap (λ (b : ℕ). b ∷ []) (sym f.bake))
        (there-or-same u p))
        (λ (x, y).
        let t : u ≡ (c i).term = sym h.is ∙ ap (λ a. a.term) y in
        let s : bake_at (Longer L i e n) p ≡ B = ap (λ a. a.bake) y in
        rw (s, t, x) there)
        (old-or-new L i e n p u h);
    closed = λ {u} {p} o. ⊎_elim
        (λ (x, y). record {
          reached = (i, omega (arith, inv.own l));
          led = λ r z. rw (inv.sole r l (z ∙ x ∙ sym (inv.own l)), put_same L i (L i ++ (e ∷ []))) (omega (arith, length-plus (L i) e));
        })
        (λ z. longer-closed L i e u p (traced.closed (rw z at o)))
        (there-or-same u p);
  }

-- ---- every step

module _ (v : View) (safe : Safe v) {ws : List Written} (traced : Traced v.core v.log ws) where
  abbrev c : State
  c = v.core

  abbrev L : ℕ → Log
  L = v.log

  fetch-traced : (i j : ℕ) → CanFetch v i j → Traced c (after v (fetch i j)).log ws
  fetch-traced i j can =
      quiet traced
      (λ n p u h. ⊎_elim
      (λ f. f)
      (λ (x, y). from L j h (omega (arith, can.longer)) (y ∙ rw x))
      (old-or-new L i next n p u h))
      (longer-closed L i next)
    where
      next : Entry
      next = entry_at (L j) (length (L i) + 1)

  roll-back-traced : (i j : ℕ) → CanRollBack v i j → Traced c (after v (roll-back i j)).log ws
  roll-back-traced i j can =
      quiet traced
      (λ n p u. put-elim (λ n (x : Log). HasEntry x p u → From L x p u)
      (λ h. let o : p ≤ length (L i) - 1 = omega (arith, h.within, length_cut (L i)) in from L i h (omega arith) (entry-cut (L i) p o))
      (λ n h. was-here L n h) n)
      (λ u p k. record {
        reached = k.reached;
        led = λ {i = n} {C} l z. put-elim (λ n (x : Log). Leads c n C → p ≤ length (L n) → p ≤ length x)
            (λ l _. absurd (omega (arith, l.primary, can.secondary))) (λ n _ o. o) n l (k.led l z);
      })

  traced-after : (a : Action) → Allowed v a → Traced (after v a).core (after v a).log (ws ++ wrote v a)
  traced-after (config a) (can, _) = rw append-nil (quiet traced (λ n p u h. was-here L n h) (config-closed safe.configs a can))
  traced-after (write i B) p = write-traced safe.configs traced i B p
  traced-after (fetch i j) can = rw append-nil (fetch-traced i j can)
  traced-after (roll-back i j) can = rw append-nil (roll-back-traced i j can)
  traced-after (commit i q) can = rw append-nil traced

traced-logs : {v v' : View} {vs : List Written} → LogMoves v v' vs → Safe v → (ws : List Written) → Traced v.core v.log ws → Traced v'.core v'.log (ws ++ vs)
traced-logs none safe ws traced = rw append-nil traced
traced-logs {v} (then a o can more) safe ws traced =
    rw (← append_assoc) (traced-logs more (safe-log a o can safe) (ws ++ wrote v a) (traced-after v safe traced a can))

pub traced-moves : {v v' : View} {ts : List ℕ} {vs : List Written} → Moves v v' ts vs → Safe v
    → (ws : List Written) → Traced v.core v.log ws → Traced v'.core v'.log (ws ++ vs)
traced-moves {v} (sets a can) safe ws traced = traced-after v safe traced (config a) can
traced-moves (logs m) safe ws traced = traced-logs m safe ws traced

-- nothing is written before a run
pub traced-fresh : (n M R F : ℕ) → Traced (view (fresh n M R F)).core (view (fresh n M R F)).log []
unfolding bakes_of
traced-fresh n M R F = record { entry = λ {n = k} h. absurd (no-entry n M R F k h); closed = λ o. absurd (omega arith) }
