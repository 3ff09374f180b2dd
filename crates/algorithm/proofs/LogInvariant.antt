-- The invariant of logs and marks, beside that of the configurations, and that it is kept: by an action on configurations, by a log that
-- becomes a prefix of another, by a write, and by a commit. Assumes nothing.
use Prim.Native.Nat.{ℕ, ◌+◌, ◌≤◌, ◌<◌}
use mathlib.Core.List.{[], ◌∷◌, ◌++◌}
use mathlib.Core.Logic.{◌⊎◌, inl, inr, ⊎_elim}
use mathlib.Core.Path.{◌≡◌, refl, sym, ap, ◌∙◌, subst}
use native.Mathlib.Decide.{dec_le}
use native.Mathlib.Omega.{arith}
use lib.ListN.{length}
use Rattle.members.proofs.Said.{Most, Hits}
use Rattle.members.proofs.Majorities.{most-hits, most-and-hits, most-map, hits-map}
use Rattle.algorithm.specs.Table.{Config, Entry, Log, term_at}
use Rattle.algorithm.proofs.Logless.{State, Action, Allowed, after}
use Rattle.words.specs.Lists.{put}
use Rattle.words.proofs.Choice.{put-elim, put_same}
use Rattle.algorithm.proofs.Logs.{HasEntry, Same, Prefix, prefix_holds, length-plus, at-plus, at-plus-end, plus-holds}
use Rattle.algorithm.proofs.Invariant.{Reaches, Has, here, Leads, led, Active, Inv, now, lead, was-active}
use Rattle.algorithm.proofs.Steps.{Makes, changed, step}

-- the committed entries: positions and terms
abbrev pub Marks : Type 1
Marks = ℕ → ℕ → Type 0

-- What holds of the log of server i, a primary of term T.
pub record LeadLog (L : ℕ → Log) (M : Marks) (i T : ℕ) : Type 0 where
  -- it has all entries of its term
  pub entries : {n p : ℕ} → HasEntry (L n) p T → HasEntry (L i) p T
  pub bounded : {p t : ℕ} → HasEntry (L i) p t → t ≤ T
  -- it has all entries committed in its term or before
  pub complete : {p t : ℕ} → M p t → t ≤ T → HasEntry (L i) p t

pub record LogInv (c : State) (L : ℕ → Log) (M : Marks) : Type 0 where
  -- two logs with entries of one term agree up to the first of these
  pub agree : {m n p q t : ℕ} → HasEntry (L m) p t → HasEntry (L n) q t → q ≤ p → Same q (L m) (L n)
  pub sorted : {n p q t u : ℕ} → HasEntry (L n) p t → HasEntry (L n) q u → q ≤ p → u ≤ t
  -- the terms of entries and marks are reached by some configuration's
  pub known : {n p t : ℕ} → HasEntry (L n) p t → Reaches c t
  pub marked : {p t : ℕ} → M p t → Reaches c t
  -- before an entry stand all that were committed in smaller terms
  pub complete : {n q u p t : ℕ} → HasEntry (L n) q u → M p t → t < u → (p ≤ q) × HasEntry (L n) p t
  pub leads : {i : ℕ} {C : Config} → Leads c i C → LeadLog L M i C.term
  -- every majority of an active configuration has a member with a given committed entry
  pub committed : {C : Config} {p t : ℕ} → Has c C → Active c C → M p t → Hits C.set (λ n. HasEntry (L n) p t)

module _ {c : State} {L : ℕ → Log} {M : Marks} (inv : Inv c) (log : LogInv c L M) where
  -- an action on configurations, where a new one is as the invariant says
  pub configs-change : (a : Action) → Allowed c a → ((C : Config) → Makes c a C → LeadLog L M (changed a) C.term)
      → ((C : Config) (p t : ℕ) → Makes c a C → M p t → Hits C.set (λ n. HasEntry (L n) p t)) → LogInv (after c a) L M
  configs-change a can leads hits = record {
    agree = λ h k o. log.agree h k o;
    sorted = λ h k o. log.sorted h k o;
    known = λ h. grow (log.known h);
    marked = λ m. grow (log.marked m);
    complete = λ h m o. log.complete h m o;
    leads = λ {i} {C} l.
        ⊎_elim (λ (l, _). log.leads l) (λ (e, m). subst (λ (i : ℕ). LeadLog L M i C.term) (sym e) (leads C m.new)) (lead (step inv a can) inv l);
    committed = λ {C} {p} {t} h b m.
        ⊎_elim (λ o. log.committed o (was-active (step inv a can) inv b) m) (λ w. hits C p t w.new m) (now (step inv a can) inv h);
  }
    where
      grow : {t : ℕ} → Reaches c t → Reaches (after c a) t
      grow (n, h) = (n, omega (arith, (step inv a can n).config.0))

  -- every log becomes a prefix of one that was there; those of primaries stay, and no committed entry is lost
  pub logs-prefix : {L' : ℕ → Log} → ((n : ℕ) → (m : ℕ) × Prefix (L' n) (L m)) → ((i : ℕ) (C : Config) → Leads c i C → L' i ≡ L i)
      → ((n p t : ℕ) → M p t → HasEntry (L n) p t → HasEntry (L' n) p t) → LogInv c L' M
  logs-prefix {L'} from stay keep = record {
    agree = λ {m} {n} h k o r le.
        (from m).1.same r (omega (arith, h.within)) ∙ log.agree (was h) (was k) o r le ∙ sym ((from n).1.same r (omega (arith, k.within)));
    sorted = λ h k o. log.sorted (was h) (was k) o;
    known = λ h. log.known (was h);
    marked = λ m. log.marked m;
    complete = λ {n} {p = p} h m o.
        let (le, k) = log.complete (was h) m o in
        (le, record { some = k.some; within = omega (arith, h.within); is = (from n).1.same p (omega (arith, h.within)) ∙ k.is });
    leads = λ {i} {C} l. let e = stay i C l in record {
      entries = λ {p = p} h. subst (λ x. HasEntry x p C.term) (sym e) ((log.leads l).entries (was h));
      bounded = λ {p} {t} h. (log.leads l).bounded (subst (λ x. HasEntry x p t) e h);
      complete = λ {p} {t} m o. subst (λ x. HasEntry x p t) (sym e) ((log.leads l).complete m o);
    };
    committed = λ {p = p} {t = t} h a m. hits-map (λ n k. keep n p t m k) (log.committed h a m);
  }
    where
      was : {n p t : ℕ} → HasEntry (L' n) p t → HasEntry (L (from n).0) p t
      was {n} h = prefix_holds (from n).1 h

  module _ {k : ℕ} {C : Config} (l : Leads c k C) (e : Entry) (e-term : e.term ≡ C.term) where
    -- the logs after a write at server k
    abbrev pub Written : ℕ → Log
    Written = put L k (L k ++ (e ∷ []))

    -- an entry after the write: old, or the new one
    abbrev OldNew : ℕ → ℕ → ℕ → Type 0
    OldNew n p t = HasEntry (L n) p t ⊎ ((n ≡ k) × (p ≡ length (L k) + 1) × (t ≡ C.term))

    was : {n p t : ℕ} → HasEntry (Written n) p t → OldNew n p t
    was {n} {p} {t} = put-elim (λ n x. HasEntry x p t → OldNew n p t) (λ h. at-end h (dec_le p (length (L k)))) (λ n h. inl h) n
      where
        at-end : HasEntry (L k ++ (e ∷ [])) p t → Dec (p ≤ length (L k)) → OldNew k p t
        at-end h (yes o) = inl (record { some = h.some; within = o; is = sym (at-plus (L k) e p o) ∙ h.is })
        at-end h (no o) =
            let z : p ≡ length (L k) + 1 = omega (arith, h.within, length-plus (L k) e) in
            inr (refl, z, sym h.is ∙ ap (term_at (L k ++ (e ∷ []))) z ∙ at-plus-end (L k) e ∙ e-term)

    same : (n r : ℕ) → r ≤ length (L n) → term_at (Written n) r ≡ term_at (L n) r
    same n r = put-elim (λ n x. r ≤ length (L n) → term_at x r ≡ term_at (L n) r) (at-plus (L k) e r) (λ n o. refl) n

    keeps : {n p t : ℕ} → HasEntry (L n) p t → HasEntry (Written n) p t
    keeps {n} {p} {t} h =
        put-elim (λ n x. HasEntry (L n) p t → HasEntry x p t)
        (plus-holds (L k) e)
        (λ n h. h) n h

    new : HasEntry (Written k) (length (L k) + 1) C.term
    new = subst (λ x. HasEntry x (length (L k) + 1) C.term) (sym (put_same L k (L k ++ (e ∷ []))))
        (record { some = omega arith; within = omega (arith, length-plus (L k) e); is = at-plus-end (L k) e ∙ e-term })

    agree : {m n p q t : ℕ} → OldNew m p t → OldNew n q t → q ≤ p → Same q (Written m) (Written n)
    agree {m} {n} (inl h) (inl g) o r le = same m r (omega (arith, h.within)) ∙ log.agree h g o r le ∙ sym (same n r (omega (arith, g.within)))
    agree {n} {q = q} (inr (a, _, z)) (inl g) o r le =
        let g : HasEntry (L n) q C.term = rw z at g in
        let f = (log.leads l).entries g in
        ap (λ x. term_at (Written x) r) a ∙ same k r (omega (arith, f.within)) ∙ log.agree f g (omega arith) r le ∙ sym (same n r (omega (arith, g.within)))
    agree {m} {p = p} (inl h) (inr (b, y, z)) o r le =
        let h : HasEntry (L m) p C.term = rw z at h in
        absurd (omega (arith, ((log.leads l).entries h).within))
    agree (inr (a, _, _)) (inr (b, _, _)) o r le = ap (λ x. term_at (Written x) r) (a ∙ sym b)

    sorted : {n p q t u : ℕ} → OldNew n p t → OldNew n q u → q ≤ p → u ≤ t
    sorted (inl h) (inl g) o = log.sorted h g o
    sorted {q = q} {u = u} (inr (a, _, z)) (inl g) o = let g : HasEntry (L k) q u = rw a at g in omega (arith, (log.leads l).bounded g)
    sorted {p = p} {t = t} (inl h) (inr (b, y, _)) o = let h : HasEntry (L k) p t = rw b at h in absurd (omega (arith, h.within))
    sorted (inr (_, _, z)) (inr (_, _, w)) o = omega arith

    known : {n p t : ℕ} → OldNew n p t → Reaches c t
    known (inl h) = log.known h
    known (inr (_, _, z)) = (k, omega (arith, ap (λ D. D.term) l.is))

    complete : {n q u p t : ℕ} → OldNew n q u → M p t → t < u → (p ≤ q) × HasEntry (Written n) p t
    complete (inl h) m o = let (le, g) = log.complete h m o in (le, keeps g)
    complete {p = p} {t = t} (inr (a, y, z)) m o =
        let g : HasEntry (L k) p t = (log.leads l).complete m (omega arith) in
        (omega (arith, g.within), subst (λ x. HasEntry (Written x) p t) (sym a) (keeps g))

    entries : {i : ℕ} {D : Config} → Leads c i D → {n p : ℕ} → OldNew n p D.term → HasEntry (Written i) p D.term
    entries j (inl h) = keeps ((log.leads j).entries h)
    entries j (inr (_, y, z)) = rw (inv.sole j l z, y, z) new

    bounded : {i : ℕ} {D : Config} → Leads c i D → {p t : ℕ} → OldNew i p t → t ≤ D.term
    bounded j (inl h) = (log.leads j).bounded h
    bounded {D} j (inr (a, _, z)) = let d : D.term ≡ C.term = cc (inv.own j, inv.own l) in omega arith

    pub write_keeps : LogInv c Written M
    write_keeps = record {
      agree = λ h g o. agree (was h) (was g) o;
      sorted = λ h g o. sorted (was h) (was g) o;
      known = λ h. known (was h);
      marked = λ m. log.marked m;
      complete = λ h m o. complete (was h) m o;
      leads = λ j. record {
        entries = λ h. entries j (was h);
        bounded = λ h. bounded j (was h);
        complete = λ m o. keeps ((log.leads j).complete m o);
      };
      committed = λ h a m. hits-map (λ n g. keeps g) (log.committed h a m);
    }

  -- Server i is primary, with the configuration C, a majority of whose set is in its term.
  module _ {i : ℕ} {C : Config} (l : Leads c i C) (most : Most C.set (λ n. (c n).term ≡ C.term)) where
    -- no configuration has a larger term
    pub latest : {D : Config} → Has c D → D.term ≤ C.term
    latest {D} d =
        let not-past : ¬ (C.term < D.term) = λ o. let (n, p, h) = most-and-hits most (inv.left l d o) in omega arith in
        omega arith

    pub latest-active : Active c C
    latest-active = record { by = most.by; majority = most.majority; all = λ n _. (latest (here c n), inv.newest l (here c n)) }

  module _ {i p : ℕ} {C : Config} (l : Leads c i C) (most : Most C.set (λ n. ((c n).term ≡ C.term) × HasEntry (L n) p C.term))
      (held : HasEntry (L i) p C.term) where
    in-term : Most C.set (λ n. (c n).term ≡ C.term)
    in-term = most-map (λ n h. h.0) most

    -- what was committed at the position had this very term
    pub no-other-mark : {t : ℕ} → M p t → t ≡ C.term
    no-other-mark m =
        let (n, h) = log.marked m in
        let g = (log.leads l).complete m (omega (arith, latest l in-term (here c n))) in
        sym g.is ∙ held.is

    module _ {M' : Marks} (cases : (q t : ℕ) → M' q t → M q t ⊎ ((q ≡ p) × (t ≡ C.term))) where
      pub commit-keeps : LogInv c L M'
      commit-keeps = record {
        agree = λ h g o. log.agree h g o;
        sorted = λ h g o. log.sorted h g o;
        known = λ h. log.known h;
        marked = λ {p = q} {t} m. ⊎_elim (λ o. log.marked o) (λ (_, z). (i, omega (arith, ap (λ D. D.term) l.is))) (cases q t m);
        complete = λ {p = q} {t = t} h m o.
            ⊎_elim (λ m. log.complete h m o) (λ (_, z). absurd (let (n, g) = log.known h in omega (arith, latest l in-term (here c n)))) (cases q t m);
        leads = λ r. record {
          entries = λ h. (log.leads r).entries h;
          bounded = λ h. (log.leads r).bounded h;
          complete = λ {p = q} {t} m o.
              ⊎_elim (λ m. (log.leads r).complete m o) (λ (y, z). rw (inv.sole r l (omega (arith, latest l in-term (led r))), y, z) held) (cases q t m);
        };
        committed = λ {p = q} {t = t} h a m.
            ⊎_elim
            (λ m. log.committed h a m)
            (λ (y, z). rw (y, z) (most-hits (inv.meet (led l) h (latest-active l in-term) a) (most-map (λ n g. g.1) most)))
            (cases q t m);
      }
