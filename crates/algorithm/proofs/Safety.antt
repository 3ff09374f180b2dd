-- Every allowed action keeps the invariants of configurations, logs and marks. Assumes nothing.
use Prim.Native.Nat.{ℕ, ◌+◌, ◌-◌, ◌≤◌, ◌<◌}
use mathlib.Core.Bool.{not}
use mathlib.Core.List.{[], ◌∷◌, ◌++◌}
use mathlib.Core.Logic.{◌⊎◌, inl, inr, ⊎_elim}
use mathlib.Core.Path.{◌≡◌, refl, sym, ap, ◌∙◌, subst}
use native.Mathlib.Decide.{ℕ_discrete, dec_le, dec_lt}
use native.Mathlib.Nat.{eq-zero-or-pos}
use native.Mathlib.Omega.{arith}
use lib.Dec.{T}
use lib.ListN.{length, take}
use Rattle.members.proofs.Said.{Most, Hits}
use Rattle.members.proofs.Majorities.{most-hits, most-map}
use Rattle.algorithm.specs.Table.{Config, Entry, Log, entry_at, term_at, last, ahead, entry_of}
use Rattle.algorithm.proofs.Logless as logless
use Rattle.algorithm.proofs.Logless.{State, CanElect, CanReconfigure}
use Rattle.words.specs.Lists.{put}
use Rattle.words.proofs.Choice.{put-elim}
use Rattle.algorithm.proofs.Logs.{HasEntry, Same, Prefix, at_zero, prefix_refl, plus-holds, length-plus, at-plus, at-plus-end, length_cut, at_cut, last-held, last_positive}
use Rattle.algorithm.proofs.Orders.{not-larger}
use Rattle.algorithm.proofs.Invariant.{here, Leads, Inv}
use Rattle.algorithm.proofs.Steps.{Makes, elect-active, election-new, newest, leads}
use Rattle.algorithm.proofs.LogInvariant.{LeadLog, LogInv, configs-change, logs-prefix, write_keeps, commit-keeps, no-other-mark}
use Rattle.algorithm.proofs.Full.{View, Marked, Action, config, write, fetch, roll-back, commit, Settled, LogsAllow, CanFetch, CanRollBack, CanCommit, Allowed, after}

module _ (t : View) (inv : Inv t.core) (log : LogInv t.core t.log (Marked t.mark)) where
  abbrev c : State
  c = t.core

  abbrev L : ℕ → Log
  L = t.log

  abbrev M : ℕ → ℕ → Type 0
  M = Marked t.mark

  module _ (i : ℕ) (Q : ℕ) (can : CanElect c i Q) (up : LogsAllow t (logless.elect i Q)) where
    -- every entry's term is smaller than the election's
    new_term : {n p u : ℕ} → HasEntry (L n) p u → u < (c i).term + 1
    new_term h = let (n, g) = log.known h in omega (arith, election-new inv i Q can (here c n))

    -- a log that is not behind one with a committed entry has that entry
    has-entry : {n p u : ℕ} → T (not (ahead (L n) (L i))) → M p u → HasEntry (L n) p u → HasEntry (L i) p u
    has-entry {n} {p} {u} up m h = go (dec_lt (last (L n)) (last (L i)))
      where
        hn : HasEntry (L n) (length (L n)) (last (L n))
        hn = last-held (omega (arith, h.some, h.within))

        not_behind : (last (L n) ≤ last (L i)) × (last (L n) ≡ last (L i) → length (L n) ≤ length (L i))
        not_behind = not-larger (last (L n)) (length (L n)) (last (L i)) (length (L i)) up

        go : Dec (last (L n) < last (L i)) → HasEntry (L i) p u
        go (yes o) = (log.complete (last_positive o) m (omega (arith, log.sorted hn h h.within))).1
        go (no o) =
            let e : last (L i) ≡ last (L n) = omega (arith, not_behind.0) in
            let long : length (L n) ≤ length (L i) = not_behind.1 (sym e) in
            let hi : HasEntry (L i) (length (L i)) (last (L n)) = rw e at (last-held {l = L i} (omega (arith, h.some, h.within))) in
            record { some = h.some; within = omega (arith, h.within); is = log.agree hi hn long p h.within ∙ h.is }

    elect-leads : (C : Config) → Makes c (logless.elect i Q) C → LeadLog L M i C.term
    elect-leads C e = record {
      entries = λ h. absurd (omega (arith, new_term h, ap (λ D. D.term) e));
      bounded = λ h. omega (arith, new_term h, ap (λ D. D.term) e);
      complete = λ m _. let (n, b, h) = log.committed (here c i) (elect-active inv i Q can) m Q can.majority in has-entry (up n b) m h;
    }

    elect-hits : (C : Config) (p u : ℕ) → Makes c (logless.elect i Q) C → M p u → Hits C.set (λ n. HasEntry (L n) p u)
    elect-hits C p u e m = subst (λ (D : Config). Hits D.set (λ n. HasEntry (L n) p u)) e (log.committed (here c i) (elect-active inv i Q can) m)

  module _ (i : ℕ) (N : ℕ) (can : CanReconfigure c i N) (settled : Settled t i) where
    reconfigure-leads : (C : Config) → Makes c (logless.reconfigure i N) C → LeadLog L M i C.term
    reconfigure-leads C e = subst (LeadLog L M i) (ap (λ (D : Config). D.term) e) (log.leads (leads inv i N can))

    -- the majority of P1 has every committed entry
    all_held : {p u : ℕ} → M p u → Most (c i).config.set (λ n. HasEntry (L n) p u)
    all_held {p} {u} m = most-map (λ n (_, y). go n y (ℕ_discrete u (c i).term)) settled.most
      where
        go : (n : ℕ) → ((p : ℕ) → M p (c i).term → HasEntry (L n) p (c i).term) → Dec (u ≡ (c i).term) → HasEntry (L n) p u
        go n y (yes e) = rw e (y p (rw e at m))
        go n y (no e) =
            let (k, h) = log.marked m in
            (log.complete (y settled.position settled.marked) m (omega (arith, (newest inv i N can (here c k)).0, inv.own (leads inv i N can)))).1

    reconfigure-hits : (C : Config) (p u : ℕ) → Makes c (logless.reconfigure i N) C → M p u → Hits C.set (λ n. HasEntry (L n) p u)
    reconfigure-hits C p u e m = subst (λ (D : Config). Hits D.set (λ n. HasEntry (L n) p u)) e (most-hits can.meet (all_held m))

  config-keeps : (a : logless.Action) → logless.Allowed c a → LogsAllow t a → LogInv (logless.after c a) L M
  config-keeps (logless.elect i Q) can up = configs-change inv log (logless.elect i Q) can (elect-leads i Q can up) (elect-hits i Q can up)
  config-keeps (logless.reconfigure i N) can up =
      configs-change inv log (logless.reconfigure i N) can (reconfigure-leads i N can up) (reconfigure-hits i N can up)
  config-keeps (logless.send i j) can up = configs-change inv log (logless.send i j) can (λ C e. absurd e) (λ C p u e. absurd e)
  config-keeps (logless.spread i j) can up = configs-change inv log (logless.spread i j) can (λ C e. absurd e) (λ C p u e. absurd e)

  -- a secondary's log may change
  secondary-only : (i : ℕ) (x : Log) → (c i).role ≡ 0 → (k : ℕ) (C : Config) → Leads c k C → put L i x k ≡ L k
  secondary-only i x s k C = put-elim (λ k y. Leads c k C → y ≡ L k) (λ l. absurd (omega (arith, l.primary))) (λ k l. refl) k

  fetch-keeps : (i j : ℕ) → CanFetch t i j → LogInv c (after t (fetch i j)).log M
  fetch-keeps i j can =
      logs-prefix inv log
      (put-elim (λ n x. (m : ℕ) × Prefix x (L m)) (j, prefix) (λ n. (n, prefix_refl (L n))))
      (secondary-only i (L i ++ (next ∷ [])) can.secondary)
      (λ n p u m. put-elim (λ n x. HasEntry (L n) p u → HasEntry x p u) (plus-holds (L i) next) (λ n h. h) n)
    where
      next : Entry
      next = entry_at (L j) (length (L i) + 1)

      same : (length (L i) ≡ 0) ⊎ (last (L i) ≡ term_at (L j) (length (L i))) → 0 < length (L i) → Same (length (L i)) (L i) (L j)
      same (inl z) o r h = absurd (omega arith)
      same (inr z) o r h =
          log.agree {m = i} {n = j} (last-held o) (record { some = o; within = omega (arith, can.longer); is = sym z }) (omega arith) r h

      prefix : Prefix (L i ++ (next ∷ [])) (L j)
      prefix = record { short = omega (arith, can.longer, length-plus (L i) next); same = λ r h. at-r r h (dec_le r (length (L i))) }
        where
          at-r : (r : ℕ) → r ≤ length (L i ++ (next ∷ [])) → Dec (r ≤ length (L i)) → term_at (L i ++ (next ∷ [])) r ≡ term_at (L j) r
          at-r r h (yes o) = at-plus (L i) next r o ∙ ⊎_elim (λ z. rw z (at_zero (L i) (L j))) (λ p. same can.same (omega arith) r o) (eq-zero-or-pos r)
          at-r r h (no o) = let z : r ≡ length (L i) + 1 = omega (arith, length-plus (L i) next) in rw z (at-plus-end (L i) next)

  roll-back-keeps : (i j : ℕ) → CanRollBack t i j → LogInv c (after t (roll-back i j)).log M
  roll-back-keeps i j can =
      logs-prefix inv log
      (put-elim (λ n x. (m : ℕ) × Prefix x (L m)) (i, prefix) (λ n. (n, prefix_refl (L n))))
      (secondary-only i (take (length (L i) - 1) (L i)) can.secondary)
      (λ n p u m. put-elim (λ n x. HasEntry (L n) p u → HasEntry x p u) (λ h. kept m h (dec_le p (length (L i) - 1))) (λ n h. h) n)
    where
      prefix : Prefix (take (length (L i) - 1) (L i)) (L i)
      prefix = record { short = omega (arith, length_cut (L i)); same = λ r h. at_cut (L i) r (omega (arith, length_cut (L i))) }

      kept : {p u : ℕ} → M p u → HasEntry (L i) p u → Dec (p ≤ length (L i) - 1) → HasEntry (take (length (L i) - 1) (L i)) p u
      kept {p} m h (yes o) = record { some = h.some; within = omega (arith, length_cut (L i)); is = at_cut (L i) p o ∙ h.is }
      -- a committed last entry is in j's log, of which i's log is then a prefix
      kept {p} {u} m h (no o) =
          let z : p ≡ length (L i) = omega (arith, h.within) in
          let e : u ≡ last (L i) = sym h.is ∙ ap (term_at (L i)) z in
          let g = (log.complete (last_positive can.less) m (omega (arith, can.less))).1 in
          absurd (can.no-prefix (record {
            short = omega (arith, g.within);
            same = λ r le. log.agree h g (omega arith) r (omega arith);
          }))

  primary-leads : {i : ℕ} → (c i).role ≡ 1 → Leads c i (c i).config
  primary-leads p = record { primary = p; is = refl }

  module _ (i : ℕ) (Q : ℕ) (can : CanCommit t i Q) where
    term-own : (c i).config.term ≡ (c i).term
    term-own = inv.own (primary-leads can.primary)

    most : Most (c i).config.set (λ n. ((c n).term ≡ (c i).config.term) × HasEntry (L n) (length (L i)) (c i).config.term)
    most = record { by = Q; majority = can.majority; all = rw term-own can.held }

    held : HasEntry (L i) (length (L i)) (c i).config.term
    held = rw (term-own, ← can.own) (last-held can.some)

    -- what is marked at the position already has this term
    pub marked-so : {u : ℕ} → M (length (L i)) u → u ≡ (c i).term
    marked-so m = no-other-mark inv log (primary-leads can.primary) most held m ∙ term-own

    commit-case : LogInv c L (Marked (after t (commit i Q)).mark)
    commit-case = commit-keeps inv log (primary-leads can.primary) most held (λ q u m.
        put-elim (λ q x. x ≡ u → M q u ⊎ ((q ≡ length (L i)) × (u ≡ (c i).config.term)))
        (λ e. inr (refl, sym e ∙ sym term-own))
        (λ q e. inl (record { is = e; positive = m.positive }))
        q m.is)

  pub logs-after : (a : Action) → Allowed t a → LogInv (after t a).core (after t a).log (Marked (after t a).mark)
  logs-after (config a) (can, up) = config-keeps a can up
  logs-after (write i B) p = write_keeps inv log (primary-leads p) (entry_of (c i).term B) (sym (inv.own (primary-leads p)))
  logs-after (fetch i j) can = fetch-keeps i j can
  logs-after (roll-back i j) can = roll-back-keeps i j can
  logs-after (commit i Q) can = commit-case i Q can
