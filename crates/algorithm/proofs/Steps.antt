-- Every allowed action without logs is a step, and so keeps the invariant; and what the invariant says of elections. Assumes nothing.
use Prim.Native.Nat.{ℕ, ◌+◌, ◌≤◌, ◌<◌}
use mathlib.Core.Bool.{not}
use mathlib.Core.Logic.{inl, inr}
use mathlib.Core.Path.{◌≡◌, refl, sym, ap, ◌∙◌}
use native.Mathlib.Omega.{arith}
use lib.Dec.{T, T_not}
use Rattle.members.specs.Members.{member, Member}
use Rattle.members.specs.Rules.{MajoritiesMeet}
use Rattle.members.proofs.Said.{All}
use Rattle.members.proofs.Majorities.{most-and-hits}
use Rattle.algorithm.specs.Table.{Config, Server, with_config, newer}
use Rattle.algorithm.specs.Actions.{stepped_down, winner, next_config}
use Rattle.algorithm.proofs.Logless.{State, Action, elect, reconfigure, send, spread, CanElect, CanReconfigure, CanSend, Allowed, voted, after}
use Rattle.words.proofs.Choice.{cond-elim, put_same, put-elim}
use Rattle.algorithm.proofs.Orders.{larger, not-larger}
use Rattle.algorithm.proofs.Invariant.{◌≼◌, Has, here, Leads, led, Active, Inv, Change, Step, kept}

newer-orders : (C D : Config) → T (newer C D) → D ≼ C
newer-orders C D = larger C.term C.version D.term D.version

not-newer-orders : (C D : Config) → T (not (newer C D)) → C ≼ D
not-newer-orders C D = not-larger C.term C.version D.term D.version

-- C is the configuration that an action makes
abbrev pub Makes : State → Action → Config → Type 0
Makes s (elect i q) C = (winner ((s i).term + 1) (s i)).config ≡ C
Makes s (reconfigure i m) C = next_config m (s i).config ≡ C
Makes s (send i j) C = ⊥
Makes s (spread i j) C = ⊥

-- the server whose configuration an action may change
abbrev pub changed : Action → ℕ
changed (elect i q) = i
changed (reconfigure i m) = i
changed (send i j) = j
changed (spread i j) = j

module _ {s : State} (inv : Inv s) where
  stays : {s' : State} {k : ℕ} {New : Config → Type 0} (n : ℕ) → Change s s' k New n (s n)
  stays n = record { term = omega arith; config = omega arith; kind = inl (here s n, λ _. refl) }

  steps-down : {s' : State} {k : ℕ} {New : Config → Type 0} (n t : ℕ) → (s n).term ≤ t → Change s s' k New n (stepped_down t (s n))
  steps-down n t h = record { term = h; config = omega arith; kind = inl (here s n, λ e. absurd (omega arith)) }

  module _ (i : ℕ) (Q : ℕ) (can : CanElect s i Q) where
    pub elect-active : Active s (s i).config
    elect-active = record { by = Q; majority = can.majority; all = λ n m. not-newer-orders (s n).config (s i).config (can.configs n m) }

    -- the term of an election is larger than every configuration's
    pub election-new : {D : Config} → Has s D → D.term < (s i).term + 1
    election-new d = let (n, m, h) = inv.heard (here s i) elect-active d Q can.majority in omega (arith, can.terms n m)

    elect-step : Step s (after s (elect i Q)) i (Makes s (elect i Q))
    unfolding voted
    elect-step = put-elim (Change s (after s (elect i Q)) i (Makes s (elect i Q))) wins votes
      where
        T : ℕ
        T = (s i).term + 1

        votes : (n : ℕ) → Change s (after s (elect i Q)) i (Makes s (elect i Q)) n (voted s Q T n)
        votes n =
            cond-elim (Change s (after s (elect i Q)) i (Makes s (elect i Q)) n) (member n Q)
            (λ m. steps-down n T (omega (arith, can.terms n m)))
            (λ _. stays n)

        reaches : All Q (λ n. T ≤ (after s (elect i Q) n).term)
        reaches =
            put-elim (λ n (a : Server). Member n Q → T ≤ a.term) (λ _. omega arith)
            (λ n m. cond-elim (λ (a : Server). T ≤ a.term) (member n Q) (λ _. omega arith) (λ o. absurd (T_not (member n Q) o m)))

        wins : Change s (after s (elect i Q)) i (Makes s (elect i Q)) i (winner T (s i))
        wins = record {
          term = omega arith;
          config = omega (arith, election-new (here s i));
          kind = inr (
            refl,
            record {
              new = refl;
              is = ap (λ a. a.config) (put_same (voted s Q T) i (winner T (s i)));
              own = ap (λ a. a.term) (sym (put_same (voted s Q T) i (winner T (s i))));
              top = λ d. omega (arith, election-new d);
              base = (s i).config;
              has = here s i;
              active = elect-active;
              reached = record { by = Q; majority = can.majority; all = reaches };
              meet = λ d a. inv.meet d (here s i) a elect-active;
              sole = λ l e. absurd (omega (arith, election-new (led l)));
            },
          );
        }

  module _ (i : ℕ) (M : ℕ) (can : CanReconfigure s i M) where
    pub leads : Leads s i (s i).config
    leads = record { primary = can.primary; is = refl }

    reconfigure-active : Active s (s i).config
    reconfigure-active = record { by = can.Q1.by; majority = can.Q1.majority; all = λ n m. omega (arith, can.Q1.all n m) }

    -- no configuration is newer than that of a primary that may reconfigure
    pub newest : {D : Config} → Has s D → D ≼ (s i).config
    newest d =
        let (n, p, h) = most-and-hits can.Q2 (inv.heard (here s i) reconfigure-active d) in
        (omega (arith, inv.own leads), inv.newest leads d)

    -- an active configuration has the set that Q1's majority has: if it were older, that majority would have made it inactive
    new-set-meets : {D : Config} → Has s D → Active s D → MajoritiesMeet D.set M
    new-set-meets {D} d a =
        let (n, p, q) = inv.meet d (here s i) a reconfigure-active a.by can.Q1.by a.majority can.Q1.majority in
        let q1 = can.Q1.all n q in
        let e : D.term ≡ (s i).config.term = omega (arith, (newest d).0, (a.all n p).0) in
        let v : D.version ≡ (s i).config.version = omega (arith, (newest d).1 e, (a.all n p).1 (omega arith)) in
        rw (inv.same d (here s i) e v) can.meet

    reconfigure-step : Step s (after s (reconfigure i M)) i (Makes s (reconfigure i M))
    reconfigure-step = put-elim (Change s (after s (reconfigure i M)) i (Makes s (reconfigure i M))) changes stays
      where
        reaches : (n : ℕ) → (s n).term ≡ (s i).term → (s i).config.term ≤ (after s (reconfigure i M) n).term
        reaches =
            put-elim (λ n (a : Server). (s n).term ≡ (s i).term → (s i).config.term ≤ a.term)
            (λ _. omega (arith, inv.own leads))
            (λ n e. omega (arith, inv.own leads))

        changes : Change s (after s (reconfigure i M)) i (Makes s (reconfigure i M)) i (with_config (next_config M (s i).config) (s i))
        changes = record {
          term = omega arith;
          config = omega arith;
          kind = inr (
            refl,
            record {
              new = refl;
              is = ap (λ a. a.config) (put_same s i (with_config (next_config M (s i).config) (s i)));
              own = inv.own leads ∙ ap (λ a. a.term) (sym (put_same s i (with_config (next_config M (s i).config) (s i))));
              top = λ d. ((newest d).0, λ e. omega (arith, (newest d).1 e));
              base = (s i).config;
              has = here s i;
              active = reconfigure-active;
              reached = record { by = can.Q2.by; majority = can.Q2.majority; all = λ n m. reaches n (can.Q2.all n m) };
              meet = new-set-meets;
              sole = λ l e. inv.sole l leads e;
            },
          );
        }

  module _ (i j : ℕ) where
    send-step : CanSend s i j → Step s (after s (send i j)) j (Makes s (send i j))
    send-step can =
        put-elim (Change s (after s (send i j)) j (Makes s (send i j)))
        (record {
          term = omega arith;
          config = newer-orders (s i).config (s j).config can.newer;
          kind = inl (here s i, λ e. absurd (omega (arith, can.secondary)));
        })
        stays

    spread-step : (s j).term < (s i).term → Step s (after s (spread i j)) j (Makes s (spread i j))
    spread-step can = put-elim (Change s (after s (spread i j)) j (Makes s (spread i j))) (steps-down j (s i).term (omega arith)) stays

  pub step : (a : Action) → Allowed s a → Step s (after s a) (changed a) (Makes s a)
  step (elect i Q) can = elect-step i Q can
  step (reconfigure i M) can = reconfigure-step i M can
  step (send i j) can = send-step i j can
  step (spread i j) can = spread-step i j can

  pub inv-after : (a : Action) → Allowed s a → Inv (after s a)
  inv-after a can = kept (step a can) inv
