-- The invariant of the algorithm without logs, and that a step keeps it. A step is any change under which terms and configurations grow,
-- and at most one configuration is new. Of sets of servers it uses only that majorities meet.
-- Assumes nothing.
use Prim.Native.Nat.{ℕ, ◌≤◌, ◌<◌}
use mathlib.Core.Logic.{◌≢◌, ◌⊎◌, inl, inr, ⊎_elim}
use mathlib.Core.Path.{◌≡◌, refl, sym, ◌∙◌, subst}
use native.Mathlib.Decide.{dec_le, dec_lt}
use native.Mathlib.Omega.{arith}
use Rattle.members.specs.Rules.{MajoritiesMeet}
use Rattle.members.proofs.Said.{All, Some, Most, Hits}
use Rattle.members.proofs.Majorities.{same_set, all-or-some, meet-sym, most-hits, hits-map}
use Rattle.algorithm.specs.Table.{Config, Server}
use Rattle.algorithm.proofs.Logless.{State}

infix 30 ◌≼◌ ◌≺◌
-- D is not older than C
abbrev pub ◌≼◌ : Config → Config → Type 0
C ≼ D = (C.term ≤ D.term) × (C.term ≡ D.term → C.version ≤ D.version)

-- D is newer than C
abbrev pub ◌≺◌ : Config → Config → Type 0
C ≺ D = (C.term ≤ D.term) × (C.term ≡ D.term → C.version < D.version)

≼_trans : (C D E : Config) → C ≼ D → D ≼ E → C ≼ E
≼_trans C D E p q = (omega arith, λ e. omega (arith, p.1 (omega arith), q.1 (omega arith)))

≼-or-≻ : (C D : Config) → C ≼ D ⊎ D ≺ C
≼-or-≻ C D = go (dec_lt C.term D.term) (dec_lt D.term C.term) (dec_le C.version D.version)
  where
    go : Dec (C.term < D.term) → Dec (D.term < C.term) → Dec (C.version ≤ D.version) → C ≼ D ⊎ D ≺ C
    go (yes a) b c = inl (omega arith)
    go (no a) (yes b) c = inr (omega arith)
    go (no a) (no b) (yes c) = inl (omega arith)
    go (no a) (no b) (no c) = inr (omega arith)

-- some configuration's term is t or more
abbrev pub Reaches : State → ℕ → Type 0
Reaches s t = (n : ℕ) × (t ≤ (s n).config.term)

-- some server has the configuration C
pub record Has (s : State) (C : Config) : Type 0 where
  pub at : ℕ
  pub is : (s at).config ≡ C

pub here : (s : State) (n : ℕ) → Has s (s n).config
here s n = record { at = n; is = refl }

-- server i is primary, with the configuration C
pub record Leads (s : State) (i : ℕ) (C : Config) : Type 0 where
  pub primary : (s i).role ≡ 1
  pub is : (s i).config ≡ C

pub led : {s : State} {i : ℕ} {C : Config} → Leads s i C → Has s C
led {i} l = record { at = i; is = l.is }

-- some majority of C's set has nothing newer than C
abbrev pub Active : State → Config → Type 0
Active s C = Most C.set (λ n. (s n).config ≼ C)

pub record Inv (s : State) : Type 0 where
  -- a primary's configuration is of its own term
  pub own : {i : ℕ} {C : Config} → Leads s i C → C.term ≡ (s i).term
  -- a term has one primary at most
  pub sole : {i j : ℕ} {C D : Config} → Leads s i C → Leads s j D → C.term ≡ D.term → i ≡ j
  -- a primary has the newest configuration of its term
  pub newest : {i : ℕ} {C D : Config} → Leads s i C → Has s D → D.term ≡ C.term → D.version ≤ C.version
  -- term and version name a set
  pub same : {C D : Config} → Has s C → Has s D → C.term ≡ D.term → C.version ≡ D.version → C.set ≡ D.set
  -- the majorities of active configurations meet
  pub meet : {C D : Config} → Has s C → Has s D → Active s C → Active s D → MajoritiesMeet C.set D.set
  -- every majority of an active configuration has a member that heard of a given configuration's term
  pub heard : {C D : Config} → Has s C → Active s C → Has s D → Hits C.set (λ n. D.term ≤ (s n).term)
  -- where there is a configuration of a larger term, every majority of a primary's set has a member that left its own
  pub left : {i : ℕ} {C D : Config} → Leads s i C → Has s D → C.term < D.term → Hits C.set (λ n. C.term < (s n).term)

-- What is known of a new configuration C of server k, in the step from s to s'. `New` says which one it is.
pub record Made (s s' : State) (k : ℕ) (New : Config → Type 0) (C : Config) : Type 0 where
  pub new : New C
  pub is : (s' k).config ≡ C
  pub own : C.term ≡ (s' k).term
  -- it is newer than every other
  pub top : {D : Config} → Has s D → D ≺ C
  -- it grew out of an active configuration, a majority of which has now reached its term
  pub base : Config
  pub has : Has s base
  pub active : Active s base
  pub reached : Most base.set (λ n. C.term ≤ (s' n).term)
  pub meet : {D : Config} → Has s D → Active s D → MajoritiesMeet D.set C.set
  -- no other server leads its term
  pub sole : {j : ℕ} {D : Config} → Leads s j D → D.term ≡ C.term → j ≡ k

-- Server n becomes a: its term and its configuration grow. Either the configuration was there and n, if primary, is as it was,
-- or n is k, with a new configuration.
pub record Change (s s' : State) (k : ℕ) (New : Config → Type 0) (n : ℕ) (a : Server) : Type 0 where
  pub term : (s n).term ≤ a.term
  pub config : (s n).config ≼ a.config
  pub kind : (Has s a.config × (a.role ≡ 1 → a ≡ s n)) ⊎ ((n ≡ k) × Made s s' k New a.config)

abbrev pub Step : State → State → ℕ → (Config → Type 0) → Type 0
Step s s' k New = (n : ℕ) → Change s s' k New n (s' n)

module _ {s s' : State} {k : ℕ} {New : Config → Type 0} (step : Step s s' k New) (inv : Inv s) where
  pub was-active : {C : Config} → Active s' C → Active s C
  was-active {C} a = record {
    by = a.by;
    majority = a.majority;
    all = λ n m. ≼_trans (s n).config (s' n).config C (step n).config (a.all n m);
  }

  -- a configuration after the step: old or new
  abbrev pub Now : Config → Type 0
  Now C = Has s C ⊎ Made s s' k New C

  pub now : {C : Config} → Has s' C → Now C
  now h = ⊎_elim (λ (p, _). inl (record { at = p.at; is = p.is ∙ h.is })) (λ (_, m). inr (subst (Made s s' k New) h.is m)) (step h.at).kind

  -- a primary after the step: as it was, or with the new configuration
  abbrev pub Lead : ℕ → Config → Type 0
  Lead i C = (Leads s i C × (s' i ≡ s i)) ⊎ ((i ≡ k) × Made s s' k New C)

  pub lead : {i : ℕ} {C : Config} → Leads s' i C → Lead i C
  lead {i} l =
      ⊎_elim
      (λ (_, p). let e = p l.primary in inl (record { primary = cc; is = cc }, e))
      (λ (e, m). inr (e, subst (Made s s' k New) l.is m))
      (step i).kind

  top : {C D : Config} → Made s s' k New C → Now D → D.term ≤ C.term
  top m (inl d) = (m.top d).0
  top {C} {D} m (inr w) = let e : D.term ≡ C.term = cc in omega arith

  own : {i : ℕ} {C : Config} → Lead i C → C.term ≡ (s' i).term
  own (inl (l, e)) = cc (inv.own l)
  own (inr (e, m)) = cc

  sole : {i j : ℕ} {C D : Config} → Lead i C → Lead j D → C.term ≡ D.term → i ≡ j
  sole (inl (l, _)) (inl (r, _)) e = inv.sole l r e
  sole (inl (l, _)) (inr (q, m)) e = m.sole l e ∙ sym q
  sole (inr (p, m)) (inl (r, _)) e = p ∙ sym (m.sole r (sym e))
  sole (inr (p, _)) (inr (q, _)) e = p ∙ sym q

  newest : {i : ℕ} {C D : Config} → Lead i C → Now D → D.term ≡ C.term → D.version ≤ C.version
  newest (inl (l, _)) (inl d) e = inv.newest l d e
  newest {C} {D} (inl (l, q)) (inr m) e = let p = m.sole l (sym e) in let v : D.version ≡ C.version = cc in omega arith
  newest (inr (_, m)) (inl d) e = omega (arith, (m.top d).1 e)
  newest {C} {D} (inr (_, m)) (inr w) e = let v : D.version ≡ C.version = cc in omega arith

  same : {C D : Config} → Now C → Now D → C.term ≡ D.term → C.version ≡ D.version → C.set ≡ D.set
  same (inl c) (inl d) e v = inv.same c d e v
  same (inl c) (inr m) e v = absurd (omega (arith, (m.top c).1 e))
  same (inr m) (inl d) e v = absurd (omega (arith, (m.top d).1 (sym e)))
  same (inr m) (inr w) e v = cc

  meet : {C D : Config} → Now C → Now D → Active s C → Active s D → MajoritiesMeet C.set D.set
  meet (inl c) (inl d) a b = inv.meet c d a b
  meet (inl c) (inr m) a b = m.meet c a
  meet (inr m) (inl d) a b = meet-sym (m.meet d b)
  meet {C} {D} (inr m) (inr w) a b = let e : D.set ≡ C.set = cc in rw e (same_set C.set)

  heard : {C D : Config} → Now C → Active s C → Now D → Hits C.set (λ n. D.term ≤ (s' n).term)
  heard (inl c) a (inl d) = hits-map (λ n h. omega (arith, (step n).term)) (inv.heard c a d)
  heard (inl c) a (inr m) = most-hits (inv.meet m.has c m.active a) m.reached
  heard (inr m) a d = hits-map (λ n h. omega (arith, top m d)) (most-hits (m.meet m.has m.active) m.reached)

  left : {i : ℕ} {C D : Config} → Lead i C → Now D → C.term < D.term → Hits C.set (λ n. C.term < (s' n).term)
  left (inl (l, _)) (inl d) o Q q = hits-map (λ n h. omega (arith, (step n).term)) (inv.left l d o) Q q
  left {C} (inl (l, _)) (inr m) o Q q =
      go (all-or-some (λ n. (s n).config ≼ C) (λ n. C ≺ (s n).config) (λ n. ≼-or-≻ (s n).config C) Q)
    where
      go : All Q (λ n. (s n).config ≼ C) ⊎ Some Q (λ n. C ≺ (s n).config) → Some Q (λ n. C.term < (s' n).term)
      -- C is active: Q has a member that has reached the new term
      go (inl a) = let (n, b, h) = heard (inl (led l)) (record { by = Q; majority = q; all = a }) (inr m) Q q in (n, b, omega arith)
      -- a member of Q has a newer configuration, and so one of a larger term
      go (inr (n, _, p)) =
          let e : C.term ≢ (s n).config.term = λ e. omega (arith, p.1 e, inv.newest l (here s n) (sym e)) in
          hits-map (λ n h. omega (arith, (step n).term)) (inv.left l (here s n) (omega arith)) Q q
  left (inr (_, m)) d o Q q = absurd (omega (arith, top m d))

  pub kept : Inv s'
  kept = record {
    own = λ l. own (lead l);
    sole = λ l r. sole (lead l) (lead r);
    newest = λ l d. newest (lead l) (now d);
    same = λ c d. same (now c) (now d);
    meet = λ c d a b. meet (now c) (now d) (was-active a) (was-active b);
    heard = λ c a d. heard (now c) (was-active a) (now d);
    left = λ l d. left (lead l) (now d);
  }
