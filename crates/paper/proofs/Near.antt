-- Two states that are the same at every server: what numbers beyond the servers have does not matter to Algorithm 2. Assumes nothing.
use Prim.Native.Nat.{ℕ, zero, suc, ◌+◌}
use mathlib.Core.Bool.{Bool, true, false}
use mathlib.Core.Logic.Iff
use mathlib.Core.Logic.{◌⊎◌, inl, inr, ⊎_elim, ◌↔◌}
use mathlib.Core.Path.{◌≡◌, refl, sym, ap, ◌∙◌, subst}
use native.Mathlib.Decide.{ℕ_discrete}
use native.Mathlib.Omega.{arith}
use lib.Dec.{T}
use lib.ListN.{length}
use Rattle.paper.specs.Paper.{Set, ◌∈◌, State, IsServer, OfServers, Quorums, IsCommitted, CommittedAt, Q1, Q2, P1a, P1b, P1, Same, Sets, SetsAll, SetsApart, SameRoles, SameConfigs, SameCommitted, Action, Reconfig, BecomeLeader, CommitEntry, SendConfig, UpdateTerms, GetEntries, RollbackEntries, ClientRequest, Requires, Assigns, Step}
use Rattle.paper.specs.Narrowings.{SingleChange, Narrowed}
use Rattle.paper.specs.Runs.{Named, OnServers, AlikeAt, Alike}

-- ---- what is allowed

-- s is like z at the servers, and the sets of z are sets of servers
module _ (s z : State) (near : AlikeAt (IsServer z) z s) (sets_of : (i : ℕ) → IsServer z i → OfServers z (z.config i)) where
  is-committed : (p u : ℕ) (Q : Set) → ((j : ℕ) → j ∈ Q → IsServer z j) → IsCommitted s p u Q → IsCommitted z p u Q
  is-committed p u Q of all j v = let (e, t) = all j v in (rw (near.log j (of j v)) at e, sym (near.term j (of j v)) ∙ t)

  module _ (i : ℕ) (h : IsServer z i) where
    quorum : (Q : Set) → Quorums s (s.config i) Q → Quorums z (z.config i) Q
    quorum Q q = rw (near.servers, near.config i h) at q

    -- a member of a quorum is a server
    member-server : (Q : Set) → Quorums s (s.config i) Q → (j : ℕ) → j ∈ Q → IsServer z j
    member-server Q q j u = sets_of i h j ((quorum Q q).0 j u)

    q1 : Q1 s i → Q1 z i
    q1 (Q, q, all) = (
      Q,
      quorum Q q,
      λ j u.
          let (v, t) = all j u in
          let k = member-server Q q j u in
          (sym (near.config_version j k) ∙ v ∙ near.config_version i h, sym (near.config_term j k) ∙ t ∙ near.config_term i h),
    )

    q2 : Q2 s i → Q2 z i
    q2 (Q, q, all) = (Q, quorum Q q, λ j u. sym (near.term j (member-server Q q j u)) ∙ all j u ∙ near.term i h)

    own-commit : (p u : ℕ) → CommittedAt s (s.term i) p u → CommittedAt z (z.term i) p u
    own-commit p u (c, e) = ((near.committed p u).0 c, e ∙ near.term i h)

    p1 : P1 s i → P1 z i
    p1 (Q, q, (some, all)) =
        let some-own : P1a z i = ⊎_elim (λ none. inl (λ p u c. none p u ((near.committed p u).1 c))) (λ (p, u, c). inr (p, u, own-commit p u c)) some in
        let kept : P1b z i Q =
        λ p u (c, e).
        rw (near.term i h) at
        (is-committed p (s.term i) Q (member-server Q q) (all p u ((near.committed p u).1 c, e ∙ sym (near.term i h)))) in
        (Q, quorum Q q, (some-own, kept))

  -- what is allowed in s is allowed in z
  pub near-requires : (a : Action) → OnServers z a → Requires s a → Requires z a
  near-requires (Reconfig i new) h (of, leads, (a, b, c), meet) = (
    λ x u. rw near.servers at (of x u),
    sym (near.state i h) ∙ leads,
    (q1 i h a, q2 i h b, p1 i h c),
    rw (near.servers, near.config i h) at meet,
  )
  near-requires (SendConfig i j) (h, g) (follows, older) =
      (sym (near.state j g) ∙ follows, rw (near.config_term i h, near.config_term j g, near.config_version i h, near.config_version j g) at older)
  near-requires (BecomeLeader i Q) h (q, self, configs, terms, logs) =
      let of = member-server i h Q q in (
        quorum i h Q q,
        self,
        λ v u. rw (near.config_term i h, near.config_term v (of v u), near.config_version i h, near.config_version v (of v u)) at (configs v u),
        λ v u. omega (arith, near.term i h, near.term v (of v u), terms v u),
        λ v u. rw (near.log i h, near.log v (of v u)) at (logs v u),
      )
  near-requires (UpdateTerms i j) (h, g) larger = omega (arith, near.term i h, near.term j g)
  near-requires (ClientRequest i) h leads = sym (near.state i h) ∙ leads
  near-requires (GetEntries i j) (h, g) (follows, check) = (sym (near.state i h) ∙ follows, rw (near.log i h, near.log j g) at check)
  near-requires (RollbackEntries i j) (h, g) (follows, can) = (sym (near.state i h) ∙ follows, rw (near.log i h, near.log j g) at can)
  near-requires (CommitEntry i Q) h (q, leads, all) = (
    quorum i h Q q,
    sym (near.state i h) ∙ leads,
    rw (near.log i h, near.term i h) at (is-committed (length (s.log i)) (s.term i) Q (member-server i h Q q) all),
  )

  near-single : (R : ℕ) (i : ℕ) → IsServer z i → (new : Set) → SingleChange R s i new → SingleChange R z i new
  near-single zero i h new single = rw (near.config i h) at single
  near-single (suc k) i h new single = single

  -- what is not forbidden in s is not in z
  pub near-narrowed : (R F : ℕ) (a : Action) → OnServers z a → Narrowed R F s a → Narrowed R F z a
  near-narrowed R F (Reconfig i new) h (top, self, single, above, (p, u, c)) =
      (omega (arith, near.config_version i h), self, near-single R i h new single, rw near.servers at above, (p, u, own-commit i h p u c))
  near-narrowed R F (SendConfig i j) h n = n
  near-narrowed R F (BecomeLeader i Q) h top = omega (arith, near.term i h)
  near-narrowed R F (UpdateTerms i j) h n = n
  near-narrowed R F (ClientRequest i) h room = rw (near.log i h) at room
  near-narrowed R F (GetEntries i j) h n = n
  near-narrowed R F (RollbackEntries i j) h n = n
  near-narrowed R F (CommitEntry i Q) h (own, once) = (
    rw (near.log i h, near.term i h) at own,
    λ u c. once u ((near.committed (length (s.log i)) u).1 (rw (near.log i h) c)) ∙ near.term i h,
  )

-- ---- where it leads

member? : (Q : Set) (j : ℕ) → Dec (j ∈ Q)
member? Q j = go (Q j)
  where
    go : (b : Bool) → Dec (T b)
    go true = yes tt
    go false = no (λ t. t)

-- two variables that are the same at every number in S, and what each becomes
module _ {A : Type 0} (S : ℕ → Type 0) {f g f' g' : ℕ → A} (near : (j : ℕ) → S j → g j ≡ f j) where
  same-near : Same f f' → Same g g' → (j : ℕ) → S j → g' j ≡ f' j
  same-near x y j h = y j ∙ near j h ∙ sym (x j)

  sets-near : {k : ℕ} {a b : A} → b ≡ a → Sets f k a f' → Sets g k b g' → (j : ℕ) → S j → g' j ≡ f' j
  sets-near {k} e x y j h = go (ℕ_discrete j k)
    where
      go : Dec (j ≡ k) → g' j ≡ f' j
      go (yes w) = subst (λ (n : ℕ). g' n ≡ f' n) (sym w) (y.here ∙ e ∙ sym x.here)
      go (no ne) = y.elsewhere j ne ∙ near j h ∙ sym (x.elsewhere j ne)

  all_near : {Q : Set} {a b : A} → b ≡ a → SetsAll f Q a f' → SetsAll g Q b g' → (j : ℕ) → S j → g' j ≡ f' j
  all_near {Q} e x y j h = go (member? Q j)
    where
      go : Dec (j ∈ Q) → g' j ≡ f' j
      go (yes u) = y.here j u ∙ e ∙ sym (x.here j u)
      go (no u) = y.elsewhere j u ∙ near j h ∙ sym (x.elsewhere j u)

  apart-near : {k : ℕ} {Q : Set} {a b : A} → SetsApart f k a Q b f' → SetsApart g k a Q b g' → (j : ℕ) → S j → g' j ≡ f' j
  apart-near {k} {Q} x y j h = go (ℕ_discrete j k) (member? Q j)
    where
      go : Dec (j ≡ k) → Dec (j ∈ Q) → g' j ≡ f' j
      go (yes w) _ = subst (λ (n : ℕ). g' n ≡ f' n) (sym w) (y.here ∙ sym x.here)
      go (no ne) (yes u) = y.others j u ne ∙ sym (x.others j u ne)
      go (no ne) (no u) = y.elsewhere j u ne ∙ near j h ∙ sym (x.elsewhere j u ne)

module _ (S : ℕ → Type 0) (s z : State) where
  -- a variable is the same in both
  abbrev Both : {A : Type 0} → (State → ℕ → A) → Type 0
  Both v = (j : ℕ) → S j → v z j ≡ v s j

  alike : z.servers ≡ s.servers → Both (λ x. x.term) × Both (λ x. x.state)
      → Both (λ x. x.config) × Both (λ x. x.config_version) × Both (λ x. x.config_term) → Both (λ x. x.log) → SameCommitted s z → AlikeAt S s z
  alike e (r, o) (c, v, t) l m =
      record { servers = e; term = r; state = o; config = c; config_version = v; config_term = t; log = l; committed = m }

module _ (S : ℕ → Type 0) (s z s' z' : State) (near : AlikeAt S s z) (e : s'.servers ≡ s.servers) (e' : z'.servers ≡ z.servers) where
  committed : SameCommitted s s' → SameCommitted z z' → SameCommitted s' z'
  committed x y p u = Iff.trans (y p u) (Iff.trans (near.committed p u) (Iff.symm (x p u)))

  roles : SameRoles s s' → SameRoles z z' → Both S s' z' (λ x. x.term) × Both S s' z' (λ x. x.state)
  roles (r, o) (r', o') = (same-near S near.term r r', same-near S near.state o o')

  configs : SameConfigs s s' → SameConfigs z z' → Both S s' z' (λ x. x.config) × Both S s' z' (λ x. x.config_version) × Both S s' z' (λ x. x.config_term)
  configs (c, v, t) (c', v', t') =
      (same-near S near.config c c', same-near S near.config_version v v', same-near S near.config_term t t')

  made : Both S s' z' (λ x. x.term) × Both S s' z' (λ x. x.state) → Both S s' z' (λ x. x.config) × Both S s' z' (λ x. x.config_version) × Both S s' z' (λ x. x.config_term)
      → Both S s' z' (λ x. x.log) → SameCommitted s' z' → AlikeAt S s' z'
  made = alike S s' z' (e' ∙ near.servers ∙ sym e)

  -- an action leads from like states to like states
  pub near-assigns : (a : Action) → Named S a → Assigns s a s' → Assigns z a z' → AlikeAt S s' z'
  near-assigns (Reconfig i new) h (c, v, t, r, l, m) (c', v', t', r', l', m') =
      let next : z.config_version i + 1 ≡ s.config_version i + 1 = ap (λ (n : ℕ). n + 1) (near.config_version i h) in
      made (roles r r')
      (sets-near S near.config refl c c', sets-near S near.config_version next v v', same-near S near.config_term t t')
      (same-near S near.log l l') (committed m m')
  near-assigns (SendConfig i j) (h, _) (c, v, t, r, l, m) (c', v', t', r', l', m') =
      made (roles r r')
      (sets-near S near.config (near.config i h) c c', sets-near S near.config_version (near.config_version i h) v v', sets-near S near.config_term (near.config_term i h) t t')
      (same-near S near.log l l') (committed m m')
  near-assigns (BecomeLeader i Q) h (o, r, t, (c, v), l, m) (o', r', t', (c', v'), l', m') =
      let next : z.term i + 1 ≡ s.term i + 1 = ap (λ (n : ℕ). n + 1) (near.term i h) in
      made (all_near S near.term next r r', apart-near S near.state o o')
      (same-near S near.config c c', same-near S near.config_version v v', sets-near S near.config_term next t t')
      (same-near S near.log l l') (committed m m')
  near-assigns (UpdateTerms i j) (h, _) (o, r, c, l, m) (o', r', c', l', m') =
      made (sets-near S near.term (near.term i h) r r', sets-near S near.state refl o o') (configs c c') (same-near S near.log l l') (committed m m')
  near-assigns (ClientRequest i) h (l, r, c, m) (l', r', c', m') =
      made (roles r r') (configs c c') (sets-near S near.log (rw (near.log i h, near.term i h)) l l') (committed m m')
  near-assigns (GetEntries i j) (h, g) (l, r, c, m) (l', r', c', m') =
      made (roles r r') (configs c c') (sets-near S near.log (rw (near.log i h, near.log j g)) l l') (committed m m')
  near-assigns (RollbackEntries i j) (h, g) (l, r, c, m) (l', r', c', m') =
      made (roles r r') (configs c c') (sets-near S near.log (rw (near.log i h)) l l') (committed m m')
  near-assigns (CommitEntry i Q) h (m, r, c, l) (m', r', c', l') =
      made (roles r r') (configs c c') (same-near S near.log l l') (λ p u. Iff.trans (m' p u) (Iff.trans (added p u) (Iff.symm (m p u))))
    where
      added : (p u : ℕ)
          → (z.committed p u ⊎ ((p ≡ length (z.log i)) × (u ≡ z.term i))) ↔ (s.committed p u ⊎ ((p ≡ length (s.log i)) × (u ≡ s.term i)))
      added p u =
          rw (near.log i h, near.term i h) (⊎_elim (λ x. inl ((near.committed p u).0 x)) inr, ⊎_elim (λ x. inl ((near.committed p u).1 x)) inr)

-- ---- an action leaves no freedom

everywhere : (a : Action) → Named (λ _. Unit {0}) a
everywhere (Reconfig i new) = tt
everywhere (SendConfig i j) = (tt, tt)
everywhere (BecomeLeader i Q) = tt
everywhere (UpdateTerms i j) = (tt, tt)
everywhere (ClientRequest i) = tt
everywhere (GetEntries i j) = (tt, tt)
everywhere (RollbackEntries i j) = (tt, tt)
everywhere (CommitEntry i Q) = tt

self : (s : State) → Alike s s
self s = alike (λ _. Unit {0}) s s refl (λ j h. refl, λ j h. refl) (λ j h. refl, λ j h. refl, λ j h. refl) (λ j h. refl) (λ p u. Iff.rfl)

-- two states after the same action in the same state are the same
pub step-once : {s z y : State} {a : Action} → Step s a z → Step s a y → Alike z y
step-once {s} {z} {y} {a} p q =
    near-assigns (λ _. Unit {0}) s s z y (self s) p.servers q.servers a (everywhere a) p.assigns q.assigns
