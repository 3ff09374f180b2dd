-- Kind by kind: the table after a taken action shows the state that the paper's action assigns. Assumes nothing.
use Prim.Native.Nat.{ℕ, ◌+◌, ◌-◌, ◌≤◌, ◌<◌}
use mathlib.Core.List.{List, [], ◌∷◌, ◌++◌}
use mathlib.Core.Logic.Iff
use mathlib.Core.Logic.{◌≢◌, ◌⊎◌, inl, inr, ⊎_elim, ◌↔◌}
use mathlib.Core.Path.{◌≡◌, refl, sym, ap, ◌∙◌, subst}
use native.Mathlib.Decide.{ℕ_discrete}
use native.Mathlib.Omega.{arith}
use lib.Dec.{T_not}
use lib.ListN.{length, take}
use Rattle.words.proofs.Tests.{Passes}
use Rattle.words.proofs.Choice.{put-elim, put_same, cond-elim}
use Rattle.words.specs.Lists.{put}
use Rattle.words.proofs.Lists.{nth-replace, nth-replaced}
use Rattle.members.specs.Members.{Member, member, within}
use Rattle.algorithm.specs.Table.{Config, Entry, Log, Server, Table, count, absent, server, mark, with_server, with_config, with_log, entry_of, entry_at}
use Rattle.algorithm.specs.Actions.{stepped_down, voted, winner, elect_after, next_config, reconfigure_after, send_after, spread_after, write_after, fetch_after, roll_back_after, commit_after}
use Rattle.algorithm.specs.Run.{known}
use Rattle.algorithm.proofs.Seen.{known-range, count-voted, server-voted}
use Rattle.paper.specs.Paper.{Role, Primary, Secondary, at, Same, Sets, SameRoles, SameConfigs, SameCommitted, Reconfig, BecomeLeader, CommitEntry, SendConfig, UpdateTerms, GetEntries, RollbackEntries, ClientRequest, Assigns}
use Rattle.paper.specs.Shown.{role_shown, set_shown, log_shown, shown}
use Rattle.paper.proofs.Figures.{length-shown, at-shown, plus-shown, take-shown}

-- ---- a table with another server

module _ (t : Table) (i : ℕ) (x : Server) (here : Passes (known (count t) i)) where
  abbrev z : Table
  z = with_server t i x

  replaced : (j : ℕ) → server z j ≡ put (server t) i x j
  replaced = let (a, b) = known-range here in nth-replace t.servers i x absent a b

  -- what the server has changes to b, and stays elsewhere
  module _ {B : Type 0} (f : Server → B) where
    sets : (b : B) → f x ≡ b → Sets (λ n. f (server t n)) i b (λ n. f (server z n))
    sets b e = record {
      here = ap f (replaced i ∙ put_same (server t) i x) ∙ e;
      elsewhere = λ j ne.
          ap f (replaced j)
          ∙ put-elim (λ n y. n ≢ i → f y ≡ f (server t n)) {f = server t} {k = i} {a = x} (λ w. absurd (w refl)) (λ n _. refl) j ne;
    }

    -- what the server keeps stays everywhere
    same : f x ≡ f (server t i) → Same (λ n. f (server t n)) (λ n. f (server z n))
    same e j = ap f (replaced j) ∙ put-elim (λ n y. f y ≡ f (server t n)) {f = server t} {k = i} {a = x} e (λ n. refl) j

  same_roles : x.role ≡ (server t i).role → x.term ≡ (server t i).term → SameRoles (shown t) (shown z)
  same_roles e f = (same (λ s. s.term) f, same (λ s. role_shown s.role) (ap role_shown e))

  same-configs : x.config ≡ (server t i).config → SameConfigs (shown t) (shown z)
  same-configs e = (
    same (λ s. set_shown s.config.set) (ap (λ (c : Config). set_shown c.set) e),
    same (λ s. s.config.version) (ap (λ (c : Config). c.version) e),
    same (λ s. s.config.term) (ap (λ (c : Config). c.term) e),
  )

-- ---- one server's log, figures or configuration change

module _ (t : Table) (i j : ℕ) (known-i : Passes (known (count t) i)) where
  abbrev a : Server
  a = server t i

  -- the server has another log, which shows r
  with-log : (l : Log) (r : List ℕ) → log_shown l ≡ r
      → Sets (shown t).log i r (shown (with_server t i (with_log l a))).log
      × SameRoles (shown t) (shown (with_server t i (with_log l a)))
      × SameConfigs (shown t) (shown (with_server t i (with_log l a)))
      × SameCommitted (shown t) (shown (with_server t i (with_log l a)))
  with-log l r e =
      let x : Server = with_log l a in
      (sets t i x known-i (λ s. log_shown s.log) r e, same_roles t i x known-i refl refl, same-configs t i x known-i refl, λ p u. Iff.rfl)

  pub write-after : (B : ℕ) → Assigns (shown t) (ClientRequest i) (shown (write_after t i B))
  write-after B = with-log (a.log ++ (entry_of a.term B ∷ [])) _ (plus-shown a.log (entry_of a.term B))

  pub fetch-after : Assigns (shown t) (GetEntries i j) (shown (fetch_after t i j))
  fetch-after =
      let l : Log = (server t j).log in
      let e : Entry = entry_at l (length a.log + 1) in
      let next : e.term ≡ at (log_shown l) (length (log_shown a.log) + 1) =
      sym (at-shown l (length a.log + 1)) ∙ ap (λ (n : ℕ). at (log_shown l) (n + 1)) (sym (length-shown a.log)) in
      with-log (a.log ++ (e ∷ [])) _ (plus-shown a.log e ∙ ap (λ (u : ℕ). log_shown a.log ++ (u ∷ [])) next)

  pub roll-back-after : Assigns (shown t) (RollbackEntries i j) (shown (roll_back_after t i j))
  roll-back-after =
      with-log (take (length a.log - 1) a.log) _
      (take-shown (length a.log - 1) a.log ∙ ap (λ (n : ℕ). take (n - 1) (log_shown a.log)) (sym (length-shown a.log)))

  pub reconfigure-after : (m : ℕ) → Assigns (shown t) (Reconfig i (set_shown m)) (shown (reconfigure_after t i m))
  reconfigure-after m =
      let x : Server = with_config (next_config m a.config) a in (
        sets t i x known-i (λ s. set_shown s.config.set) (set_shown m) refl,
        sets t i x known-i (λ s. s.config.version) (a.config.version + 1) refl,
        same t i x known-i (λ s. s.config.term) refl,
        same_roles t i x known-i refl refl,
        same t i x known-i (λ s. log_shown s.log) refl,
        λ p u. Iff.rfl,
      )

module _ (t : Table) (i j : ℕ) (known-j : Passes (known (count t) j)) where
  pub send-after : Assigns (shown t) (SendConfig i j) (shown (send_after t i j))
  send-after =
      let c : Config = (server t i).config in
      let x : Server = with_config c (server t j) in (
        sets t j x known-j (λ s. set_shown s.config.set) (set_shown c.set) refl,
        sets t j x known-j (λ s. s.config.version) c.version refl,
        sets t j x known-j (λ s. s.config.term) c.term refl,
        same_roles t j x known-j refl refl,
        same t j x known-j (λ s. log_shown s.log) refl,
        λ p u. Iff.rfl,
      )

  pub spread-after : Assigns (shown t) (UpdateTerms i j) (shown (spread_after t i j))
  spread-after =
      let x : Server = stepped_down (server t i).term (server t j) in (
        sets t j x known-j (λ s. role_shown s.role) Secondary refl,
        sets t j x known-j (λ s. s.term) (server t i).term refl,
        same-configs t j x known-j refl,
        same t j x known-j (λ s. log_shown s.log) refl,
        λ p u. Iff.rfl,
      )

-- ---- an election

module _ (t : Table) (i q : ℕ) (known-i : Passes (known (count t) i)) (fit : Passes (within q (count t))) (self : Member i q) where
  abbrev next : ℕ
  next = (server t i).term + 1

  abbrev v : Table
  v = voted t q next

  abbrev w : Server
  w = winner next (server t i)

  known-v : Passes (known (count v) i)
  known-v = subst (λ (n : ℕ). Passes (known n i)) (sym (count-voted q next t)) known-i

  -- what a server has after the vote, before there is a winner
  module _ {B : Type 0} (f : Server → B) where
    vote : (j : ℕ) → Member j q → f (server v j) ≡ f (stepped_down next (server t j))
    vote j u =
        ap f (server-voted q next t fit j)
        ∙ cond-elim (λ s. f s ≡ f (stepped_down next (server t j))) (member j q) (λ _. refl) (λ o. absurd (T_not (member j q) o u))

    rest : (j : ℕ) → ¬ Member j q → f (server v j) ≡ f (server t j)
    rest j u = ap f (server-voted q next t fit j) ∙ cond-elim (λ s. f s ≡ f (server t j)) (member j q) (λ o. absurd (u o)) (λ _. refl)

    -- what no vote changes
    module _ (keeps : (s : Server) → f (stepped_down next s) ≡ f s) where
      kept : (j : ℕ) → f (server v j) ≡ f (server t j)
      kept j =
          ap f (server-voted q next t fit j) ∙ cond-elim (λ s. f s ≡ f (server t j)) (member j q) (λ _. keeps (server t j)) (λ _. refl)

      all-kept : f w ≡ f (server t i) → Same (λ n. f (server t n)) (λ n. f (server (elect_after t i q) n))
      all-kept e j = same v i w known-v f (e ∙ sym (kept i)) j ∙ kept j

  pub elect-after : Assigns (shown t) (BecomeLeader i (set_shown q)) (shown (elect_after t i q))
  elect-after =
      let role : Server → Role = λ s. role_shown s.role in
      let roles = sets v i w known-v role Primary refl in
      let terms = same v i w known-v (λ s. s.term) (sym (vote (λ s. s.term) i self)) in
      let counters = sets v i w known-v (λ s. s.config.term) next refl in (
        record {
          here = roles.here;
          others = λ j u ne. roles.elsewhere j ne ∙ vote role j u;
          elsewhere = λ j u ne. roles.elsewhere j ne ∙ rest role j u;
        },
        record { here = λ j u. terms j ∙ vote (λ s. s.term) j u; elsewhere = λ j u. terms j ∙ rest (λ s. s.term) j u },
        record { here = counters.here; elsewhere = λ j ne. counters.elsewhere j ne ∙ kept (λ s. s.config.term) (λ s. refl) j },
        (all-kept (λ s. set_shown s.config.set) (λ s. refl) refl, all-kept (λ s. s.config.version) (λ s. refl) refl),
        all-kept (λ s. log_shown s.log) (λ s. refl) refl,
        λ p u. Iff.rfl,
      )

-- ---- a commit

module _ (t : Table) (i q : ℕ) where
  abbrev l : Log
  l = (server t i).log

  abbrev T' : ℕ
  T' = (server t i).term

  module _ (some : 1 ≤ length l) (room : length l ≤ length t.marks) (positive : 0 < T') (once : (u : ℕ) → mark t (length l) ≡ u → 0 < u → u ≡ T') where
    abbrev c : Table
    c = commit_after t i q

    mark-else : (p : ℕ) → p ≢ length l → mark c p ≡ mark t p
    mark-else p ne =
        nth-replace t.marks (length l) T' 0 some room p
        ∙ put-elim (λ n x. n ≢ length l → x ≡ mark t n) {f = mark t} {k = length l} {a = T'} (λ f. absurd (f refl)) (λ n _. refl) p ne

    pub commit-after : Assigns (shown t) (CommitEntry i (set_shown q)) (shown c)
    commit-after = (λ p u. go p u (ℕ_discrete p (length l)), (λ j. refl, λ j. refl), (λ j. refl, λ j. refl, λ j. refl), λ j. refl)
      where
        go : (p u : ℕ) → Dec (p ≡ length l)
            → ((mark c p ≡ u) × (0 < u)) ↔ (((mark t p ≡ u) × (0 < u)) ⊎ ((p ≡ length (log_shown l)) × (u ≡ T')))
        go p u (yes y) =
            let now : mark c p ≡ T' = ap (mark c) y ∙ nth-replaced t.marks (length l) T' 0 some room in (
              λ (m, o). inr (y ∙ sym (length-shown l), sym m ∙ now),
              ⊎_elim (λ (m, o). (now ∙ sym (once u (ap (mark t) (sym y) ∙ m) o), o)) (λ (_, e). (now ∙ sym e, omega arith)),
            )
        go p u (no ne) = (
          λ (m, o). inl (sym (mark-else p ne) ∙ m, o),
          ⊎_elim (λ (m, o). (mark-else p ne ∙ m, o)) (λ (y, _). absurd (ne (y ∙ length-shown l))),
        )
