-- Kind by kind: no refusal of its own holds exactly where the paper's action is allowed and not narrowed. Assumes nothing.
use Prim.Native.Nat.{ℕ, zero, suc, ◌≤◌, ◌<◌, ◌^◌}
use mathlib.Core.Bool.{not, Bool}
use mathlib.Core.List.{[], ◌∷◌}
use mathlib.Core.Logic.Iff
use mathlib.Core.Logic.{◌⊎◌, inl, inr, ⊎_elim, ◌≢◌, ◌↔◌}
use mathlib.Core.Path.{◌≡◌, sym, ap, ◌∙◌, refl}
use native.Mathlib.Omega.{arith}
use lib.Dec.{ltb, eqb}
use lib.Count.{ones}
use lib.ListN.{length}
use Rattle.words.specs.Refusal.{refuse}
use Rattle.words.proofs.Tests.{Passes, Fails, either, first_of, second-of, neither, refuted, unrefuted, contradiction, fails, both-refuted, equal, less, at_most, above, is-equal, is-less, both, together, one-refuted, unequal, not-less, is-at-most}
use Rattle.words.proofs.RefusalLaws.{NoneHold, none_before}
use Rattle.members.specs.Members.{Member, member, within, majority, most_pass}
use Rattle.members.specs.Rules.{MajoritiesMeet, may_follow, below_floor}
use Rattle.members.proofs.Said.{All}
use Rattle.members.proofs.Masks.{member-pos}
use Rattle.members.proofs.Majorities.{majority-is, is-majority, all-meet, one-apart, most-map, none_passes, most-pass, pass-most}
use Rattle.members.proofs.Pairs.{meet_all}
use Rattle.members.proofs.Meaning.{within-is}
use Rattle.algorithm.specs.Table.{Log, Server, Table, count, server, term_at, positions, last, prefix, mark, ceiling}
use Rattle.algorithm.specs.Actions.{send_refusals, spread_refusals, write_refusals, joins, fetch_refusals, roll_back_refusals, larger_term, newer_config, log_ahead, elect_refusals, same_config, same_term, some_marked, holds_committed, reconfigure_refusals, opposes_at, commit_refusals, entry_refusals, marked_otherwise, lacks_entry}
use Rattle.algorithm.specs.Run.{known}
use Rattle.algorithm.proofs.Sound.{SoundTable, here-sound, SoundServer}
use Rattle.algorithm.proofs.Logs.{HasEntry}
use Rattle.algorithm.proofs.Seen.{within-width}
use Rattle.algorithm.proofs.Taken.{is_held, some-marked, holds-marked, mark-range, can-commit}
use Rattle.paper.specs.Paper.{at, IsPrefix, SendConfig, UpdateTerms, GetEntries, RollbackEntries, ClientRequest, Set, ◌∈◌, size, OfServers, Quorums, QuorumsOverlap, LogGeq, IsCommitted, C, NotNewer, Q1, Q2, P1b, Reconfig, BecomeLeader, CommitEntry}
use Rattle.paper.specs.Shown.{log_shown, set_shown, shown}
use Rattle.paper.specs.Narrowings.{MarkedOnce, SingleChange, AboveFloor, OwnCommit}
use Rattle.paper.proofs.Figures.{none_of, role-primary, role-secondary, later-is, length-shown, at-shown, last-shown, empty-shown, ends, term-order, prefix-is, later-not, not-newer-is, Exactly, AllFail, Allows, in-log, marked-some, marked-holds, none-some}
use Rattle.paper.proofs.Quorum.{size-ones, most-of, of-most, quorum-is, is-quorum, overlap, apart-is}

module _ (t : Table) (sound : SoundTable t) (i : ℕ) where
  abbrev a : Server
  a = server t i

  abbrev l : Log
  l = a.log

  -- ---- spread, send, write, fetch, roll back

  module _ (j : ℕ) where
    abbrev b : Server
    b = server t j

    abbrev m : Log
    m = b.log

    pub spread-kind : Exactly t (spread_refusals t i j) (UpdateTerms i j)
    spread-kind = (λ none. (less (refuted (none 18)), tt), λ (x, _). (unrefuted (is-less x), tt))

    pub send-kind : Exactly t (send_refusals t i j) (SendConfig i j)
    send-kind =
        let order = later-is a.config.term a.config.version b.config.term b.config.version in (
          λ none. (((role-secondary b).0 (refuted (none 6)), order.0 (refuted (none 17))), tt),
          λ ((follows, older), _). (unrefuted ((role-secondary b).1 follows), (unrefuted (order.1 older), tt)),
        )

    pub write-kind : Passes (known (count t) i) → Exactly t (write_refusals t i) (ClientRequest i)
    write-kind k = (
      λ none.
          let room : length l < positions = above (none 19) in ((role-primary (here-sound sound i k)).0 (refuted (none 6)), omega (arith, length-shown l)),
      λ (leads, room). (
        unrefuted ((role-primary (here-sound sound i k)).1 leads),
        (fails (λ y. let full : positions ≤ length l = at_most y in omega (arith, length-shown l)), tt),
      ),
    )

    -- what j has at the position of i's last entry
    there : at (log_shown m) (length (log_shown l)) ≡ term_at m (length l)
    there = ap (at (log_shown m)) (length-shown l) ∙ at-shown m (length l)

    pub fetch-kind : Exactly t (fetch_refusals t i j) (GetEntries i j)
    fetch-kind = (
      λ none.
          let (first, joined) = both-refuted {a = ltb (length l) (length m)} {b = joins l m} (none 20) in
          let longer : length l < length m = less first in
          let goes_on : (log_shown l ≡ []) ⊎ (at (log_shown l) (length (log_shown l)) ≡ at (log_shown m) (length (log_shown l))) =
          ⊎_elim (λ z. inl ((empty-shown l).1 (equal z))) (λ e. inr (last-shown l ∙ equal e ∙ sym there)) (either joined) in
          (((role-secondary a).0 (refuted (none 6)), (omega (arith, length-shown l, length-shown m), goes_on)), tt),
      λ ((follows, (longer, joined)), _).
          let more : length l < length m = omega (arith, length-shown l, length-shown m) in
          let joins-on : Passes (joins l m) =
          ⊎_elim (λ z. first_of (eqb (last l) (term_at m (length l))) (is-equal ((empty-shown l).0 z)))
          (λ e. second-of (eqb (length l) 0) (is-equal (sym (last-shown l) ∙ e ∙ there))) joined in
          let goes_on = none_of (not (ltb (length l) (length m))) (not (joins l m)) (unrefuted (is-less more)) (unrefuted joins-on) in
          (unrefuted ((role-secondary a).1 follows), (goes_on, tt)),
    )

    pub roll-back-kind : Passes (known (count t) i) → Passes (known (count t) j) → Exactly t (roll_back_refusals t i j) (RollbackEntries i j)
    roll-back-kind k k' =
        let (order, _) = term-order l m (ends l (here-sound sound i k).entries) (ends m (here-sound sound j k').entries) in (
          λ none.
              let (smaller, apart) = neither {a = not (ltb (last l) (last m))} {b = prefix l m} (none 21) in
              let no-prefix : ¬ IsPrefix (log_shown l) (log_shown m) = λ y. contradiction apart ((prefix-is l m).1 y) in
              (((role-secondary a).0 (refuted (none 6)), (order.1 (less (refuted smaller)), no-prefix)), tt),
          λ ((follows, (smaller, apart)), _).
              let behind : Fails (prefix l m) = fails (λ y. apart ((prefix-is l m).0 y)) in
              let ends_so = none_of (not (ltb (last l) (last m))) (prefix l m) (unrefuted (is-less (order.0 smaller))) behind in
              (unrefuted ((role-secondary a).1 follows), (ends_so, tt)),
        )

  -- ---- commit, elect, reconfigure

  module _ (q : ℕ) (here : Passes (known (count t) i)) (sets : Passes (within q (count t))) where
    whole : SoundServer (count t) a
    whole = here-sound sound i here

    set-width : a.config.set < 2 ^ count t
    set-width = within-width (count t) whole.config.set

    width : q < 2 ^ count t
    width = within-width (count t) sets

    a-majority : Quorums (shown t) (set_shown a.config.set) (set_shown q) → Passes (majority q a.config.set)
    a-majority x = is-majority (quorum-is (shown t) a.config.set set-width width x)

    pub commit-kind : Exactly t (commit_refusals t i q) (CommitEntry i (set_shown q))
    commit-kind = (there, back)
      where
        there : NoneHold (commit_refusals t i q) → Allows t (CommitEntry i (set_shown q))
        there none =
            let can = can-commit t i q sets (none_before (entry_refusals t i q) (refuse 24 (marked_otherwise t i) ∷ []) none) in
            let held : IsCommitted (shown t) (length (log_shown l)) a.term (set_shown q) =
            λ j u. let (e, holds) = can.held j u in ((in-log t j (length (log_shown l)) a.term).0 (rw (length-shown l) holds), e) in
            let once : MarkedOnce (shown t) i =
            λ u (e, o).
            let at-end : mark t (length l) ≡ u = ap (mark t) (sym (length-shown l)) ∙ e in
            ⊎_elim (λ z. let unmarked : mark t (length l) ≡ 0 = equal z in absurd (omega arith)) (λ z. sym at-end ∙ equal z) (one-refuted (none 24)) in
            ((is-quorum (shown t) a.config.set set-width can.majority, (role-primary whole).0 (refuted (none 6)), held), (last-shown l ∙ can.own, once))

        back : Allows t (CommitEntry i (set_shown q)) → AllFail (commit_refusals t i q)
        back ((quorum, leads, committed), (own, once)) =
            let holds : All q (λ s. HasEntry (server t s).log (length l) a.term) =
            λ j u. rw (length-shown l) at ((in-log t j (length (log_shown l)) a.term).1 (committed j u).0) in
            let (x, xin) = (within-is sets).some in
            let some : 1 ≤ length l = (holds x xin).some in
            let last-own : Fails (lacks_entry a) =
            none_of (eqb (length l) 0) (not (eqb (last l) a.term)) (fails (λ y. let none : length l ≡ 0 = equal y in omega arith))
            (unrefuted (is-equal (sym (last-shown l) ∙ own))) in
            let supported =
            none-some (count t) q width (opposes_at t i (length l)) (λ j u. unrefuted (together (is-equal (committed j u).1) (is_held (holds j u)))) in
            let unmarked : Fails (marked_otherwise t i) =
            fails (λ y.
            let (nonzero, differs) = both {a = not (eqb (mark t (length l)) 0)} {b = not (eqb (mark t (length l)) a.term)} y in
            let nz : mark t (length l) ≢ 0 = unequal (record { no = nonzero.yes }) in
            unequal {a = mark t (length l)} (record { no = differs.yes }) (once (mark t (length l)) (ap (mark t) (length-shown l), omega arith))) in
            (unrefuted ((role-primary whole).1 leads), (unrefuted (a-majority quorum), (last-own, (supported, (unmarked, tt)))))

    pub elect-kind : Exactly t (elect_refusals t i q) (BecomeLeader i (set_shown q))
    elect-kind = (there, back)
      where
        order : (v : ℕ) → Fails (newer_config t i v) ↔ NotNewer (C (shown t) v) (C (shown t) i)
        order v =
            let d = (server t v).config in
            let e = a.config in
            Iff.trans (later-not d.term d.version e.term e.version) (not-newer-is d.term d.version e.term e.version)

        logs : (v : ℕ) → Member v q → Fails (log_ahead t i v) ↔ LogGeq (shown t) i v
        logs v u =
            let k : Log = (server t v).log in
            let sound-v = here-sound sound v (together (is-at-most (member-pos v q u)) (is-at-most ((within-is sets).all v u))) in
            let (less, same) = term-order k l (ends k sound-v.entries) (ends l whole.entries) in
            let f = later-not (last k) (length k) (last l) (length l) in (
              λ x. ⊎_elim (λ o. inl (less.1 o)) (λ (e, o). inr (same.1 e, omega (arith, length-shown k, length-shown l))) (f.0 x),
              λ x. f.1 (⊎_elim (λ o. inl (less.0 o)) (λ (e, o). inr (same.0 e, omega (arith, length-shown k, length-shown l))) x),
            )

        there : NoneHold (elect_refusals t i q) → Allows t (BecomeLeader i (set_shown q))
        there none =
            let (most, self) = both-refuted {a = majority q a.config.set} {b = member i q} (none 7) in
            let not_top : a.term ≢ ceiling = unequal (none 11) in (
              (
                is-quorum (shown t) a.config.set set-width (majority-is most),
                self.yes,
                λ v u. (order v).0 (none_passes (count t) q width (newer_config t i) (none 9) v u),
                λ v u. let bound : (server t v).term ≤ a.term = not-less (none_passes (count t) q width (larger_term t i) (none 8) v u) in omega arith,
                λ v u. (logs v u).0 (none_passes (count t) q width (log_ahead t i) (none 10) v u),
              ),
              omega (arith, whole.term),
            )

        back : Allows t (BecomeLeader i (set_shown q)) → AllFail (elect_refusals t i q)
        back ((quorum, self, configs, terms, at_least_lem), below) =
            let voters = none_of (not (majority q a.config.set)) (not (member i q)) (unrefuted (a-majority quorum)) (unrefuted {b = member i q} (record { yes = self })) in
            let larger = none-some (count t) q width (larger_term t i) (λ v u. fails (λ y. let more : a.term < (server t v).term = less y in omega (arith, terms v u))) in
            let newer = none-some (count t) q width (newer_config t i) (λ v u. (order v).1 (configs v u)) in
            let ahead = none-some (count t) q width (log_ahead t i) (λ v u. (logs v u).1 (at_least_lem v u)) in
            let last-term : Fails (eqb a.term ceiling) = fails (λ y. let top : a.term ≡ ceiling = equal y in omega arith) in
            (voters, (larger, (newer, (ahead, (last-term, tt)))))

    pub reconfigure-kind : Exactly t (reconfigure_refusals t i q) (Reconfig i (set_shown q))
    reconfigure-kind = (there, back)
      where
        -- a majority of i's set passes, as the paper has it and as the test does
        some-quorum : {P : ℕ → Type 0} (p : ℕ → Bool) → ((j : ℕ) → Passes (p j) → P j) → Passes (most_pass (count t) p a.config.set)
            → (Q : Set) × Quorums (shown t) (set_shown a.config.set) Q × ((j : ℕ) → j ∈ Q → P j)
        some-quorum p f h = of-most (shown t) a.config.set set-width (most-map f (most-pass (count t) a.config.set set-width p h))

        quorum-passes : (p : ℕ → Bool) (Q : Set) → Quorums (shown t) (set_shown a.config.set) Q → ((j : ℕ) → j ∈ Q → Passes (p j))
            → Passes (most_pass (count t) p a.config.set)
        quorum-passes p Q quorum all = pass-most (count t) a.config.set set-width p (most-of (shown t) a.config.set set-width Q quorum all)

        overlaps : MajoritiesMeet a.config.set q ↔ QuorumsOverlap (shown t) (set_shown a.config.set) (set_shown q)
        overlaps = overlap (shown t) a.config.set q set-width width

        sized : size (count t) (set_shown q) ≡ ones q
        sized = size-ones (count t) width

        some : {m : ℕ} → Passes (within m (count t)) → 0 < m
        some {m} w = less (both {a = ltb 0 m} w).0

        -- a set may follow another where quorums overlap and, under rule 1, one server is added or removed
        follows : (R : ℕ) → Passes (may_follow R a.config.set q)
            ↔ (QuorumsOverlap (shown t) (set_shown a.config.set) (set_shown q) × SingleChange R (shown t) i (set_shown q))
        follows zero = (λ h. (overlaps.0 (one-apart h), (apart-is a.config.set q).0 h), λ (_, single). (apart-is a.config.set q).1 single)
        follows (suc k) = (λ h. (overlaps.0 (all-meet h), tt), λ (over, _). meet_all (some whole.config.set) (some sets) (overlaps.1 over))

        there : NoneHold (reconfigure_refusals t i q) → Allows t (Reconfig i (set_shown q))
        there none =
            let leads : a.role ≡ 1 = equal (refuted (none 6)) in
            let positive : 0 < a.term = ⊎_elim (λ r. r.1) (λ r. absurd (omega arith)) whole.role in
            let in-set : Passes (member i q) = refuted (none 12) in
            let not_top : a.config.version ≢ ceiling = unequal (none 11) in
            let (some, most) = both {a = some_marked t.marks a.term} (refuted (none 16)) in
            let (p, e) = some-marked t.marks a.term some in
            let own : OwnCommit (shown t) i = (p, a.term, ((e, positive), refl)) in
            let first : Q1 (shown t) i = some-quorum (same_config t i) (λ s u. let (version, term) = both u in (equal version, equal term)) (refuted (none 14)) in
            let second : Q2 (shown t) i = some-quorum (same_term t i) (λ s u. equal u) (refuted (none 15)) in
            let (Q, quorum, all) = some-quorum (holds_committed t i) (λ s u. u) most in
            let kept : P1b (shown t) i Q =
            λ p u ((marked, o), z) j v.
            let (low, high) = mark-range sound p (omega arith) in
            let (same, holds) = both (all j v) in
            ((in-log t j p a.term).0 (holds-marked t a.term (server t j).log positions holds p low high (marked ∙ z)), equal same) in
            let (over, single) = (follows t.rule).0 (refuted (none 13)) in
            let enough : AboveFloor t.floor (shown t) (set_shown q) = omega (arith, sized, not-less {a = ones q} {b = t.floor} (none 25)) in
            let of : OfServers (shown t) (set_shown q) = λ x u. (member-pos x q u, (within-is sets).all x u) in (
              (of, (role-primary whole).0 (refuted (none 6)), (first, second, (Q, quorum, (inr own, kept))), over),
              (omega (arith, whole.config.version), in-set.yes, single, enough, own),
            )

        back : Allows t (Reconfig i (set_shown q)) → AllFail (reconfigure_refusals t i q)
        back ((_, leads, ((Q, quorum, all), (Q', quorum', all'), (R, quorum'', (_, kept))), over), (below, self, single, enough, (p, u, ((marked, o), z)))) =
            let positive : 0 < a.term = omega arith in
            let last-version : Fails (eqb a.config.version ceiling) = fails (λ y. let top : a.config.version ≡ ceiling = equal y in omega arith) in
            let first = quorum-passes (same_config t i) Q quorum (λ j v. let (e, f) = all j v in together (is-equal e) (is-equal f)) in
            let second = quorum-passes (same_term t i) Q' quorum' (λ j v. is-equal (all' j v)) in
            let third = quorum-passes (holds_committed t i) R quorum'' (λ j v.
            together (is-equal (kept p u ((marked, o), z) j v).1) (marked-holds t a.term (server t j).log positions
            (λ r e. (in-log t j r a.term).1 (kept r a.term ((e, positive), refl) j v).0))) in
            let own = unrefuted (together (marked-some t.marks a.term p positive (marked ∙ z)) third) in
            let stays : Fails (not (member i q)) = unrefuted {b = member i q} (record { yes = self }) in
            let set-fits = unrefuted ((follows t.rule).1 (over, single)) in
            let not-below : Fails (below_floor t.floor q) = fails (λ y. let fewer : ones q < t.floor = less y in omega (arith, sized)) in
            (unrefuted ((role-primary whole).1 leads), (last-version, (stays, (set-fits, (not-below, (unrefuted first, (unrefuted second, (own, tt))))))))
