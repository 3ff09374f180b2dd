-- The eight bytes leave out no action: each that Algorithm 2 allows in the state that a table shows, and no narrowing forbids, has bytes, and
-- they are taken; so a table can follow every step of narrowed Algorithm 2. Assumes nothing.
use Prim.Native.Nat.{ℕ, ◌/◌, ◌%◌, ◌<◌}
use mathlib.Core.Bool.{Bool, false, not, ◌||◌}
use mathlib.Core.List.{List}
use mathlib.Core.Path.{◌≡◌, refl, sym, ap, ◌∙◌, subst}
use native.Mathlib.Omega.{arith}
use lib.Pow.{pow_mono}
use Rattle.words.specs.Words.{pair_of}
use Rattle.words.proofs.Tests.{Passes, Fails, together, unrefuted, is-at-most}
use Rattle.members.specs.Members.{within, mask}
use Rattle.members.proofs.Masks.{mask_lt, member-pos}
use Rattle.members.proofs.Meaning.{within-is}
use Rattle.algorithm.specs.Table.{Table, count, server, broken}
use Rattle.algorithm.specs.Bytes.{action_of}
use Rattle.algorithm.specs.Cases.{action_bytes}
use Rattle.algorithm.specs.Run.{known, step, form_refusals}
use Rattle.algorithm.proofs.Seen.{within-width}
use Rattle.algorithm.proofs.Sound.{table-sound, here-sound}
use Rattle.paper.specs.Paper.{Set, ◌∈◌, State, IsServer, OfServers, Quorums, Action, Reconfig, BecomeLeader, CommitEntry, SendConfig, UpdateTerms, GetEntries, RollbackEntries, ClientRequest, Requires, Step}
use Rattle.paper.specs.Narrowings.{Narrowed}
use Rattle.paper.specs.Runs.{OnServers, Alike}
use Rattle.paper.specs.Shown.{set_shown, shown, OfPaper, times_asked, Repeats, never, again, UpTo}
use Rattle.paper.proofs.Quorum.{most-of, most-some, mask-within, mask-shown}
use Rattle.paper.proofs.Figures.{none_of, AllFail, none-all}
use Rattle.paper.proofs.Exactly.{Allowed, both_of, taken-exactly, taken-leads}
use Rattle.paper.proofs.Near.{step-once}

fine : Fails false
fine = record { no = tt }

-- what is done once is a step
one-step : {b : Action} {k : ℕ} {t z : Table} → k ≡ 1 → Repeats b k t z → Step (shown t) b (shown z)
one-step e never = absurd (omega arith)
one-step e (again h never) = h
one-step e (again h (again g more)) = absurd (omega arith)

module _ (t : Table) (sound : Fails (broken t)) where
  abbrev n : ℕ
  n = count t

  abbrev s : State
  s = shown t

  is_known : (i : ℕ) → IsServer s i → Passes (known n i)
  is_known i (a, b) = together (is-at-most a) (is-at-most b)

  -- 2 to 5 fail for the kinds that use j
  by-pair : {i j : ℕ} → IsServer s i → IsServer s j → Fails false × (Fails false × (Fails (not (known n i) || not (known n j)) × (Fails false × Unit {0})))
  by-pair {i} {j} h g = (fine, (fine, (none_of (not (known n i)) (not (known n j)) (unrefuted (is_known i h)) (unrefuted (is_known j g)), (fine, tt))))

  -- and for those that do not; b tells whether the set is no set of servers
  by_one : {i : ℕ} (b : Bool) → IsServer s i → Fails b → Fails false × (Fails false × (Fails (not (known n i) || false) × (Fails b × Unit {0})))
  by_one {i} b h k = (fine, (fine, (none_of (not (known n i)) false (unrefuted (is_known i h)) fine, (k, tt))))

  -- a set of servers as a mask
  module _ (Q : Set) (inside : OfServers s Q) (x : ℕ) (some : x ∈ Q) where
    abbrev code : ℕ
    code = pair_of (mask n Q % 256) (mask n Q / 256 % 256)

    code_is : code ≡ mask n Q
    code_is = let small : mask n Q < 65536 = omega (arith, mask_lt n Q, pow_mono (table-sound sound).few) in omega arith

    code-within : Fails (not (within code n))
    code-within = unrefuted {b = within code n} (rw code_is (mask-within n Q inside x some))

    code-set : set_shown code ≡ Q
    code-set = ap set_shown code_is ∙ mask-shown n Q inside

    -- what is allowed with Q is allowed with the set of the two bytes
    coded : (A : Set → Action) → Requires s (A Q) → Narrowed t.rule t.floor s (A Q) → Requires s (A (set_shown code)) × Narrowed t.rule t.floor s (A (set_shown code))
    coded A can narrow = subst (λ (S : Set). Requires s (A S) × Narrowed t.rule t.floor s (A S)) (sym code-set) (can, narrow)

  -- ---- kinds that use a set

  -- a configuration that a table shows is a set of servers
  pub config-servers : (i : ℕ) → IsServer s i → OfServers s (s.config i)
  config-servers i h x u =
      let c = (here-sound (table-sound sound) i (is_known i h)).config.set in
      (member-pos x (server t i).config.set u, (within-is c).all x u)

  -- a quorum of i's set has servers, and one at least
  quorum-servers : (i : ℕ) → IsServer s i → (Q : Set) → Quorums s (s.config i) Q → OfServers s Q
  quorum-servers i h Q (inside, _) x u = config-servers i h x (inside x u)

  quorum-some : (i : ℕ) → IsServer s i → (Q : Set) → Quorums s (s.config i) Q → (x : ℕ) × (x ∈ Q)
  quorum-some i h Q q =
      let width = within-width n (here-sound (table-sound sound) i (is_known i h)).config.set in
      most-some (most-of s (server t i).config.set width {P = λ j. j ∈ Q} Q q (λ j u. u))

  -- ---- each action

  -- bytes that 2 to 5 do not refuse, of an action that is allowed, are taken
  well-formed : (bs : List ℕ) → AllFail (form_refusals n bs) × Allowed t (action_of bs) → (step t bs).number ≡ 0
  well-formed bs (form, allowed) = (taken-exactly t bs sound).1 (none-all (form_refusals n bs) form, allowed)

  -- each action has its bytes, and they are taken
  pub bytes : (b : Action) → OnServers s b → Requires s b → Narrowed t.rule t.floor s b
      → (bs : List ℕ) × ((step t bs).number ≡ 0) × OfPaper (λ c. c ≡ b) (action_of bs) × (times_asked (action_of bs) ≡ 1)
  bytes (BecomeLeader i Q) h can narrow =
      let inside : OfServers s Q = quorum-servers i h Q can.0 in
      let form = by_one (not (within (code Q inside i can.1) n)) h (code-within Q inside i can.1) in (
        action_bytes 1 i 0 (mask n Q),
        well-formed (action_bytes 1 i 0 (mask n Q)) (form, coded Q inside i can.1 (BecomeLeader i) can narrow),
        ap (BecomeLeader i) (code-set Q inside i can.1),
        refl,
      )
  bytes (Reconfig i new) h can narrow =
      let form = by_one (not (within (code new can.0 i narrow.1) n)) h (code-within new can.0 i narrow.1) in (
        action_bytes 2 i 0 (mask n new),
        well-formed (action_bytes 2 i 0 (mask n new)) (form, coded new can.0 i narrow.1 (Reconfig i) can narrow),
        ap (Reconfig i) (code-set new can.0 i narrow.1),
        refl,
      )
  bytes (CommitEntry i Q) h can narrow =
      let inside : OfServers s Q = quorum-servers i h Q can.0 in
      let (x, some) = quorum-some i h Q can.0 in
      let form = by_one (not (within (code Q inside x some) n)) h (code-within Q inside x some) in (
        action_bytes 8 i 0 (mask n Q),
        well-formed (action_bytes 8 i 0 (mask n Q)) (form, coded Q inside x some (CommitEntry i) can narrow),
        ap (CommitEntry i) (code-set Q inside x some),
        refl,
      )
  bytes (SendConfig i j) (h, g) can narrow = (action_bytes 3 i j 0, well-formed (action_bytes 3 i j 0) (by-pair h g, (can, narrow)), refl, refl)
  bytes (UpdateTerms i j) (h, g) can narrow = (action_bytes 4 i j 0, well-formed (action_bytes 4 i j 0) (by-pair h g, (can, narrow)), refl, refl)
  bytes (ClientRequest i) h can narrow = (action_bytes 5 i 0 0, well-formed (action_bytes 5 i 0 0) (by_one false h fine, (can, narrow)), refl, refl)
  bytes (GetEntries i j) (h, g) can narrow = (action_bytes 6 i j 0, well-formed (action_bytes 6 i j 0) (by-pair h g, (can, narrow)), refl, refl)
  bytes (RollbackEntries i j) (h, g) can narrow = (action_bytes 7 i j 0, well-formed (action_bytes 7 i j 0) (by-pair h g, (can, narrow)), refl, refl)

  -- and they lead where Algorithm 2 leads
  pub goes : (b : Action) → OnServers s b → Requires s b → Narrowed t.rule t.floor s b → (bs : List ℕ) × ((step t bs).number ≡ 0) × Step s b (shown (step t bs).table)
  goes b on can narrow =
      let (bs, e, named, single) = bytes b on can narrow in
      let (c, same, led) = both_of (λ c. c ≡ b) (λ c. UpTo (times_asked (action_of bs)) c t (step t bs).table) (action_of bs) named (taken-leads t bs e) in
      (bs, e, subst (λ (x : Action). Step s x (shown (step t bs).table)) same (one-step (omega (arith, led.some, led.most)) led.steps))

  -- whatever state narrowed Algorithm 2 goes to, the table goes there too
  pub matched : (b : Action) → OnServers s b → Narrowed t.rule t.floor s b → (z : State) → Step s b z
      → (bs : List ℕ) × ((step t bs).number ≡ 0) × Alike z (shown (step t bs).table)
  matched b on narrow z h = let (bs, e, led) = goes b on h.requires narrow in (bs, e, step-once h led)
