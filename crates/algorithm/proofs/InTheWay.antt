-- Which server a reply shows. Assumes nothing.
use Prim.Native.Nat.{ℕ, zero, suc}
use mathlib.Core.Bool.{Bool, not, ◌||◌}
use mathlib.Core.List.{List, ◌++◌}
use mathlib.Core.Logic.{◌⊎◌}
use mathlib.Core.Path.{◌≡◌, refl}
use lib.Dec.{T, eqb}
use lib.ListN.{length}
use Rattle.words.specs.Lists.{every}
use Rattle.words.specs.Refusal.{Shown, nothing, Refusal, Answer, answer}
use Rattle.words.proofs.Tests.{Passes, Fails, not-both, one-fails}
use Rattle.words.proofs.RefusalLaws.{quiet, quiet_each, EachHeld}
use Rattle.members.specs.Members.{within, some_pass, lowest_in}
use Rattle.members.proofs.Said.{Lowest}
use Rattle.members.proofs.Lowest.{lowest-in, lowest-map}
use Rattle.algorithm.specs.Table.{Table, count, server, held}
use Rattle.algorithm.specs.Bytes.{Action, unknown, elect, reconfigure, send, spread, write, fetch, roll_back, commit, stretch, action_of}
use Rattle.algorithm.specs.Actions.{one_server, larger_term, newer_config, log_ahead, elect_refusals, same_term, apart_shown, majority_refusals, mark_refusals, reconfigure_refusals, send_refusals, spread_refusals, write_refusals, fetch_refusals, roll_back_refusals, opposes_at, commit_refusals}
use Rattle.algorithm.specs.Run.{taken_shown, common_refusals, own_refusals, answered, step}
use Rattle.algorithm.proofs.Refusals.{Fits, step-each}
use Rattle.algorithm.proofs.Seen.{within-width}

-- the numbers that show a server
abbrev pub shows_server : ℕ → Bool
shows_server k = eqb k 8 || eqb k 9 || eqb k 10 || eqb k 23

-- server v has another term than i, or lacks the last entry of i's log
abbrev pub Unsupportive : Table → ℕ → ℕ → Type 0
Unsupportive t i v = Fails (same_term t i v) ⊎ Fails (held (server t v).log (length (server t i).log) (server t i).term)

-- the server in an answer to an action: by its number the lowest member of the set with that fault, or 0
pub data ServerShown (t : Table) : Action → Answer → Type 0 where
  larger-term : (i q : ℕ) (s : Shown) → Lowest q (λ v. Passes (larger_term t i v)) s.server → ServerShown t (elect i q) (answer 8 s)
  newer-config : (i q : ℕ) (s : Shown) → Lowest q (λ v. Passes (newer_config t i v)) s.server → ServerShown t (elect i q) (answer 9 s)
  log-ahead : (i q : ℕ) (s : Shown) → Lowest q (λ v. Passes (log_ahead t i v)) s.server → ServerShown t (elect i q) (answer 10 s)
  unsupportive : (i q : ℕ) (s : Shown) → Lowest q (Unsupportive t i) s.server → ServerShown t (commit i q) (answer 23 s)
  none : (a : Action) (k : ℕ) (s : Shown) → Fails (shows_server k) → s.server ≡ 0 → ServerShown t a (answer k s)

-- two majorities are no server
apart-server : (R old new : ℕ) → (apart_shown R old new).server ≡ 0
apart-server zero old new = refl
apart-server (suc k) old new = refl

module _ (t : Table) where
  quietly : (a : Action) (k : ℕ) → T (not (shows_server k)) → ServerShown t a (answer k nothing)
  quietly a k h = none a k nothing (record { no = h }) refl

  quiet-shown : (a : Action) (rs : List Refusal) → T (every (λ r. not (shows_server r.number)) rs) → EachHeld (ServerShown t a) (quiet rs)
  quiet-shown a = quiet_each (ServerShown t a) (λ k. not (shows_server k)) (λ k h. quietly a k h.yes)

  -- a set within n, and a fault that some member has
  lowest-fault : (q : ℕ) (fault : ℕ → Bool) → Passes (within q (count t)) → Passes (some_pass (count t) fault q)
      → Lowest q (λ v. Passes (fault v)) (lowest_in (count t) fault q)
  lowest-fault q fault w = lowest-in (count t) q fault (within-width (count t) w)

  -- what the refusal of a fault shows
  abbrev FaultShown : Action → ℕ → (ℕ → Bool) → ℕ → Type 0
  FaultShown a k fault q = Passes (some_pass (count t) fault q) → ServerShown t a (answer k (one_server (lowest_in (count t) fault q)))

  elect-shown : (i q : ℕ) → Passes (within q (count t)) → EachHeld (ServerShown t (elect i q)) (elect_refusals t i q)
  elect-shown i q w =
      let a : Action = elect i q in
      let larger : FaultShown a 8 (larger_term t i) q = λ h. larger-term i q _ (lowest-fault q (larger_term t i) w h) in
      let newer : FaultShown a 9 (newer_config t i) q = λ h. newer-config i q _ (lowest-fault q (newer_config t i) w h) in
      let ahead : FaultShown a 10 (log_ahead t i) q = λ h. log-ahead i q _ (lowest-fault q (log_ahead t i) w h) in
      (λ _. quietly a 7 tt, (larger, (newer, (ahead, (λ _. quietly a 11 tt, tt)))))

  reconfigure-shown : (i m : ℕ) → EachHeld (ServerShown t (reconfigure i m)) (reconfigure_refusals t i m)
  unfolding every
  reconfigure-shown i m =
      let a : Action = reconfigure i m in
      let sets = none a 13 _ (record { no = tt }) (apart-server t.rule (server t i).config.set m) in
      let rest = quiet-shown a (majority_refusals t i ++ mark_refusals t i) tt in
      (λ _. quietly a 6 tt, (λ _. quietly a 11 tt, (λ _. quietly a 12 tt, (λ _. sets, (λ _. quietly a 25 tt, rest)))))

  commit-shown : (i q : ℕ) → Passes (within q (count t)) → EachHeld (ServerShown t (commit i q)) (commit_refusals t i q)
  commit-shown i q w =
      let a : Action = commit i q in
      let p : ℕ = length (server t i).log in
      let has : ℕ → Bool = λ v. held (server t v).log p (server t i).term in
      let opposed : FaultShown a 23 (opposes_at t i p) q =
      λ h. unsupportive i q _
      (lowest-map (λ v. not-both (same_term t i v) (has v)) (λ v. one-fails (same_term t i v) (has v)) (lowest-fault q (opposes_at t i p) w h)) in
      (λ _. quietly a 6 tt, (λ _. quietly a 7 tt, (λ _. quietly a 22 tt, (opposed, (λ _. quietly a 24 tt, tt)))))

  own-shown : (a : Action) → Fits (count t) a → EachHeld (ServerShown t a) (own_refusals t a)
  unfolding every
  own-shown unknown fit = tt
  own-shown (elect i q) (_, w) = elect-shown i q w
  own-shown (reconfigure i m) fit = reconfigure-shown i m
  own-shown (send i j) fit = quiet-shown (send i j) (send_refusals t i j) tt
  own-shown (spread i j) fit = quiet-shown (spread i j) (spread_refusals t i j) tt
  own-shown (write i B) fit = quiet-shown (write i B) (write_refusals t i) tt
  own-shown (fetch i j) fit = quiet-shown (fetch i j) (fetch_refusals t i j) tt
  own-shown (roll_back i j) fit = quiet-shown (roll_back i j) (roll_back_refusals t i j) tt
  own-shown (commit i q) (_, w) = commit-shown i q w
  own-shown (stretch i j c) fit = quiet-shown (stretch i j c) (fetch_refusals t i j) tt

-- a taken action shows no server
taken-server : (t : Table) (a : Action) → (taken_shown t a).server ≡ 0
taken-server t unknown = refl
taken-server t (elect i q) = refl
taken-server t (reconfigure i m) = refl
taken-server t (send i j) = refl
taken-server t (spread i j) = refl
taken-server t (write i B) = refl
taken-server t (fetch i j) = refl
taken-server t (roll_back i j) = refl
taken-server t (commit i q) = refl
taken-server t (stretch i j c) = refl

pub server-shown : (t : Table) (a : List ℕ) → ServerShown t (action_of a) (answered (step t a))
unfolding every
server-shown t a =
    step-each (ServerShown t (action_of a)) t a (λ _. none (action_of a) 0 _ (record { no = tt }) (taken-server t (action_of a))) (quiet-shown t (action_of a) (common_refusals t a) tt)
    (λ _ fit. own-shown t (action_of a) fit)
