-- Roles, configurations, logs, entries and marks as the paper sees them; what a kind's refusals are to say. Assumes nothing.
use Prim.Native.Nat.{ℕ, zero, suc, ◌+◌, ◌≤◌, ◌<◌, ◌^◌}
use mathlib.Core.Bool.{Bool, true, false, ◌&&◌, ◌||◌, not}
use mathlib.Core.List.{[], ◌∷◌, ◌++◌, List}
use mathlib.Core.Logic.{◌⊎◌, inl, inr, ⊎_elim, ◌↔◌}
use mathlib.Core.Path.{◌≡◌, refl, sym, ap, ◌∙◌}
use native.Mathlib.Nat.{eq-or-lt_of_le}
use native.Mathlib.Omega.{arith}
use lib.Dec.{ltb, eqb}
use lib.ListN.{length, take, length-map, get_or-map, get_or}
use Rattle.words.specs.Lists.{nth, every}
use Rattle.words.specs.Refusal.{Refusal, first}
use Rattle.words.proofs.Tests.{Passes, Fails, both, together, either, first_of, second-of, fails, equal, less, at_most, is-equal, is-less, contradiction, fails-false}
use Rattle.words.proofs.Lists.{every-nth}
use Rattle.words.proofs.RefusalLaws.{NoneHold, one_more}
use Rattle.members.specs.Members.{some_pass}
use Rattle.members.proofs.Said.{All}
use Rattle.members.proofs.Majorities.{some-passes}
use Rattle.algorithm.specs.Table.{Entry, no_entry, Log, Server, primary, secondary, term_at, sound_entry, later, last, prefix, Table, server, mark, held}
use Rattle.algorithm.specs.Actions.{some_marked, holds_marked}
use Rattle.algorithm.proofs.Orders.{not-larger}
use Rattle.algorithm.proofs.Sound.{SoundServer}
use Rattle.algorithm.proofs.Logs.{HasEntry}
use Rattle.algorithm.proofs.Taken.{is_held}
use Rattle.paper.specs.Paper.{Primary, Secondary, at, log_term, IsPrefix, InLog, Action, Requires}
use Rattle.paper.specs.Shown.{role_shown, log_shown, shown}
use Rattle.paper.specs.Narrowings.{Narrowed}

-- where neither holds, their disjunction fails
pub none_of : (a b : Bool) → Fails a → Fails b → Fails (a || b)
none_of true b h k = absurd h.no
none_of false b h k = k

-- ---- roles

-- the two roles differ
apart : Primary ≡ Secondary → ⊥
apart e = let z : ◌≡◌ {A = ℕ} 0 1 = cc in omega arith

zero-secondary : (r : ℕ) → (r ≡ 0) ↔ (role_shown r ≡ Secondary)
zero-secondary zero = (λ _. refl, λ _. refl)
zero-secondary (suc k) = (λ e. absurd (omega arith), λ e. absurd (apart e))

-- role 0 is shown as secondary
pub role-secondary : (s : Server) → Passes (secondary s) ↔ (role_shown s.role ≡ Secondary)
role-secondary s = (λ h. (zero-secondary s.role).0 (equal h), λ e. is-equal ((zero-secondary s.role).1 e))

-- role 1 is shown as primary, in a server that keeps the rules
pub role-primary : {n : ℕ} {s : Server} → SoundServer n s → Passes (primary s) ↔ (role_shown s.role ≡ Primary)
role-primary {s} h =
    (λ p. let e : s.role ≡ 1 = equal p in rw e, λ p. is-equal (⊎_elim (λ r. r.0) (λ z. absurd (apart (sym p ∙ (zero-secondary s.role).0 z))) h.role))

-- ---- orders

module _ (a p b q : ℕ) where
  -- what a comparison by two figures says
  pub later-is : Passes (later a p b q) ↔ ((b < a) ⊎ ((b ≡ a) × (q < p)))
  later-is = (
    λ h. ⊎_elim (λ x. inl (less x)) (λ y. let (e, l) = both y in inr (sym (equal e), less l)) (either h),
    ⊎_elim (λ x. first_of (eqb a b && ltb q p) (is-less x)) (λ (e, l). second-of (ltb b a) (together (is-equal (sym e)) (is-less l))),
  )

  -- and what it says where it fails
  pub later-not : Fails (later a p b q) ↔ ((a < b) ⊎ ((b ≡ a) × (p ≤ q)))
  later-not = (
    λ h. let (l, f) = not-larger a p b q h.no in ⊎_elim (λ e. inr (sym e, f e)) inl (eq-or-lt_of_le l),
    λ h. fails (λ k. ⊎_elim
        (λ x. ⊎_elim (λ y. omega arith) (λ (y, z). omega arith) (later-is.0 k))
        (λ (x, w). ⊎_elim (λ y. omega arith) (λ (y, z). omega arith) (later-is.0 k)) h),
  )

  -- the same as the paper's ≤
  pub not-newer-is : ((a < b) ⊎ ((b ≡ a) × (p ≤ q))) ↔ (((a < b) ⊎ ((a ≡ b) × (p < q))) ⊎ ((p ≡ q) × (a ≡ b)))
  not-newer-is = (
    ⊎_elim (λ x. inl (inl x)) (λ (e, l). ⊎_elim (λ z. inr (z, sym e)) (λ o. inl (inr (sym e, o))) (eq-or-lt_of_le l)),
    ⊎_elim (λ x. ⊎_elim inl (λ (e, l). inr (sym e, omega arith)) x) (λ (e, z). inr (sym z, omega arith)),
  )

-- ---- logs

-- a log shown has its length
pub length-shown : (l : Log) → length (log_shown l) ≡ length l
length-shown l = length-map l (λ (e : Entry). e.term)

-- the same term at each position
pub at-shown : (l : Log) (p : ℕ) → at (log_shown l) p ≡ term_at l p
unfolding nth
at-shown l zero = refl
at-shown l (suc k) = get_or-map (λ (e : Entry). e.term) l k no_entry

-- the same last term
pub last-shown : (l : Log) → at (log_shown l) (length (log_shown l)) ≡ last l
last-shown l = ap (at (log_shown l)) (length-shown l) ∙ at-shown l (length l)

-- it is empty where the log is
pub empty-shown : (l : Log) → (log_shown l ≡ []) ↔ (length l ≡ 0)
empty-shown [] = (λ e. refl, λ e. refl)
empty-shown (x ∷ l) = (λ e. sym (length-shown (x ∷ l)) ∙ ap length e, λ e. absurd (omega arith))

-- an entry more is a term more
pub plus-shown : (l : Log) (e : Entry) → log_shown (l ++ (e ∷ [])) ≡ log_shown l ++ (e.term ∷ [])
plus-shown [] e = refl
plus-shown (x ∷ l) e = ap (λ r. x.term ∷ r) (plus-shown l e)

-- the first entries are the first terms
pub take-shown : (k : ℕ) (l : Log) → log_shown (take k l) ≡ take k (log_shown l)
take-shown zero l = refl
take-shown (suc k) [] = refl
take-shown (suc k) (x ∷ l) = ap (λ r. x.term ∷ r) (take-shown k l)

-- the paper's last term and ours, where no entry is 0
abbrev pub Ends : Log → Type 0
Ends l = ((log_term (log_shown l) ≡ 0) × (last l ≡ 0)) ⊎ ((log_term (log_shown l) ≡ last l + 1) × (0 < last l))

-- a log without an entry of term 0 has such an end
pub ends : (l : Log) → Passes (every sound_entry l) → Ends l
unfolding nth
ends [] h = inl (refl, refl)
ends (x ∷ l) h =
    let (range, _) = both (every-nth sound_entry (x ∷ l) (length (x ∷ l)) no_entry h (omega arith) (omega arith)) in
    let (some, _) = both range in
    inr (ap (λ (m : ℕ). m + 1) (last-shown (x ∷ l)), at_most some)

-- so the paper's order of last terms is ours
pub term-order : (l m : Log) → Ends l → Ends m
    → ((log_term (log_shown l) < log_term (log_shown m)) ↔ (last l < last m)) × ((log_term (log_shown m) ≡ log_term (log_shown l)) ↔ (last m ≡ last l))
term-order l m (inl (a, b)) (inl (c, d)) = omega arith
term-order l m (inl (a, b)) (inr (c, d)) = omega arith
term-order l m (inr (a, b)) (inl (c, d)) = omega arith
term-order l m (inr (a, b)) (inr (c, d)) = omega arith

-- a prefix is one as the paper has it
pub prefix-is : (l m : Log) → Passes (prefix l m) ↔ IsPrefix (log_shown l) (log_shown m)
unfolding prefix
prefix-is [] m = (λ h. (omega arith, refl), λ h. record { yes = tt })
prefix-is (x ∷ l) [] = (λ h. absurd h.yes, λ (a, b). absurd (omega arith))
prefix-is (x ∷ l) (y ∷ m) = (
  λ h. let (e, r) = both {a = eqb x.term y.term} h in
      let z : x.term ≡ y.term = equal e in
      let (short, same) = (prefix-is l m).0 r in
      (omega arith, cc),
  λ (short, same). let z : x.term ≡ y.term = cc in
      let tails : log_shown l ≡ take (length (log_shown l)) (log_shown m) = cc in
      together {a = eqb x.term y.term} (is-equal z) ((prefix-is l m).1 (omega arith, tails)),
)

-- ---- refusals, entries and marks

-- each of them fails
abbrev pub AllFail : List Refusal → Type 0
AllFail [] = Unit {0}
AllFail (r ∷ rs) = Fails r.holds × AllFail rs

-- where each fails, none holds by its number
pub none-all : (rs : List Refusal) → AllFail rs → NoneHold rs
none-all [] f k = record { no = tt }
none-all (r ∷ rs) (h, f) k = one_more r rs h (none-all rs f) k

-- and none is the first to hold
pub first-all : (rs : List Refusal) → AllFail rs → first rs ≡ 0
unfolding first
first-all [] f = refl
first-all (r ∷ rs) (h, f) = rw (fails-false h) (first-all rs f)

-- the paper allows the action in the state that the table shows, and no narrowing forbids it
abbrev pub Allows : Table → Action → Type 0
Allows t a = Requires (shown t) a × Narrowed t.rule t.floor (shown t) a

-- where none of its refusals holds, an action is allowed; where it is, each of them fails
abbrev pub Exactly : Table → List Refusal → Action → Type 0
Exactly t rs a = (NoneHold rs → Allows t a) × (Allows t a → AllFail rs)

module _ (t : Table) (j p u : ℕ) where
  pub in-log : HasEntry (server t j).log p u ↔ InLog (shown t) p u j
  in-log =
      let l : Log = (server t j).log in (
        λ e. (p, (e.some, omega (arith, e.within, length-shown l)), refl, at-shown l p ∙ e.is),
        λ (k, (a, b), z, e). record {
          some = omega arith;
          within = omega (arith, length-shown l);
          is = ap (term_at l) (sym z) ∙ sym (at-shown l k) ∙ e;
        },
      )

-- a mark with a term that is not 0 is found
pub marked-some : (ms : List ℕ) (u p : ℕ) → 0 < u → nth ms p 0 ≡ u → Passes (some_marked ms u)
unfolding some_marked nth
marked-some ms u zero o e = absurd (omega arith)
marked-some ms u (suc k) o e = go ms k e
  where
    go : (ms : List ℕ) (k : ℕ) → get_or ms k 0 ≡ u → Passes (some_marked ms u)
    go [] k e = absurd (omega arith)
    go (m ∷ ms) zero e = first_of (some_marked ms u) (is-equal e)
    go (m ∷ ms) (suc k) e = second-of (eqb m u) (go ms k e)

-- a log that has every entry marked with u passes
pub marked-holds : (t : Table) (u : ℕ) (l : Log) (k : ℕ) → ((p : ℕ) → mark t p ≡ u → HasEntry l p u) → Passes (holds_marked k t u l)
unfolding holds_marked
marked-holds t u l zero f = record { yes = tt }
marked-holds t u l (suc k) f =
    together {a = not (eqb (mark t (suc k)) u) || held l (suc k) u}
    (go (eqb (mark t (suc k)) u) (λ y. is_held (f (suc k) (equal y))))
    (marked-holds t u l k f)
  where
    go : (b : Bool) {c : Bool} → (Passes b → Passes c) → Passes (not b || c)
    go true h = h (record { yes = tt })
    go false h = record { yes = tt }

-- no member of q passes p
pub none-some : (n q : ℕ) → q < 2 ^ n → (p : ℕ → Bool) → All q (λ s. Fails (p s)) → Fails (some_pass n p q)
none-some n q w p f = fails (λ y. let (s, m, z) = some-passes n q w p y in contradiction (f s m) z)
