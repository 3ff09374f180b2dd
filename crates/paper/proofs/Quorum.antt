-- Quorums of the paper and majorities of masks. Assumes nothing.
use Prim.Native.Nat.{ℕ, zero, suc, ◌^◌, ◌≤◌, ◌<◌}
use mathlib.Core.Bool.{Bool, true, false, cond}
use mathlib.Core.Logic.{◌≢◌, ◌↔◌}
use mathlib.Core.Path.{◌≡◌, refl, sym, ◌∙◌}
use native.Mathlib.Decide.{dec_le}
use native.Mathlib.Omega.{arith}
use lib.Dec.{T}
use lib.Bits.{bit_and, and_le_r}
use lib.Count.{ones}
use Rattle.words.proofs.Tests.{Passes, both, fails, fails-false, equal}
use Rattle.members.specs.Members.{one, member, within, one_apart, Majority, mask}
use Rattle.members.specs.Rules.{MajoritiesMeet}
use Rattle.members.proofs.Said.{Most}
use Rattle.members.proofs.Counting.{count, unlike}
use Rattle.members.proofs.Masks.{ones-count, ones-mask, mask_lt, member-mask, mask-in, in-mask, member-le, member-above}
use Rattle.members.proofs.Majorities.{is-majority, same_set}
use Rattle.members.proofs.Meaning.{is_within, one-apart-is, is-one-apart}
use Rattle.paper.specs.Paper.{Set, ◌∈◌, size, State, Quorums, QuorumsOverlap}
use Rattle.paper.specs.Shown.{set_shown}

digit : (b : Bool) → cond b 1 0 ≡ one b
digit true = refl
digit false = refl

size-count : (n : ℕ) (S : Set) → size n S ≡ count n S
unfolding size count
size-count zero S = refl
size-count (suc k) S = omega (arith, digit (S (suc k)), size-count k S)

-- a mask of servers 1 to n has as many members as the set that it shows
pub size-ones : (n : ℕ) {m : ℕ} → m < 2 ^ n → size n (set_shown m) ≡ ones m
size-ones n {m} w = size-count n (set_shown m) ∙ sym (ones-count n w)

module _ (s : State) (m : ℕ) (width : m < 2 ^ s.servers) where
  abbrev n : ℕ
  n = s.servers

  -- a set of the paper that is a quorum, as a mask
  as-mask : (Q : Set) → Quorums s (set_shown m) Q → Majority (mask n Q) m
  as-mask Q (inside, more) =
      record { inside = λ x u. inside x (in-mask n Q x u); more = omega (arith, size-ones n width, size-count n Q, ones-mask n Q) }

  -- a quorum all of whose members have P is a majority that has it
  pub most-of : {P : ℕ → Type 0} (Q : Set) → Quorums s (set_shown m) Q → ((j : ℕ) → j ∈ Q → P j) → Most m P
  most-of Q quorum all = record { by = mask n Q; majority = as-mask Q quorum; all = λ j u. all j (in-mask n Q j u) }

  -- a mask that shows a quorum is a majority
  pub quorum-is : {q : ℕ} → q < 2 ^ n → Quorums s (set_shown m) (set_shown q) → Majority q m
  quorum-is w (inside, more) = record { inside = inside; more = omega (arith, size-ones n width, size-ones n w) }

  -- a majority shows a quorum
  pub is-quorum : {q : ℕ} → Majority q m → Quorums s (set_shown m) (set_shown q)
  is-quorum {q} x =
      let within : bit_and q m ≡ q = equal (both (is-majority x)).0 in
      let w : q < 2 ^ n = omega (arith, and_le_r q m) in
      (x.inside, omega (arith, x.more, size-ones n width, size-ones n w))

  -- a majority that has P shows a quorum that has it
  pub of-most : {P : ℕ → Type 0} → Most m P → (Q : Set) × Quorums s (set_shown m) Q × ((j : ℕ) → j ∈ Q → P j)
  of-most x = (set_shown x.by, is-quorum x.majority, x.all)

-- a majority has a member
pub most-some : {m : ℕ} {P : ℕ → Type 0} → Most m P → (j : ℕ) × P j
most-some {m} x = let (j, u, _) = same_set m x.by x.by x.majority x.majority in (j, x.all j u)

-- majorities meet exactly where quorums overlap (the way back is for a rule that asks for the overlap itself)
pub overlap : (s : State) (a b : ℕ) → a < 2 ^ s.servers → b < 2 ^ s.servers → MajoritiesMeet a b ↔ QuorumsOverlap s (set_shown a) (set_shown b)
overlap s a b v w = (
  λ meet q r x y.
      let (c, d, e) = meet (mask s.servers q) (mask s.servers r) (as-mask s a v q x) (as-mask s b w r y) in
      (c, in-mask s.servers q c d, in-mask s.servers r c e),
  λ over q r x y. over (set_shown q) (set_shown r) (is-quorum s a v x) (is-quorum s b w y),
)

-- ---- a set of the servers 1 to n as a mask

-- the mask of a set of servers shows it
pub mask-shown : (n : ℕ) (Q : Set) → ((x : ℕ) → x ∈ Q → (1 ≤ x) × (x ≤ n)) → set_shown (mask n Q) ≡ Q
mask-shown n Q inside = λ i y. same y i
  where
    at : (k : ℕ) → Dec (suc k ≤ n) → member (suc k) (mask n Q) ≡ Q (suc k)
    at k (yes h) = member-mask n Q k h
    at k (no h) = member-above n (suc k) (mask_lt n Q) (omega arith) ∙ sym (fails-false (fails {b = Q (suc k)} (λ u. h (inside (suc k) u.yes).1)))

    same : (y : ℕ) → member y (mask n Q) ≡ Q y
    same zero = sym (fails-false (fails {b = Q zero} (λ u. omega (arith, (inside zero u.yes).0))))
    same (suc k) = at k (dec_le (suc k) n)

-- and is within the servers, where the set has a member
pub mask-within : (n : ℕ) (Q : Set) → ((x : ℕ) → x ∈ Q → (1 ≤ x) × (x ≤ n)) → (x : ℕ) → x ∈ Q → Passes (within (mask n Q) n)
mask-within n Q inside x some = is_within (record {
  some = (x, mask-in n Q x (inside x some).0 (inside x some).1 some);
  all = λ y u. member-le n y (mask_lt n Q) u;
})

-- ---- one server added or removed

unlike-is : (a b : Bool) → T (unlike a b) ↔ (a ≢ b)
unlike-is true true = (λ t. absurd t, λ f. absurd (f refl))
unlike-is true false = (λ t e. let z : ◌≡◌ {A = ℕ} 0 1 = cc in omega arith, λ f. tt)
unlike-is false true = (λ t e. let z : ◌≡◌ {A = ℕ} 0 1 = cc in omega arith, λ f. tt)
unlike-is false false = (λ t. absurd t, λ f. absurd (f refl))

-- two masks are one server apart where there is one server in which the sets that they show differ, and no other
pub apart-is : (a b : ℕ) → Passes (one_apart a b) ↔ ((x : ℕ) × (member x a ≢ member x b) × ((y : ℕ) → member y a ≢ member y b → y ≡ x))
apart-is a b = (
  λ h. let (x, o) = one-apart-is a b h in
      (x, (unlike-is (member x a) (member x b)).0 o.here, λ y d. o.only y ((unlike-is (member y a) (member y b)).1 d)),
  λ (x, d, only). is-one-apart a b x (record {
    here = (unlike-is (member x a) (member x b)).1 d;
    only = λ y u. only y ((unlike-is (member y a) (member y b)).0 u);
  }),
)
