-- Which set may follow which: one server is added or removed, or all majorities meet; and the majorities that do not. Assumes nothing.
use Rattle.std.specs.Prelude.{Bool, false, ◌&&◌, ℕ, zero, suc, ◌+◌, ◌-◌, ◌/◌, ◌%◌, ◌^◌, ◌≤◌, leb, ltb, eqb}
use Rattle.std.specs.Int.Bits.{bit_and}
use Rattle.std.specs.Int.Count.{ones}
use Rattle.members.specs.declared.apart.Pair.{Pair}
use Rattle.members.specs.Members.{bit, Member, one_apart, Majority, majority, without, mask, lowest_up_to}

-- ---- majorities that meet

-- some server is in both
abbrev pub Meet : ℕ → ℕ → Type 0
Meet q r = (s : ℕ) × Member s q × Member s r

-- every majority of a meets every majority of b
abbrev pub MajoritiesMeet : ℕ → ℕ → Type 0
MajoritiesMeet a b = (q r : ℕ) → Majority q a → Majority r b → Meet q r

-- the least number of shared servers that makes all majorities meet, of a set of a servers and one of b servers (that it is: Sheet, Least)
abbrev pub least_shared : ℕ → ℕ → ℕ
least_shared a b = (a - 1) / 2 + (b - 1) / 2 + 1

-- the two sets, neither of them empty, share as many (proofs/Majorities: all-meet; proofs/Pairs: some-apart)
abbrev pub all_meet : ℕ → ℕ → Bool
all_meet a b = leb (least_shared (ones a) (ones b)) (ones (bit_and a b))

-- ---- the rules

-- the set `new` may follow `old`: under rule 1, which is the number 0, by one server's change; under rule 2, where all majorities meet
abbrev pub may_follow : ℕ → ℕ → ℕ → Bool
may_follow zero old new = one_apart old new
may_follow (suc k) old new = all_meet old new

-- ---- the floor

-- the set has fewer members than the floor
abbrev pub below_floor : ℕ → ℕ → Bool
below_floor floor new = ltb (ones new) floor

-- ---- the lowest pair of majorities apart

-- q is a majority of a, r is one of b, and no server is in both
pub record Apart (a b q r : ℕ) : Type 0 where
  pub old : Majority q a
  pub new : Majority r b
  pub never : Meet q r → ⊥

-- the same as a test (proofs/Pairs: apart-is, is-apart)
abbrev pub apart : ℕ → ℕ → ℕ → ℕ → Bool
apart a b q r = majority q a && majority r b && eqb (bit_and q r) 0

-- no such pair has a lower q, and none with this q a lower r
pub record LowestApart (a b q r : ℕ) : Type 0 where
  pub pair : Apart a b q r
  pub old-least : (q' r' : ℕ) → Apart a b q' r' → q ≤ q'
  pub new-least : (r' : ℕ) → Apart a b q r' → r ≤ r'

-- the lowest majority of a such that a majority of b is left without its servers, and 0 where there is none; no majority is, as a number, above its set
unfoldable pub old_apart : ℕ → ℕ → ℕ
old_apart a b = lowest_up_to a (λ q. apart a b q (without b q))

-- the lowest majority of b apart from that one, and 0 where there is none (that the two are the lowest pair: proofs/Pairs, lowest-apart)
unfoldable pub new_apart : ℕ → ℕ → ℕ
new_apart a b = lowest_up_to b (apart a b (old_apart a b))

-- the two of them
abbrev pub lowest_pair : ℕ → ℕ → Pair
lowest_pair a b = record { old = old_apart a b; new = new_apart a b }

-- ---- how the pair is found

-- server s is one of the k lowest of m: it is in m, and fewer than k of the servers before it are
abbrev pub is_low : ℕ → ℕ → ℕ → Bool
is_low k m zero = false
is_low k m (suc j) = bit j m && ltb (ones (m % 2 ^ j)) k

-- the k lowest servers of m, a set of servers 1 to n
abbrev pub lowest_servers : ℕ → ℕ → ℕ → ℕ
lowest_servers n k m = mask n (is_low k m)
