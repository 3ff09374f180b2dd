-- Sets of servers as numbers: bit k stands for server k + 1, and `ones m` is how many servers m has. Assumes nothing.
-- (As in every file: `T b` says that the test b passes; `abbrev` and `unfoldable` say how proofs see a definition, not what it says; "assumes
-- nothing" is: no axiom.)
use Rattle.std.specs.Prelude.{Bool, true, false, cond, ◌&&◌, ℕ, zero, suc, ◌+◌, ◌*◌, ◌/◌, ◌%◌, ◌^◌, ◌<◌, T, ltb, eqb}
use Rattle.std.specs.Int.Bits.{bit_and, bit_xor}
use Rattle.std.specs.Int.Count.{ones}

-- ---- members

-- bit k of m is set
abbrev pub bit : ℕ → ℕ → Bool
bit k m = eqb (m / 2 ^ k % 2) 1

-- server s is in m; there is no server 0
abbrev pub member : ℕ → ℕ → Bool
member zero m = false
member (suc k) m = bit k m

-- the same as a statement
abbrev pub Member : ℕ → ℕ → Type 0
Member s m = T (member s m)

-- m is not empty and has servers 1 to n only
abbrev pub within : ℕ → ℕ → Bool
within m n = ltb 0 m && ltb m (2 ^ n)

-- the servers of m that are not in q
abbrev pub without : ℕ → ℕ → ℕ
without m q = bit_xor m (bit_and m q)

-- exactly one server is in one of the two sets and not in the other
abbrev pub one_apart : ℕ → ℕ → Bool
one_apart a b = eqb (ones (bit_xor a b)) 1

-- ---- majorities

-- every server of q is in m
abbrev pub Subset : ℕ → ℕ → Type 0
Subset q m = (s : ℕ) → Member s q → Member s m

-- q lies in m and has more than half of its servers
pub record Majority (q m : ℕ) : Type 0 where
  pub inside : Subset q m
  pub more : ones m < 2 * ones q

-- the same as a test (proofs/Majorities: majority-is, is-majority)
abbrev pub majority : ℕ → ℕ → Bool
majority q m = eqb (bit_and q m) q && ltb (ones m) (2 * ones q)

-- ---- the same as tests, for sets of servers 1 to n (proofs/Majorities: some-passes and pass-some, most-pass and pass-most)

-- 1 for a test that passes, 0 for one that fails
abbrev pub one : Bool → ℕ
one true = 1
one false = 0

-- m, a set of servers 1 to k, and server k + 1 if b
abbrev pub with_next : ℕ → ℕ → Bool → ℕ
with_next m k b = one b * 2 ^ k + m

-- the servers 1 to n that pass p
unfoldable pub mask : ℕ → (ℕ → Bool) → ℕ
mask zero p = 0
mask (suc k) p = with_next (mask k p) k (p (suc k))

-- the members of q that pass p
abbrev pub passing : ℕ → (ℕ → Bool) → ℕ → ℕ
passing n p q = bit_and q (mask n p)

-- some member of q passes p
abbrev pub some_pass : ℕ → (ℕ → Bool) → ℕ → Bool
some_pass n p q = ltb 0 (passing n p q)

-- the members of m that pass p are a majority of m
abbrev pub most_pass : ℕ → (ℕ → Bool) → ℕ → Bool
most_pass n p m = majority (passing n p m) m

-- ---- the lowest number that passes a test

-- the first of the n numbers from s on that passes p, and 0 where none does; what `let` names is tried only where s fails
unfoldable pub lowest_from : ℕ → ℕ → (ℕ → Bool) → ℕ
lowest_from zero s p = 0
lowest_from (suc n) s p = let later = lowest_from n (suc s) p in cond (p s) s later

-- the lowest number from 1 to n that passes p, and 0 where none does
abbrev pub lowest_up_to : ℕ → (ℕ → Bool) → ℕ
lowest_up_to n p = lowest_from n 1 p

-- the lowest member of q among the servers 1 to n that passes p, and 0 where none does (proofs/Lowest: lowest-in, lowest-some)
abbrev pub lowest_in : ℕ → (ℕ → Bool) → ℕ → ℕ
lowest_in n p q = lowest_up_to n (λ s. member s q && p s)
