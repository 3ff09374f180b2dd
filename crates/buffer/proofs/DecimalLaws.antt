-- Laws of numbers in decimal. Assumes nothing.
use Prim.Native.Nat.{ℕ, zero, suc, ◌+◌, ◌/◌, ◌%◌, ◌^◌, ◌≤◌, ◌<◌}
use native.Mathlib.Decide.{dec_lt}
use native.Mathlib.Omega.{arith}
use mathlib.Core.Path.{◌≡◌}
use mathlib.Core.List.{[], ◌∷◌, ◌++◌}
use lib.ListN.{length, length-append}
use borrow.Author.Tests.{lt-ltb, le-ltb}
use Rattle.buffer.specs.Buffer.{digits, decimal, number_room, Room, Grew}
use Rattle.buffer.specs.declared.Output.{Output}
use Rattle.buffer.proofs.WroteLaws.{sized, grown, at_most}

-- more than enough steps make no other digits
enough : (k j n : ℕ) → n < k → n < j → digits k n ≡ digits j n
unfolding digits
enough zero j n h l = absurd (omega arith)
enough (suc k) zero n h l = absurd (omega arith)
enough (suc k) (suc j) n h l =
    elim (dec_lt n 10) [
      | yes s ↦ rw (lt-ltb n 10 s)
      | no s ↦ rw (le-ltb n 10 (omega arith), enough k j (n / 10) (omega arith) (omega arith))
    ]

pub decimal-small : (n : ℕ) → n < 10 → decimal n ≡ (48 + n) ∷ []
unfolding decimal digits
decimal-small n h = rw (lt-ltb n 10 h)

pub decimal-large : (n : ℕ) → 10 ≤ n → decimal n ≡ decimal (n / 10) ++ ((48 + n % 10) ∷ [])
unfolding decimal digits
decimal-large n h = rw (le-ltb n 10 h, enough n (suc (n / 10)) (n / 10) (omega arith) (omega arith))

-- a number below a power of ten has no more digits than the power
pub decimal-short : (k n : ℕ) → n < 10 ^ suc k → length (decimal n) ≤ suc k
decimal-short zero n h = rw (decimal-small n h) (omega arith)
decimal-short (suc k) n h =
    elim (dec_lt n 10) [
      | yes s ↦ rw (decimal-small n s) (omega arith)
      | no s ↦
          rw (decimal-large n (omega arith))
          (omega (arith, length-append (decimal (n / 10)) ((48 + n % 10) ∷ []), decimal-short k (n / 10) (omega arith)))
    ]

-- ---- digits put one behind another

module _ (o p : Output) where
  pub one-digit : (v : ℕ) → v < 10 → Grew 1 o p ((48 + v) ∷ []) → Grew number_room o p (decimal v)
  one-digit v h g = rw (decimal-small v h) (at_most number_room (omega arith) g)

  -- nine digits at most leave room for a tenth
  nine : (x : ℕ) → x < 10 ^ 9 → Grew number_room o p (decimal x) → p.at < o.at + number_room
  nine x h g = omega (arith, g.wrote.wrote.end, decimal-short 8 x h)

  pub last-room : (x : ℕ) → x < 10 ^ 9 → Room number_room o → Grew number_room o p (decimal x) → Room 1 p
  last-room x h r g = omega (arith, nine x h g, sized g.wrote.wrote)

  pub last-digit : (q : Output) (v : ℕ) → v < 2 ^ 32 → 10 ≤ v → Grew number_room o p (decimal (v / 10)) → Grew 1 p q ((48 + v % 10) ∷ [])
      → Grew number_room o q (decimal v)
  last-digit q v h l g d =
      let all = grown g d in
      record {
        same = all.same;
        wrote = record { wrote = rw (decimal-large v l) all.wrote.wrote; short = omega (arith, d.wrote.short, nine (v / 10) (omega arith) g) };
      }
