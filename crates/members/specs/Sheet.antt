-- What each number of the manual's sheet is: the least number of shared servers that makes all majorities of two sets meet. Assumes nothing.
use Rattle.std.specs.Prelude.{◌≡◌, ℕ, ◌+◌, ◌^◌, ◌≤◌, ◌<◌}
use Rattle.std.specs.Int.Bits.{bit_and}
use Rattle.std.specs.Int.Count.{ones}
use Rattle.members.specs.Rules.{MajoritiesMeet, Apart}

-- old and new are sets of a and of b servers, and share s
pub record Sharing (a b s old new : ℕ) : Type 0 where
  pub old-size : ones old ≡ a
  pub new-size : ones new ≡ b
  pub shared : ones (bit_and old new) ≡ s

-- where two sets of a and of b servers share s or more, all their majorities meet; where they share fewer, two are apart; and there are sets that share
-- fewer, say t, if neither is smaller than t and the a + b - t servers of the two are at most n (proofs/SheetLaws: shared-least)
pub record Least (n a b s : ℕ) : Type 0 where
  pub enough : (t old new : ℕ) → s ≤ t → Sharing a b t old new → MajoritiesMeet old new
  pub fewer : (t old new : ℕ) → t < s → Sharing a b t old new → (q r : ℕ) × Apart old new q r
  pub there : (t : ℕ) → t < s → t ≤ a → t ≤ b → a + b ≤ n + t → (old new : ℕ) × (old < 2 ^ n) × (new < 2 ^ n) × Sharing a b t old new
