-- Document 02's cases of sets, by computation. Assumes nothing.
use mathlib.Core.List.{List, [], ◌∷◌}
use mathlib.Core.Path.{◌≡◌, refl}
use Prim.Native.Nat.{ℕ}
use lib.Count.{ones}
use Rattle.members.specs.Members.{one, lowest_from}
use Rattle.members.specs.Rules.{may_follow, old_apart, new_apart}

-- of a set and the next one: 1 where rule 1 allows it, 1 where rule 2 does, and the pair of majorities apart
unfoldable pub told : ℕ → ℕ → List ℕ
told a b = one (may_follow 0 a b) ∷ one (may_follow 1 a b) ∷ old_apart a b ∷ new_apart a b ∷ []

-- {1,2,3,4} to {1,2,3,5}; {1,2,3} to {1,2,4}; {1,2,3} unchanged; {1,2,3} to {1,2,3,4}; {1} to {1,2,3}, for
-- which the sheet has more than the smaller set
pub cases-hold : told 15 23 ∷ told 7 11 ∷ told 7 7 ∷ told 7 15 ∷ told 1 7 ∷ []
    ≡ (0 ∷ 1 ∷ 0 ∷ 0 ∷ []) ∷ (0 ∷ 0 ∷ 5 ∷ 10 ∷ []) ∷ (0 ∷ 1 ∷ 0 ∷ 0 ∷ []) ∷ (1 ∷ 1 ∷ 0 ∷ 0 ∷ []) ∷ (0 ∷ 0 ∷ 1 ∷ 6 ∷ []) ∷ []
unfolding told ones lowest_from old_apart new_apart
cases-hold = refl
