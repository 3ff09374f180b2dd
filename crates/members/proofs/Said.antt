-- What the theory says of the members of a set. Assumes nothing.
use Prim.Native.Nat.{ℕ, ◌≤◌}
use Rattle.members.specs.Members.{Member, Majority}

-- P holds of every member of q
abbrev pub All : ℕ → (ℕ → Type 0) → Type 0
All q P = (s : ℕ) → Member s q → P s

-- P holds of some member of q
abbrev pub Some : ℕ → (ℕ → Type 0) → Type 0
Some q P = (s : ℕ) × Member s q × P s

-- P holds of every member of some majority of m
pub record Most (m : ℕ) (P : ℕ → Type 0) : Type 0 where
  pub by : ℕ
  pub majority : Majority by m
  pub all : All by P

-- P holds of some member of every majority of m
abbrev pub Hits : ℕ → (ℕ → Type 0) → Type 0
Hits m P = (q : ℕ) → Majority q m → Some q P

-- s is a member of q of which P holds, and no lower member is
pub record Lowest (q : ℕ) (P : ℕ → Type 0) (s : ℕ) : Type 0 where
  pub member : Member s q
  pub holds : P s
  pub least : (u : ℕ) → Member u q → P u → s ≤ u
