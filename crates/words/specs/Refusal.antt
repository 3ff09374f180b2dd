-- Refusals in the order in which they are looked at. Assumes nothing.
use Rattle.std.specs.Prelude.{ℕ, Bool, false, cond, List, [], ◌∷◌, eqb}

-- what a reply shows beside its number: a server, how many entries were copied, a majority of an old set and one of a new; 0 for what it does not show
pub record Shown : Type 0 where
  pub server : ℕ
  pub copied : ℕ
  pub old : ℕ
  pub new : ℕ

-- nothing is shown
abbrev pub nothing : Shown
nothing = record { server = 0; copied = 0; old = 0; new = 0 }

-- a refusal: its number, whether it holds, and what it shows
pub record Refusal : Type 0 where
  pub number : ℕ
  pub holds : Bool
  pub shows : Shown

-- refusal k, which holds where b does and shows s
abbrev pub refuse_showing : ℕ → Bool → Shown → Refusal
refuse_showing k b s = record { number = k; holds = b; shows = s }

-- refusal k, which holds where b does and shows nothing
abbrev pub refuse : ℕ → Bool → Refusal
refuse k b = refuse_showing k b nothing

-- the number of the first refusal that holds; 0 where none does
unfoldable pub first : List Refusal → ℕ
first [] = 0
first (r ∷ rs) = cond r.holds r.number (first rs)

-- what the first refusal that holds shows; nothing where none does
unfoldable pub first_shown : List Refusal → Shown
first_shown [] = nothing
first_shown (r ∷ rs) = cond r.holds r.shows (first_shown rs)

-- an answer: its number, 0 for taken, and what it shows
pub record Answer : Type 0 where
  pub number : ℕ
  pub shown : Shown

-- the answer with the number k that shows s
abbrev pub answer : ℕ → Shown → Answer
answer k s = record { number = k; shown = s }

-- the answer that a list of refusals gives
abbrev pub given : List Refusal → Answer
given rs = answer (first rs) (first_shown rs)

-- the refusal with the number k is in the list and holds
abbrev pub holds_in : ℕ → List Refusal → Bool
holds_in k [] = false
holds_in k (r ∷ rs) = cond (eqb r.number k) r.holds (holds_in k rs)

-- a where the number says that nothing is refused, and b where it is a refusal's
abbrev pub unless_refused : {A : Type 0} → ℕ → A → A → A
unless_refused k a b = cond (eqb k 0) a b
