-- An action by its eight bytes: what stands where, what each kind uses, and the action that they name.
-- A byte is any number here; those that come from a slice are below 256. Assumes nothing.
use Rattle.std.specs.Prelude.{ℕ, ◌+◌, ◌%◌, Bool, cond, ◌||◌, List, [], ◌∷◌, eqb, get_or}
use Rattle.words.specs.Lists.{between}
use Rattle.words.specs.Words.{pair_of, word_of}
use Rattle.members.specs.Members.{within}
use Rattle.algorithm.specs.Table.{positions, largest_bake}

-- ---- the bytes by their places: 0 the kind, 1 and 2 servers i and j, 4 and 5 the set; 3, 6 and 7 are 0; of a write 4 to 7 are the bake

-- byte k, from 0; a byte that is missing is 0
abbrev pub byte : List ℕ → ℕ → ℕ
byte bs k = get_or bs k 0

-- the kind
abbrev pub kind_of : List ℕ → ℕ
kind_of bs = byte bs 0

-- server i
abbrev pub i_of : List ℕ → ℕ
i_of bs = byte bs 1

-- server j
abbrev pub j_of : List ℕ → ℕ
j_of bs = byte bs 2

-- the set
abbrev pub set_of : List ℕ → ℕ
set_of bs = pair_of (byte bs 4) (byte bs 5)

-- the bake (the remainder takes nothing from four bytes below 256)
abbrev pub bake_of : List ℕ → ℕ
bake_of bs = word_of (byte bs 4) (byte bs 5) (byte bs 6) (byte bs 7) % (largest_bake + 1)

-- every kind uses i; elect, reconfigure and commit use the set, and a stretch uses its bytes for a count
abbrev pub uses_set : ℕ → Bool
uses_set k = eqb k 1 || eqb k 2 || eqb k 8 || eqb k 9

-- what may stand there: of a stretch as many entries as a log may have, but one at least; of the other kinds a set of some of n servers
abbrev pub set_fits : ℕ → ℕ → ℕ → Bool
set_fits n k M = cond (eqb k 9) (between 1 positions M) (within M n)

-- send, spread, fetch, roll back and a stretch use j
abbrev pub uses_j : ℕ → Bool
uses_j k = eqb k 3 || eqb k 4 || eqb k 6 || eqb k 7 || eqb k 9

-- write uses the bake
abbrev pub uses_bake : ℕ → Bool
uses_bake k = eqb k 5

-- an action: its kind and what that uses, or an unknown kind
pub data Action : Type 0 where
  elect reconfigure commit : ℕ → ℕ → Action
  send spread fetch roll_back : ℕ → ℕ → Action
  write : ℕ → ℕ → Action
  stretch : ℕ → ℕ → ℕ → Action
  unknown : Action

-- the actions by the numbers of their kinds, from 0
abbrev pub kinds : ℕ → ℕ → ℕ → ℕ → List Action
kinds i j M B =
    unknown ∷ elect i M ∷ reconfigure i M ∷ send i j ∷ spread i j ∷ write i B ∷ fetch i j ∷ roll_back i j ∷ commit i M ∷ stretch i j M ∷ []

-- the action that the bytes name
abbrev pub action_of : List ℕ → Action
action_of bs = get_or (kinds (i_of bs) (j_of bs) (set_of bs) (bake_of bs)) (kind_of bs) unknown
