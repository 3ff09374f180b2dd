-- Texts and numbers as bytes, and what is promised of a lent buffer. Assumes nothing.
use Prim.Native.Char.{code}
use Rattle.std.specs.Prelude.{ℕ, zero, suc, ◌+◌, ◌/◌, ◌%◌, ◌≤◌, cond, List, [], ◌∷◌, ◌++◌, ◌≡◌, ltb, length, take, drop}
use Rattle.buffer.specs.declared.Output.{Output}
use Prim.Native.String.{String}
use Prim.Native.String as string

-- the bytes of a text
abbrev pub text : String → List ℕ
text string.[] = []
text (string.◌∷◌ c s) = code c ∷ text s

-- n in digits: those of a tenth of n, and the last one; k, more than n, only bounds how often
unfoldable pub digits : ℕ → ℕ → List ℕ
digits zero n = []
digits (suc k) n =
    let more = digits k (n / 10) ++ ((48 + n % 10) ∷ []) in
    cond (ltb n 10) ((48 + n) ∷ []) more

-- a number in decimal, with no 0 in front
unfoldable pub decimal : ℕ → List ℕ
decimal n = digits (suc n) n

-- room for any number of 32 bits in decimal
abbrev pub number_room : ℕ
number_room = 10

-- a number behind a space
unfoldable pub field : ℕ → List ℕ
field n = text " " ++ decimal n

-- room for it
abbrev pub field_room : ℕ
field_room = 1 + number_room

-- numbers in a row, each behind a space
unfoldable pub fields : List ℕ → List ℕ
fields [] = []
fields (n ∷ l) = field n ++ fields l

-- the buffer b has become b': l is written at a place, where there is room for it, and e is the place behind it
pub record Wrote (b b' : List ℕ) (at : ℕ) (l : List ℕ) (e : ℕ) : Type 0 where
  pub end : e ≡ at + length l
  pub room : e ≤ length b
  pub bytes : b' ≡ take at b ++ (l ++ drop e b)

-- the same, and l has n bytes at most
pub record WroteShort (n : ℕ) (b b' : List ℕ) (at : ℕ) (l : List ℕ) (e : ℕ) : Type 0 where
  pub wrote : Wrote b b' at l e
  pub short : e ≤ at + n

-- an output has room for n bytes more
abbrev pub Room : ℕ → Output → Type 0
Room n o = o.at + n ≤ length o.buffer.now

-- the output o has become p: it has the same buffer, in which l of n bytes at most is written behind what was there
pub record Grew (n : ℕ) (o p : Output) (l : List ℕ) : Type 0 where
  pub same : p.buffer.ghost_name ≡ o.buffer.ghost_name
  pub wrote : WroteShort n o.buffer.now p.buffer.now o.at l p.at
