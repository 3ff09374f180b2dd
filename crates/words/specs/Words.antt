-- Numbers of two, of four and of eight bytes, low byte first. Assumes nothing.
use Rattle.std.specs.Prelude.{ℕ, ◌+◌, ◌*◌, ◌/◌, ◌%◌, ◌≡◌, List, [], ◌∷◌, ◌++◌, length, get_or, set, take, drop}

-- ---- two bytes

-- the number of two bytes
abbrev pub pair_of : ℕ → ℕ → ℕ
pair_of low high = low + 256 * high

-- the two bytes of a number
abbrev pub half : ℕ → List ℕ
half v = v % 256 ∷ v / 256 % 256 ∷ []

-- the number of two bytes at a place
abbrev pub half_at : List ℕ → ℕ → ℕ
half_at b k = pair_of (get_or b k 0) (get_or b (k + 1) 0)

-- ---- four bytes

-- the number of four bytes
abbrev pub word_of : ℕ → ℕ → ℕ → ℕ → ℕ
word_of a b c d = a + 256 * b + 65536 * c + 16777216 * d

-- the numbers of some bytes, four by four; up to three left over make none
unfoldable pub words : List ℕ → List ℕ
words [] = []
words (a ∷ []) = []
words (a ∷ b ∷ []) = []
words (a ∷ b ∷ c ∷ []) = []
words (a ∷ b ∷ c ∷ d ∷ r) = word_of a b c d ∷ words r

-- the bytes of some numbers
unfoldable pub bytes : List ℕ → List ℕ
bytes [] = []
bytes (w ∷ r) = w % 256 ∷ w / 256 % 256 ∷ w / 65536 % 256 ∷ w / 16777216 % 256 ∷ bytes r

-- b with the four bytes of v for its word k
abbrev pub put_word : List ℕ → ℕ → ℕ → List ℕ
put_word b k v =
    set (set (set (set b (4 * k) (v % 256)) (4 * k + 1) (v / 256 % 256)) (4 * k + 2) (v / 65536 % 256)) (4 * k + 3) (v / 16777216 % 256)

-- the slice b has become b': the four bytes of v stand in its word k; its length and its other words are as before
pub record Put (b b' : List ℕ) (k v : ℕ) : Type 0 where
  pub bytes : b' ≡ put_word b k v
  pub sized : length b' ≡ length b
  pub word : words b' ≡ set (words b) k v

-- ---- eight bytes

-- the number of some bytes
unfoldable pub value_of : List ℕ → ℕ
value_of [] = 0
value_of (b ∷ l) = b + 256 * value_of l

-- the eight bytes of a number
abbrev pub eight : ℕ → List ℕ
eight v = bytes (v % 4294967296 ∷ v / 4294967296 ∷ [])

-- b with the eight bytes of v for its k-th eight, the first being 0
abbrev pub put_eight : List ℕ → ℕ → ℕ → List ℕ
put_eight b k v = take (8 * k) b ++ (eight v ++ drop (8 * k + 8) b)
