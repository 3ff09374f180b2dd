-- A mask and the test "is a member": the count of ones is the count of members, `&`, `|` and `^` work member by member,
-- masks with the same members are equal, and each test on servers has its mask. Assumes nothing.
use mathlib.Core.Path.{◌≡◌, refl, sym, ap, ap₂, subst, ◌∙◌}
use mathlib.Core.Bool.{Bool, true, false, not, ◌&&◌, ◌||◌}
use mathlib.Core.Logic.{◌⊎◌, inl, inr, ⊎_elim}
use Prim.Native.Nat.{ℕ, zero, suc, ◌+◌, ◌*◌, ◌/◌, ◌%◌, ◌^◌, ◌≤◌, ◌<◌, min, max}
use native.Mathlib.Nat.{mod-lt, mod-one, mod-eq_of_lt, div-eq_of_lt, div-lt_iff_lt-mul, eq-or-lt_of_le, zero-lt-suc, lt_of_lt_of_le, pow-suc, div-add-mod'}
use native.Mathlib.Decide.{dec_le, dec_lt}
use native.Mathlib.Numerals.{add-one, one-add}
use native.Mathlib.Omega.{arith}
use lib.Dec.{T, T_not, not_T, eqb, ltb}
use borrow.Author.Tests.{eq-eqb, ne_eqb, lt-ltb, le-ltb}
use lib.Arith.{bin_ind, digits_lt}
use lib.Pow.{pow_pos, pow_mono, mod-pow-add, high}
use lib.Bits.{bit_and, bit_or, bit_xor, and_le_l, and_le_r, xor_lt}
use Rattle.std.proofs.lemmas.Nat.{and_assoc}
use Rattle.std.proofs.lemmas.Nat.Bits.{bit_at_and, bit_at_or, bit_at_xor, bit_at_above, bit_at_cat_low, same_from_bits}
use Rattle.std.specs.Int.{bit_at}
use mir.Facts.{and_yes, yes_and, or_yes}
use lib.Count.{ones, ones_step, ones_cat}
use Rattle.members.specs.Members.{bit, member, Member, Subset, without, one, mask}
use Rattle.members.proofs.Counting.{count, count-some, count_same, count-mono, count-split, unlike}

-- ---- a digit and a truth value

one_of : (d : ℕ) → d < 2 → one (eqb d 1) ≡ d
one_of zero h = refl
one_of (suc zero) h = refl
one_of (suc (suc d)) h = absurd (omega arith)

of_one : (b : Bool) → eqb (one b % 2) 1 ≡ b
of_one true = refl
of_one false = refl

one-lt : (b : Bool) → one b < 2
one-lt true = omega arith
one-lt false = omega arith

ones-one : (b : Bool) → ones (one b) ≡ one b
unfolding ones
ones-one true = refl
ones-one false = refl

digit : (k m : ℕ) → m / 2 ^ k % 2 ≡ one (bit k m)
digit k m = sym (one_of (m / 2 ^ k % 2) (omega arith))

-- the lowest suc k digits are bit k and the lowest k
low-suc : (k m : ℕ) → m % 2 ^ suc k ≡ one (bit k m) * 2 ^ k + m % 2 ^ k
low-suc k m =
    ap (λ (e : ℕ). m % 2 ^ e) (sym (one-add k)) ∙ mod-pow-add m 1 k ∙ ap (λ (d : ℕ). d * 2 ^ k + m % 2 ^ k) (digit k m)

-- every number has a width that holds it
pub fits-itself : (m : ℕ) → m < 2 ^ m
fits-itself zero = zero-lt-suc zero
fits-itself (suc m) = omega (arith, fits-itself m, pow-suc 2 m)

pub fits : (n : ℕ) {m : ℕ} → m ≤ n → m < 2 ^ n
fits n {m} h = lt_of_lt_of_le (fits-itself m) (pow_mono h)

-- ---- the ones of a mask are its members

-- how many of the servers 1 to n are in m
abbrev pub counted : ℕ → ℕ → ℕ
counted n m = count n (λ s. member s m)

pub ones_low : (n m : ℕ) → ones (m % 2 ^ n) ≡ counted n m
unfolding count ones
ones_low zero m = ap ones (mod-one m)
ones_low (suc k) m =
    ap ones (low-suc k m) ∙ ones_cat k (one (bit k m)) (m % 2 ^ k) (mod-lt m (pow_pos k)) ∙ ap₂ ◌+◌ (ones-one (bit k m)) (ones_low k m)

pub ones-count : (n : ℕ) {m : ℕ} → m < 2 ^ n → ones m ≡ counted n m
ones-count n {m} h = ap ones (sym (mod-eq_of_lt h)) ∙ ones_low n m

pub counted-le : (n m : ℕ) → counted n m ≤ ones m
counted-le n m =
    omega (arith, ones_low n m, ones_cat n (m / 2 ^ n) (m % 2 ^ n) (mod-lt m (pow_pos n)), ap ones (div-add-mod' m (2 ^ n)))

pub ones_pos : (m : ℕ) → 0 < m → 0 < ones m
ones_pos = bin_ind (λ m. 0 < m → 0 < ones m) (λ h. absurd (omega arith)) (λ m rest h. go m rest h (dec_lt 0 (m / 2)))
  where
    go : (m : ℕ) → (0 < m / 2 → 0 < ones (m / 2)) → 0 < m → Dec (0 < m / 2) → 0 < ones m
    go m rest h (yes l) = omega (arith, ones_step m, rest l)
    go m rest h (no l) = omega (arith, ones_step m)

pub member-pos : (s m : ℕ) → Member s m → 0 < s
member-pos zero m t = absurd t
member-pos (suc k) m t = omega arith

-- a mask of n digits has servers 1 to n only
pub member-above : (n s : ℕ) {m : ℕ} → m < 2 ^ n → n < s → member s m ≡ false
member-above n zero h l = absurd (omega arith)
member-above n (suc k) {m} h l = ap (λ (d : ℕ). eqb d 1) (bit_at_above m n k h (omega arith))

pub member-le : (n s : ℕ) {m : ℕ} → m < 2 ^ n → Member s m → s ≤ n
member-le n s {m} h t = go (dec_le s n)
  where
    go : Dec (s ≤ n) → s ≤ n
    go (yes p) = p
    go (no p) = absurd (subst T (member-above n s h (omega arith)) t)

-- a set is not empty exactly where it has a member
pub a-member : (m : ℕ) → 0 < m → (s : ℕ) × Member s m
a-member m h =
    let some = count-some m (λ s. member s m) (omega (arith, ones-count m {m = m} (fits-itself m), ones_pos m h)) in
    (some.0, some.2)

pub member-some : (s m : ℕ) → Member s m → 0 < m
member-some s zero t = omega (arith, member-pos s 0 t, member-le 0 s {m = 0} (omega arith) t)
member-some s (suc m) t = omega arith

-- no bit stands above n where the number is below 2 ^ n
pub none_above : (n m : ℕ) → eqb (m / 2 ^ n) 0 ≡ ltb m (2 ^ n)
none_above n m = go (dec_lt m (2 ^ n))
  where
    go : Dec (m < 2 ^ n) → eqb (m / 2 ^ n) 0 ≡ ltb m (2 ^ n)
    go (yes h) = eq-eqb (m / 2 ^ n) 0 (div-eq_of_lt h) ∙ sym (lt-ltb m (2 ^ n) h)
    go (no h) =
        ne_eqb (m / 2 ^ n) 0 (λ e. h (omega (arith, (div-lt_iff_lt-mul {x = m} {y = 1} (pow_pos n)).0 (omega arith)))) ∙ sym (le-ltb m (2 ^ n) (omega arith))

-- masks with the same members are equal
pub ext : (a b : ℕ) → ((s : ℕ) → member s a ≡ member s b) → a ≡ b
ext a b e = same_from_bits a b (λ k. digit k a ∙ ap one (e (suc k)) ∙ sym (digit k b))

-- ---- `&`, `|` and `^`, member by member

-- what holds of digits holds of bits
bitwise : (d : ℕ → ℕ → ℕ) (g : Bool → Bool → Bool) → ((x y : Bool) → eqb (d (one x) (one y)) 1 ≡ g x y)
    → (k a b m : ℕ) → bit_at m k ≡ d (bit_at a k) (bit_at b k) → bit k m ≡ g (bit k a) (bit k b)
bitwise d g digits k a b m e = ap (λ (x : ℕ). eqb x 1) (e ∙ ap₂ d (digit k a) (digit k b)) ∙ digits (bit k a) (bit k b)

both-digits : (x y : Bool) → eqb (min (one x) (one y)) 1 ≡ (x && y)
both-digits true true = refl
both-digits true false = refl
both-digits false true = refl
both-digits false false = refl

pub and-member : (s a b : ℕ) → member s (bit_and a b) ≡ (member s a && member s b)
and-member zero a b = refl
and-member (suc k) a b = bitwise min ◌&&◌ both-digits k a b (bit_and a b) (bit_at_and a b k)

either-digit : (x y : Bool) → eqb (max (one x) (one y)) 1 ≡ (x || y)
either-digit true true = refl
either-digit true false = refl
either-digit false true = refl
either-digit false false = refl

or-member : (s a b : ℕ) → member s (bit_or a b) ≡ (member s a || member s b)
or-member zero a b = refl
or-member (suc k) a b = bitwise max ◌||◌ either-digit k a b (bit_or a b) (bit_at_or a b k)

unlike-digits : (x y : Bool) → eqb ((one x + one y) % 2) 1 ≡ unlike x y
unlike-digits true true = refl
unlike-digits true false = refl
unlike-digits false true = refl
unlike-digits false false = refl

pub xor-member : (s a b : ℕ) → member s (bit_xor a b) ≡ unlike (member s a) (member s b)
xor-member zero a b = refl
xor-member (suc k) a b = bitwise (λ x y. (x + y) % 2) unlike unlike-digits k a b (bit_xor a b) (bit_at_xor a b k)

unlike-and : (x y : Bool) → unlike x (x && y) ≡ (x && not y)
unlike-and true y = refl
unlike-and false y = refl

without-member : (s a b : ℕ) → member s (without a b) ≡ (member s a && not (member s b))
without-member s a b =
    xor-member s a (bit_and a b) ∙ ap (unlike (member s a)) (and-member s a b) ∙ unlike-and (member s a) (member s b)

or-in : (x y : Bool) → T x ⊎ T y → T (x || y)
or-in true y h = tt
or-in false y h = ⊎_elim absurd (λ t. t) h

-- the same as statements
module _ (a b s : ℕ) where
  pub in_both : Member s (bit_and a b) → Member s a × Member s b
  in_both t = and_yes (member s a) (member s b) (subst T (and-member s a b) t)

  pub both-in : Member s a → Member s b → Member s (bit_and a b)
  both-in u v = subst T (sym (and-member s a b)) (yes_and (member s a) (member s b) u v)

  pub in_either : Member s (bit_or a b) → Member s a ⊎ Member s b
  in_either t = or_yes (member s a) (member s b) (subst T (or-member s a b) t)

  pub either-in : Member s a ⊎ Member s b → Member s (bit_or a b)
  either-in h = subst T (sym (or-member s a b)) (or-in (member s a) (member s b) h)

  pub in_without : Member s (without a b) → Member s a × (Member s b → ⊥)
  in_without t =
      let (u, v) = and_yes (member s a) (not (member s b)) (subst T (without-member s a b) t) in
      (u, T_not (member s b) v)

  pub without_in : Member s a → (Member s b → ⊥) → Member s (without a b)
  without_in u v =
      subst T (sym (without-member s a b)) (yes_and (member s a) (not (member s b)) u (not_T (member s b) v))

-- the shared servers of two sets, and those of one set alone
pub ones-shared : (n a b : ℕ) → a < 2 ^ n → ones (bit_and a b) ≡ count n (λ s. member s a && member s b)
ones-shared n a b h = ones-count n (omega (arith, and_le_l a b, h)) ∙ count_same n _ _ (λ k l. and-member (suc k) a b)

pub ones-unlike : (n a b : ℕ) → a < 2 ^ n → b < 2 ^ n → ones (bit_xor a b) ≡ count n (λ s. unlike (member s a) (member s b))
ones-unlike n a b h l = ones-count n (xor_lt n a b h l) ∙ count_same n _ _ (λ k m. xor-member (suc k) a b)

pub counted-mono : (n q m : ℕ) → Subset q m → counted n q ≤ counted n m
counted-mono n q m h = count-mono n (λ s. member s q) (λ s. member s m) h

pub counted-split : (n m q : ℕ) → counted n m ≡ counted n (bit_and m q) + counted n (without m q)
counted-split n m q =
    omega (
      arith,
      count-split n (λ s. member s m) (λ s. member s q),
      count_same n (λ s. member s (bit_and m q)) (λ s. member s m && member s q) (λ k l. and-member (suc k) m q),
      count_same n (λ s. member s (without m q)) (λ s. member s m && not (member s q)) (λ k l. without-member (suc k) m q),
    )

pub without-lt : (n m q : ℕ) → m < 2 ^ n → without m q < 2 ^ n
without-lt n m q w = xor_lt n m (bit_and m q) w (omega (arith, and_le_l m q))

pub ones_split : (m q : ℕ) → ones m ≡ ones (bit_and m q) + ones (without m q)
ones_split m q =
    omega (
      arith,
      counted-split m m q,
      ones-count m {m = m} (fits-itself m),
      ones-count m {m = bit_and m q} (fits m (and_le_l m q)),
      ones-count m {m = without m q} (without-lt m m q (fits-itself m)),
    )

-- ---- the mask of the servers 1 to n that pass a test

-- a loop's step: the code goes to k + 1
pub mask_next : (k : ℕ) (f : ℕ → Bool) → mask (k + 1) f ≡ one (f (suc k)) * 2 ^ k + mask k f
unfolding mask
mask_next k f = ap (λ (n : ℕ). mask n f) (add-one k)

pub mask_lt : (n : ℕ) (f : ℕ → Bool) → mask n f < 2 ^ n
unfolding mask
mask_lt zero f = zero-lt-suc zero
mask_lt (suc k) f = omega (arith, digits_lt {c = 2 ^ k} (one-lt (f (suc k))) (mask_lt k f), pow-suc 2 k)

pub ones-mask : (n : ℕ) (f : ℕ → Bool) → ones (mask n f) ≡ count n f
unfolding mask count ones
ones-mask zero f = refl
ones-mask (suc k) f = ones_cat k (one (f (suc k))) (mask k f) (mask_lt k f) ∙ ap₂ ◌+◌ (ones-one (f (suc k))) (ones-mask k f)

-- a bit below k is one of the lowest k digits
pub bit-low : (j k m : ℕ) → j < k → bit j (m % 2 ^ k) ≡ bit j m
bit-low j k m h =
    ap (λ (x : ℕ). eqb x 1) (sym (bit_at_cat_low (m / 2 ^ k) k (m % 2 ^ k) j h) ∙ ap (λ (x : ℕ). bit_at x j) (div-add-mod' m (2 ^ k)))

pub member-mask : (n : ℕ) (f : ℕ → Bool) (k : ℕ) → k < n → member (suc k) (mask n f) ≡ f (suc k)
unfolding mask
member-mask zero f k h = absurd (omega arith)
member-mask (suc j) f k h = go (eq-or-lt_of_le (omega arith)) (member-mask j f k)
  where
    go : (k ≡ j) ⊎ (k < j) → (k < j → bit k (mask j f) ≡ f (suc k)) → bit k (mask (suc j) f) ≡ f (suc k)
    go (inl e) rest =
        subst (λ (x : ℕ). bit x (mask (suc j) f) ≡ f (suc x)) (sym e)
        (ap (λ (x : ℕ). eqb (x % 2) 1) (high (one (f (suc j))) j (mask_lt j f)) ∙ of_one (f (suc j)))
    go (inr l) rest = ap (λ (x : ℕ). eqb x 1) (bit_at_cat_low (one (f (suc j))) j (mask j f) k l) ∙ rest l

pub in-mask : (n : ℕ) (f : ℕ → Bool) (s : ℕ) → Member s (mask n f) → T (f s)
in-mask n f zero t = absurd t
in-mask n f (suc k) t = subst T (member-mask n f k (member-le n (suc k) (mask_lt n f) t)) t

pub mask-in : (n : ℕ) (f : ℕ → Bool) (s : ℕ) → 0 < s → s ≤ n → T (f s) → Member s (mask n f)
mask-in n f zero h l t = absurd (omega arith)
mask-in n f (suc k) h l t = subst T (sym (member-mask n f k l)) t

-- a mask is known by its members
pub mask_is : (n m : ℕ) (f : ℕ → Bool) → m < 2 ^ n → ((k : ℕ) → k < n → member (suc k) m ≡ f (suc k)) → m ≡ mask n f
mask_is n m f h e = ext m (mask n f) same
  where
    at : (k : ℕ) → Dec (k < n) → member (suc k) m ≡ member (suc k) (mask n f)
    at k (yes l) = e k l ∙ sym (member-mask n f k l)
    at k (no l) = member-above n (suc k) h (omega arith) ∙ sym (member-above n (suc k) (mask_lt n f) (omega arith))

    same : (s : ℕ) → member s m ≡ member s (mask n f)
    same zero = refl
    same (suc k) = at k (dec_lt k n)

-- the members of q that pass, and those of them that pass another test too
pub and-passing : (n q : ℕ) (f : ℕ → Bool) → bit_and q (mask n f) ≡ mask n (λ s. member s q && f s)
and-passing n q f =
    mask_is n (bit_and q (mask n f)) (λ s. member s q && f s) (omega (arith, and_le_r q (mask n f), mask_lt n f))
    (λ k l. and-member (suc k) q (mask n f) ∙ ap (λ (b : Bool). member (suc k) q && b) (member-mask n f k l))

-- and those that do not pass
pub without-passing : (n q : ℕ) (f : ℕ → Bool) → q < 2 ^ n → without q (mask n f) ≡ bit_and q (mask n (λ s. not (f s)))
without-passing n q f width =
    mask_is n (without q (mask n f)) (λ s. member s q && not (f s)) (without-lt n q (mask n f) width)
    (λ k l. without-member (suc k) q (mask n f) ∙ ap (λ (b : Bool). member (suc k) q && not b) (member-mask n f k l))
    ∙ sym (and-passing n q (λ s. not (f s)))

pub and_both : (n q : ℕ) (f g : ℕ → Bool) → bit_and (bit_and q (mask n f)) (mask n g) ≡ bit_and q (mask n (λ s. f s && g s))
and_both n q f g =
    and_assoc (mask n g) q (mask n f)
    ∙ ap (bit_and q)
    (mask_is n (bit_and (mask n f) (mask n g)) (λ s. f s && g s) (omega (arith, and_le_r (mask n f) (mask n g), mask_lt n g))
    (λ k l. and-member (suc k) (mask n f) (mask n g) ∙ ap₂ ◌&&◌ (member-mask n f k l) (member-mask n g k l)))
