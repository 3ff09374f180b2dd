-- Laws of writing at a place of a buffer: nothing, one thing behind another, a part of the buffer. Assumes nothing.
use Prim.Native.Nat.{ℕ, ◌+◌, ◌-◌, ◌≤◌}
use native.Mathlib.Omega.{arith}
use mathlib.Core.Path.{◌≡◌, refl, ap, sym, ◌∙◌}
use mathlib.Core.List.{List, [], ◌++◌, append_assoc, append-nil}
use lib.ListN.{length, take, drop, length-append, length-drop, take-append-drop}
use lib.Seq.{length-take-le, take_all, take_at, drop-drop, drop-length, drop-append-add}
use Rattle.buffer.specs.Buffer.{Wrote, WroteShort, Grew}
use Rattle.buffer.specs.declared.Output.{Output}

-- ---- at one place

wrote_none : (b : List ℕ) (at : ℕ) → at ≤ length b → Wrote b b at [] at
wrote_none b at h = record { end = omega arith; room = h; bytes = sym (take-append-drop at b) }

-- ---- one behind another

module _ {b b₁ : List ℕ} {at e : ℕ} {l : List ℕ} (w : Wrote b b₁ at l e) where
  -- what stands in b₁ up to e
  abbrev front : List ℕ
  front = take at b ++ l

  length_front : length front ≡ e
  length_front = omega (arith, length-append (take at b) l, length-take-le at b (omega (arith, w.end, w.room)), w.end)

  parts : b₁ ≡ front ++ drop e b
  parts = w.bytes ∙ sym (append_assoc (take at b) l (drop e b))

  pub sized : length b₁ ≡ length b
  sized = ap length parts ∙ length-append front (drop e b) ∙ omega (arith, length_front, length-drop e b, w.room)

  before : take e b₁ ≡ front
  before = ap (take e) parts ∙ take_at front (drop e b) e length_front

  behind : (n : ℕ) → drop (e + n) b₁ ≡ drop (e + n) b
  behind n =
      ap (drop (e + n)) parts
      ∙ ap (λ (k : ℕ). drop (k + n) (front ++ drop e b)) (sym length_front)
      ∙ drop-append-add front (drop e b) n
      ∙ drop-drop n e b

  -- m behind l is l ++ m at the first place
  then : {b₂ m : List ℕ} {f : ℕ} → Wrote b₁ b₂ e m f → Wrote b b₂ at (l ++ m) f
  then {b₂} {m} {f} v =
      record {
        end = omega (arith, v.end, w.end, length-append l m);
        room = omega (arith, v.room, sized);
        bytes = v.bytes ∙ rw (before, v.end, behind (length m)) (simp append_assoc);
      }

-- a word copied over a part as long as it is
pub copied : (b ys w : List ℕ) (at k : ℕ) → at + length w ≤ length b → k ≡ length w → ys ≡ w
    → Wrote b (take at b ++ (ys ++ drop k (drop at b))) at w (at + length w)
copied b ys w at k h e f = record { end = refl; room = h; bytes = rw (f, e, drop-drop (length w) at b) }

-- ---- what a caller that lends `&buffer[..e]` is asked for

module _ (b b' : List ℕ) (at : ℕ) (l : List ℕ) (e : ℕ) (w : Wrote b b' at l e) where
  pub wrote-within : e ≤ length b'
  wrote-within = omega (arith, w.room, sized w)

  pub wrote-lent : e ≡ length (take e b')
  wrote-lent = sym (length-take-le e b' wrote-within)

-- ---- with a bound

pub exact : {at e : ℕ} {b b₁ l : List ℕ} → Wrote b b₁ at l e → WroteShort (length l) b b₁ at l e
exact w = record { wrote = w; short = omega (arith, w.end) }

-- ---- by an output

pub grown : {n m : ℕ} {o p q : Output} {l k : List ℕ} → Grew n o p l → Grew m p q k → Grew (n + m) o q (l ++ k)
grown g h =
    record {
      same = h.same ∙ g.same;
      wrote = record { wrote = then g.wrote.wrote h.wrote.wrote; short = omega (arith, g.wrote.short, h.wrote.short) };
    }

pub grown_none : (n : ℕ) (o : Output) → o.at ≤ length o.buffer.now → Grew n o o []
grown_none n o h = record { same = refl; wrote = record { wrote = wrote_none o.buffer.now o.at h; short = omega arith } }

pub at_most : {n : ℕ} {o p : Output} {l : List ℕ} (m : ℕ) → n ≤ m → Grew n o p l → Grew m o p l
at_most m h g = record { same = g.same; wrote = record { wrote = g.wrote.wrote; short = omega (arith, g.wrote.short) } }

-- who lends b and finds b' has what was written: no other buffer took the place of b
pub lent : {n : ℕ} {o p : Output} {b b' l : List ℕ} → Grew n o p l → o.at ≡ 0 → b ≡ o.buffer.now → (o.buffer.ghost_name ≡ p.buffer.ghost_name → b' ≡ p.buffer.now)
    → Wrote b b' 0 l p.at
lent g first is last = rw (is, last (sym g.same)) (rw first at g.wrote.wrote)

-- ---- in a part of the buffer, `&mut buffer[at..]`

module _ (b : List ℕ) (at : ℕ) (h : at ≤ length b) where
  pub part : take (length b - at) (drop at b) ≡ drop at b
  part = take_all (length b - at) (drop at b) (omega (arith, length-drop at b))

  none : drop (length b - at) (drop at b) ≡ []
  none =
      let all : at + (length b - at) ≡ length b = omega arith in
      drop-drop (length b - at) at b ∙ rw (all, drop-length b)

  -- what is written at the start of a part is written where the part starts
  pub part-wrote : (ys l : List ℕ) (r : ℕ) → Wrote (take (length b - at) (drop at b)) ys 0 l r
      → Wrote b (take at b ++ (ys ++ drop (length b - at) (drop at b))) at l (at + r)
  part-wrote ys l r v =
      let w : Wrote (drop at b) ys 0 l r = rw part at v in
      record {
        end = omega (arith, w.end);
        room = omega (arith, w.room, length-drop at b);
        bytes = rw (none, append-nil ys, w.bytes, drop-drop r at b);
      }
