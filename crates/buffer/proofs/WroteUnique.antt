-- A contract leaves no freedom: what two functions that both keep it answer, and leave in the buffer, is equal. Assumes nothing.
use Prim.Native.Nat.{ℕ}
use mathlib.Core.Path.{◌≡◌, sym, ◌∙◌}
use mathlib.Core.List.{List}
use Rattle.buffer.specs.Buffer.{Wrote, Grew}
use Rattle.buffer.specs.declared.Output.{Output}

-- A contract of a buffer is a `Wrote` of bytes that the arguments give.
pub wrote-unique : {b b₁ b₂ l : List ℕ} {at e₁ e₂ : ℕ} → Wrote b b₁ at l e₁ → Wrote b b₂ at l e₂ → (e₁ ≡ e₂) × (b₁ ≡ b₂)
wrote-unique {l = l} f g =
    let same = f.end ∙ sym g.end in
    (same, f.bytes ∙ rw same (sym g.bytes))

-- And one of an output is a `Grew`: the place, the bytes, and which buffer it is, whatever bounds the two have.
pub grew-unique : {n m : ℕ} {o p q : Output} {l : List ℕ} → Grew n o p l → Grew m o q l
    → (p.at ≡ q.at) × ((p.buffer.now ≡ q.buffer.now) × (p.buffer.ghost_name ≡ q.buffer.ghost_name))
grew-unique g h =
    let (place, bytes) = wrote-unique g.wrote.wrote h.wrote.wrote in
    (place, (bytes, g.same ∙ sym h.same))
