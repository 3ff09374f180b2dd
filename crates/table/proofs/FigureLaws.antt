-- A server with an empty log is sound by its figures alone. Assumes nothing.
use Prim.Native.Nat.{ℕ}
use mathlib.Core.Path.{◌≡◌, sym, ◌∙◌}
use mathlib.Core.Bool.{Bool, ◌||◌, and-true, ◌&&◌}
use mathlib.Core.List.{[]}
use lib.Dec.{leb, eqb}
use Rattle.members.specs.Members.{within}
use Rattle.words.specs.Lists.{every, between}
use Rattle.algorithm.specs.Table.{ceiling, sound_server}
use Rattle.table.specs.Slice.{figured}
use Rattle.table.specs.declared.figures.Figures.{Figures}

pub figures-tell : (f : Figures) (n : ℕ) (w : Bool) → w ≡ within f.set n
    → ((eqb f.role 1 && leb 1 f.term.0 || eqb f.role 0) && leb f.term.0 ceiling && (w && between 1 ceiling f.version.0 && leb f.config.0 ceiling))
    ≡ sound_server n (figured f [])
unfolding every
figures-tell f n w e = rw e (sym (and-true _ ∙ and-true _))
