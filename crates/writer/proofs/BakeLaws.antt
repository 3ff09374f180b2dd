-- Whether all bakes are 0. Assumes nothing.
use Prim.Native.Nat.{ℕ, zero, suc, ◌+◌, ◌≤◌}
use native.Mathlib.Numerals.{add-one}
use native.Mathlib.Omega.{arith}
use mathlib.Core.Bool.{Bool, true, ◌&&◌}
use mathlib.Core.List.{List, [], ◌∷◌}
use mathlib.Core.Path.{◌≡◌, refl, ap, sym, ◌∙◌}
use lib.Dec.{eqb, leb-zero}
use lib.ListN.{length, get_or, take, length-map}
use lib.Seq.{take_all}
use borrow.Author.Tests.{lt-leb, ne_eqb}
use Rattle.words.specs.Lists.{nth, every, between, part}
use Rattle.words.specs.Words.{words}
use Rattle.words.proofs.Lists.{every_more}
use Rattle.algorithm.specs.Table.{Entry, Server, Table, absent, count, server}
use Rattle.table.specs.Layout.{bakes}
use Rattle.image.specs.Image.{unbaked}

-- ---- a server

zero_is : (B : ℕ) → between 0 0 B ≡ eqb B 0
zero_is zero = refl
zero_is (suc B) = rw (leb-zero (suc B), lt-leb (suc B) 0 (omega arith), ne_eqb (suc B) 0 (omega arith))

zeros : (l : List ℕ) → every (between 0 0) l ≡ every (λ B. eqb B 0) l
unfolding every
zeros [] = refl
zeros (B ∷ l) = rw (zero_is B, zeros l)

-- told of the words of a slice that has its bakes
pub bakes-tell : (s : Server) (n : ℕ) (b : List ℕ) (r : Bool) → n ≡ length s.log → words b ≡ bakes s.log → r ≡ every (between 0 0) (part (words b) 0 n)
    → r ≡ unbaked s
bakes-tell s n b r e is f =
    let all : length (bakes s.log) ≤ length s.log = omega (arith, length-map s.log (λ (x : Entry). x.bake)) in
    f ∙ rw (e, is, take_all (length s.log) (bakes s.log) all) (zeros (bakes s.log))

-- ---- all servers

-- the bakes of all servers before s are tested, and ok tells whether all are 0
pub record Bare (t : Table) (s : ℕ) (ok : Bool) : Type 0 where
  pub tested : ℕ
  pub next : s ≡ tested + 1
  pub tells : ok ≡ every unbaked (take tested t.servers)

pub bare-none : (t : Table) → Bare t 1 true
unfolding every
bare-none t = record { tested = 0; next = refl; tells = refl }

module _ (t : Table) (n s : ℕ) (ok : Bool) (g : Bare t s ok) (l : s ≤ n) (many : n ≡ count t) (r : Bool) (e : r ≡ unbaked (server t s)) where
  pub bare-more : Bare t (s + 1) (ok && r)
  unfolding nth
  bare-more =
      let here : r ≡ unbaked (get_or t.servers g.tested absent) = e ∙ ap (λ (i : ℕ). unbaked (server t i)) (g.next ∙ add-one g.tested) in
      record {
        tested = suc g.tested;
        next = omega (arith, g.next);
        tells = rw (g.tells, here) (sym (every_more unbaked t.servers absent g.tested (omega (arith, g.next))));
      }

  pub bare-last : n ≤ s → (ok && r) ≡ every unbaked t.servers
  bare-last m = rw (take_all bare-more.tested t.servers (omega (arith, bare-more.next))) at bare-more.tells
