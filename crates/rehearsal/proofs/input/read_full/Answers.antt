-- `rehearsal::input::read_full` meets its contract: what a turn reads stands behind what was read before. Assumes nothing.
use Rattle.std.proofs.Common.{◌≡◌, ℕ, ◌+◌, ◌-◌, ◌≤◌, List, ◌++◌, rules, length, take, sym, ap, ap₂, ◌∙◌, subst, le_refl, drop_at, length-take-le}
use Rattle.std.proofs.lemmas.Slice.{take-put_mid_below}
use Rattle.std.specs.Io.KnownBytes.{Consumes}
use Rattle.std.proofs.KnownBytes.{Consumes-trans}
use borrow.Rule.Slice.PartMut.{put_mid, post_of}
use lib.Seq.{take-add, take-append-le}
use Rattle.rehearsal.proofs.input.read_full.Goals as goal

take-turn : (a k n : ℕ) (xs ys : List ℕ) → a ≤ length xs → n ≤ length ys → take (a + n) (put_mid a k xs ys) ≡ take a xs ++ take n ys
take-turn a k n xs ys within fits =
    take-add a n (put_mid a k xs ys)
    ∙ ap₂ (λ u v. u ++ take n v) (take-put_mid_below a k xs ys a (le_refl a) within) (drop_at (take a xs) (ys ++ post_of a k xs) a (length-take-le a xs within))
    ∙ ap (λ m. take a xs ++ m) (take-append-le n ys (post_of a k xs) fits)

pub loop-end-preserved : goal.loop-end-preserved
loop-end-preserved g c =
    let end = c.loop-end.end in
    let more = c.in_ok-more.more in
    let behind = take-turn end (length c.loop-end.buffer - end) more c.loop-end.buffer c.read.new.buf c.loop-end.invariant.0 c.in_ok-more.ensures.bound.0 in
    (search rules, search rules, subst (Consumes _ _) (sym behind) (Consumes-trans _ _ _ _ _ c.loop-end.invariant.2 c.in_ok-more.ensures.bytes.0))
