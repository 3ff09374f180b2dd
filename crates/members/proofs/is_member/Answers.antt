-- `members::is_member` meets its contract. Assumes nothing.
use mathlib.Core.Path.{sym, ap}
use Prim.Native.Nat.{ℕ}
use native.Mathlib.Omega.{arith}
use Rattle.members.specs.Members.{member}
use Rattle.members.proofs.Masks.{member-above}
use Rattle.members.proofs.is_member.Goals as goal
use Rattle.members.proofs.is_member.Goals.{then-s-eq0-via-then-s-eq0, then-s-eq0-via-else-s-eq0+then-s-gt16}

pub returns-then-s-eq0 : goal.returns-then-s-eq0
returns-then-s-eq0 c =
    elim c.then-s-eq0.branch [
      | then-s-eq0-via-then-s-eq0 w ↦ ap (λ (s : ℕ). member s c.args.m) (sym w.if-s-eq0.true)
      | then-s-eq0-via-else-s-eq0+then-s-gt16 w ↦ sym (member-above 16 c.args.s (omega arith) (omega arith))
    ]
