-- What the promises mean of a table: its bytes are answered as the algorithm answers it. Assumes nothing.
use Prim.Native.Nat.{ℕ, ◌*◌, ◌<◌}
use mathlib.Core.Bool.{Bool, true, false, cond}
use mathlib.Core.List.{List}
use mathlib.Core.Path.{◌≡◌, refl, sym, ap, ◌∙◌}
use lib.ListN.{take, drop}
use lib.Seq.{take_at}
use borrow.Author.Tests.{eq-eqb}
use Rattle.words.proofs.Tests.{fails-false}
use Rattle.algorithm.specs.Table.{Table, broken, fresh}
use Rattle.words.specs.Refusal.{nothing, answer}
use Rattle.algorithm.specs.Run.{replies_bytes, answered, step, run_to}
use Rattle.algorithm.proofs.Refusals.{refused-stays}
use Rattle.algorithm.proofs.Kept.{fresh-sound}
use Rattle.algorithm.proofs.Runs.{replies-count}
use Rattle.algorithm.proofs.Replies.{length-bytes}
use Rattle.table.specs.Layout.{stored, table_in, whole}
use Rattle.table.proofs.StoredLaws.{stored-table}
use Rattle.whole.proofs.Determined.{stored-whole, whole-stored}
use Rattle.engine.specs.Engine.{played}
use Rattle.kyntulei.specs.Promise.{fresh_reply, FreshAnswer, step_reply, step_bytes, run_replies, run_bytes}
use Rattle.kyntulei.proofs.FreshLaws.{fillable}

-- a slice that is filled has the bytes of a fresh table, which breaks no rule
module _ {b b' : List ℕ} {n m R F : ℕ} (h : FreshAnswer b n m R F 0 b') where
  pub filled-bytes : b' ≡ stored (fresh n m R F)
  filled-bytes = h.bytes ∙ rw (eq-eqb (fresh_reply b n m R F) 0 (sym h.reply))

  pub filled-sound : broken (fresh n m R F) ≡ false
  filled-sound =
      let asked = fillable b n m R F (sym h.reply) in
      fails-false (fresh-sound n m R F asked.some asked.few asked.set asked.rule asked.floor)

-- a step of the bytes of a table that breaks no rule is the step of the table
module _ (t : Table) (sound : broken t ≡ false) (a : List ℕ) where
  pub step-reply : step_reply (stored t) a ≡ answered (step t a)
  step-reply = rw (stored-whole t sound, stored-table t sound)

  pub step-bytes : step_bytes (stored t) a ≡ stored (step t a).table
  step-bytes = rw (stored-whole t sound, stored-table t sound)

-- and so is a run: the replies stand before what is left of the buffer
module _ (t : Table) (sound : broken t ≡ false) (p r : List ℕ) where
  pub run-replies : take (8 * played p r) (run_replies (stored t) p r) ≡ replies_bytes (run_to (played p r) t p).replies
  run-replies =
      let rs = (run_to (played p r) t p).replies in
      rw (stored-whole t sound, stored-table t sound)
      (take_at (replies_bytes rs) (drop (8 * played p r) r) (8 * played p r) (length-bytes rs ∙ ap (λ (k : ℕ). 8 * k) (replies-count (played p r) t p)))

  pub run-bytes : run_bytes (stored t) p r ≡ stored (run_to (played p r) t p).table
  run-bytes = rw (stored-whole t sound, stored-table t sound)

-- a refused action leaves every byte, of any slice
pub refused-bytes : (b a : List ℕ) → 0 < (step_reply b a).number → step_bytes b a ≡ b
refused-bytes b a h = go (whole b) refl h
  where
    go : (w : Bool) → whole b ≡ w → 0 < (cond w (answered (step (table_in b) a)) (answer 1 nothing)).number → cond w (stored (step (table_in b) a).table) b ≡ b
    go true e r = ap stored (refused-stays (table_in b) a r) ∙ sym (whole-stored b e)
    go false e r = refl
