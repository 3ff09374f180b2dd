-- Laws of the exported step and run: what the engine leaves in a whole slice, as bytes, and what is answered to a broken one. Assumes nothing.
use Prim.Native.Nat.{ℕ, ◌<◌}
use mathlib.Core.Bool.{Bool, true, false}
use mathlib.Core.List.{List}
use mathlib.Core.Path.{◌≡◌, sym, ◌∙◌}
use lib.ListN.{get_or}
use Rattle.std.specs.Prelude.{Result, Ok, Err}
use Rattle.algorithm.specs.declared.Refused.{Refused}
use Rattle.algorithm.specs.declared.Refused.TheVariants.{Broken}
use Rattle.algorithm.specs.Run.{answer_of, step, run_to}
use Rattle.table.specs.Layout.{table_in, whole}
use Rattle.table.proofs.StoredLaws.{held-stored}
use Rattle.engine.specs.Engine.{Ready, Stepped, played, Played, AllRefused}
use Rattle.engine.proofs.ReadyLaws.{whole_ready}
use Rattle.engine.proofs.StepLaws.{step-answer as answers}
use Rattle.reader.specs.Reader.{read_result, read_bytes, ReadAnswer}
use Rattle.reader.proofs.ReplyLaws as reader
use Rattle.writer.specs.Writer.{write_result, write_bytes, WriteAnswer}
use Rattle.writer.proofs.WriteLaws as writer
use Rattle.kyntulei.specs.Promise.{place_number, place_after, step_reply, step_bytes, RunAnswer}

module _ (b : List ℕ) (q : Bool) (is : q ≡ whole b) where
  pub ready : q ≡ true → Ready b
  ready e = whole_ready b (sym is ∙ e)

  module _ (a : List ℕ) where
    pub step-answer : (b' : List ℕ) (x : Result ℕ Refused) → ((i : ℕ) → get_or b' i 0 < 256) → q ≡ true → Stepped b a x b'
        → (answer_of x ≡ step_reply b a) × (b' ≡ step_bytes b a)
    step-answer b' x bytes e s = (rw (← is, e) (answers s), rw (← is, e) (held-stored b' (step (table_in b) a).table bytes s.table))

    pub step-broken : q ≡ false → (answer_of (Err Broken) ≡ step_reply b a) × (b ≡ step_bytes b a)
    step-broken e = (rw (← is, e), rw (← is, e))

  module _ (p r : List ℕ) where
    pub run-answer : (b' r' : List ℕ) (n k : ℕ) → ((i : ℕ) → get_or b' i 0 < 256) → q ≡ true → Played b p r n b' r' → k ≡ n → RunAnswer b p r k b' r'
    run-answer b' r' n k bytes e s w =
        record {
          count = w ∙ s.count;
          replies = rw (← is, e) s.replies;
          bytes = rw (← is, e) (held-stored b' (run_to (played p r) (table_in b) p).table bytes s.table);
        }

    pub run-broken : (r' : List ℕ) (n k : ℕ) → q ≡ false → AllRefused p r n r' → k ≡ n → RunAnswer b p r k b r'
    run-broken r' n k e s w = record { count = w ∙ s.count; replies = rw (← is, e) s.replies; bytes = rw (← is, e) }

-- ---- a place that is told

module _ (im slice slice' : List ℕ) (e n e' : ℕ) where
  pub read-told : (r : Result ℕ Refused) → r ≡ read_result im slice → slice' ≡ read_bytes im slice → n ≡ place_number r → e' ≡ place_after r e
      → ReadAnswer im slice e n slice' e'
  read-told (Ok k) h b f g = rw (f, g) (reader.answered-ok im slice slice' e k h b)
  read-told (Err r) h b f g = rw g (reader.answered-err im slice slice' e n r f h b)

  pub write-told : (r : Result ℕ Refused) → r ≡ write_result im slice → slice' ≡ write_bytes im slice → n ≡ place_number r → e' ≡ place_after r e
      → WriteAnswer im slice e n slice' e'
  write-told (Ok k) h b f g = rw (f, g) (writer.answered-ok im slice slice' e k h b)
  write-told (Err r) h b f g = rw g (writer.answered-err im slice slice' e n r f h b)
