-- Laws of one step: an action is read, then judged, then done. Assumes nothing.
use Prim.Native.Nat.{ℕ}
use mathlib.Core.Bool.{false}
use mathlib.Core.Path.{refl, ◌≡◌, ap, sym, ◌∙◌}
use mathlib.Core.List.{List, ◌++◌}
use lib.Dec.{eqb}
use borrow.Author.Tests.{ne_eqb}
use Rattle.words.specs.Lists.{every}
use Rattle.words.specs.Refusal.{first, first_shown, Answer, given}
use Rattle.words.proofs.Tests.{fails-false, false-fails}
use Rattle.words.proofs.RefusalLaws.{none-hold, given-held, given-none}
use Rattle.std.specs.Prelude.{Result, Ok, Err, IfErr}
use Rattle.std.specs.Result.{ForErr}
use Rattle.algorithm.specs.declared.Refused.{Refused}
use Rattle.algorithm.specs.Run.{answer_of, verdict_of, form_refusals, common_refusals, own_refusals, refusals, after, taken_shown, answered, outcome_by, step}
use Rattle.algorithm.specs.Table.{Table, count}
use Rattle.algorithm.specs.Bytes.{Action, action_of}
use Rattle.algorithm.proofs.Refusals.{common-fit}
use Rattle.algorithm.proofs.Kept.{step-sound}
use Rattle.algorithm.proofs.Replies.{taken-number, refused-told, step-carried}
use Rattle.table.specs.Layout.{table_in}
use Rattle.table.specs.Slice.{Holds, Held}
use Rattle.table.proofs.HeldLaws.{its-table, held}
use Rattle.form.specs.declared.Asked.{Asked}
use Rattle.form.specs.Form.{named, form_of}
use Rattle.form.proofs.FormLaws.{told-refused, told-asks}
use Rattle.engine.specs.Engine.{Ready, Fitting, own_outcome, Answered, Stepped}
use Rattle.engine.proofs.AskedLaws.{fits}

-- the reply carries the algorithm's answer
pub step-answer : {b a b' : List ℕ} {r : Result ℕ Refused} → Stepped b a r b' → answer_of r ≡ answered (step (table_in b) a)
step-answer {b} {a} s = ap answer_of s.reply ∙ (step-carried (table_in b) a).same

-- what holds of each error that a result may be holds of the one that it is
if-err : {T E : Type 0} {P : E → Type 0} (r : Result T E) → ForErr r P → IfErr r P
if-err (Ok x) f = tt
if-err (Err e) f = f e refl

-- ---- what is asked, judged and done

module _ (b : List ℕ) (x : Asked) (own : Result (Unit {0}) Refused) (t : Table) (of : t ≡ table_in b) (said : own ≡ verdict_of (given (own_refusals t (named x)))) where
  pub judged : own ≡ verdict_of (given (own_refusals (table_in b) (named x)))
  judged = said ∙ ap (λ (u : Table). verdict_of (given (own_refusals u (named x)))) of

  -- where nothing is refused, no refusal of its kind's own holds
  pub none-refuses : (u : Unit {0}) → own ≡ Ok u → first (own_refusals (table_in b) (named x)) ≡ 0
  none-refuses u e = taken-number (given (own_refusals (table_in b) (named x))) tt u (sym judged ∙ e)

  pub own-refused : Held b → (r : Refused) → own ≡ Err r → Answered b x (Err r) b
  own-refused h r e =
      let (is, other) = refused-told (given (own_refusals (table_in b) (named x))) tt r (sym judged ∙ e) in
      let z : eqb (first (own_refusals (table_in b) (named x))) 0 ≡ false = ne_eqb _ 0 other in
      record { reply = rw (z, is); table = rw z h }

  pub own-answered : Held b → IfErr own (λ r. Answered b x (Err r) b)
  own-answered h = if-err own (own-refused h)

  pub own-taken : (k : ℕ) (u : Unit {0}) (b' : List ℕ) → own ≡ Ok u → (k ≡ (taken_shown (table_in b) (named x)).copied) × Holds b' (after (table_in b) (named x))
      → Answered b x (Ok k) b'
  own-taken k u b' e (told, w) = let none = none-refuses u e in record { reply = rw (none, told); table = rw none w }

-- ---- one step

module _ (b a : List ℕ) (h : Ready b) where
  -- a table that breaks no rule is judged from 2 on
  whole : given (refusals (table_in b) a) ≡ given (form_refusals (count (table_in b)) a ++ own_refusals (table_in b) (action_of a))
  unfolding refusals first first_shown
  whole = rw h.sound

  given_so : (x : Answer) → given (form_refusals (count (table_in b)) a ++ own_refusals (table_in b) (action_of a)) ≡ x
      → step (table_in b) a ≡ outcome_by (table_in b) x (action_of a)
  unfolding step
  given_so x e = ap (λ (y : Answer). outcome_by (table_in b) y (action_of a)) (whole ∙ e)

  module _ (n : ℕ) (u : Table) (of : u ≡ table_in b) (counts : n ≡ count u) (f : Result Asked Refused) (read : f ≡ form_of n a) where
    told : (g : Result Asked Refused) → f ≡ g → form_of (count (table_in b)) a ≡ g
    told g e = rw (← of, ← counts) (sym read ∙ e)

    pub form-refused : (r : Refused) → f ≡ Err r → Stepped b a (Err r) b
    form-refused r e =
        let forms = form_refusals (count (table_in b)) a in
        let (is, (_, other)) = told-refused (count (table_in b)) a r (told (Err r) e) in
        let refused : step (table_in b) a ≡ outcome_by (table_in b) (given forms) (action_of a) =
        given_so (given forms) (given-held forms (own_refusals (table_in b) (action_of a)) other) in
        let z : eqb (first forms) 0 ≡ false = ne_eqb _ 0 other in
        record { reply = rw (refused, z, is); table = rw (refused, z) h.held; ready = h }

    pub form-answered : IfErr f (λ r. Stepped b a (Err r) b)
    form-answered = if-err f form-refused

    module _ (x : Asked) (asked : f ≡ Ok x) where
      passed : (first (form_refusals (count (table_in b)) a) ≡ 0) × (action_of a ≡ named x)
      passed = told-asks (count (table_in b)) a x (told (Ok x) asked)

      pub fitting : Fitting (table_in b) x
      unfolding every first
      fitting = fits (table_in b) x (rw passed.1 at (common-fit (table_in b) a (none-hold (common_refusals (table_in b) a) tt (rw h.sound passed.0))).1)

      -- what is asked decides alone
      alone : step (table_in b) a ≡ own_outcome (table_in b) x
      unfolding every
      alone =
          given_so (given (own_refusals (table_in b) (action_of a)))
          (given-none (form_refusals (count (table_in b)) a) (own_refusals (table_in b) (action_of a)) tt passed.0)
          ∙ ap (λ (y : Action). outcome_by (table_in b) (given (own_refusals (table_in b) y)) y) passed.1

      pub answered-step : (r : Result ℕ Refused) (b' : List ℕ) → Answered b x r b' → Stepped b a r b'
      answered-step r b' s =
          let left : Holds b' (step (table_in b) a).table = rw alone s.table in
          record {
            reply = rw alone s.reply;
            table = left;
            ready = record { held = held left; sound = rw (its-table left) (fails-false (step-sound (table_in b) a (false-fails h.sound))) };
          }
