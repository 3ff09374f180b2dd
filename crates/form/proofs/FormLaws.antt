-- What the bytes of an action tell of its form. Assumes nothing.
use Prim.Native.Nat.{ℕ, zero, suc, ◌≤◌, ◌<◌}
use native.Mathlib.Omega.{arith}
use mathlib.Core.Path.{◌≡◌, refl, sym, ap, subst, ◌∙◌}
use mathlib.Core.Bool.{Bool, true, false, cond, ◌&&◌}
use mathlib.Core.List.{List}
use lib.Dec.{eqb, leb}
use lib.ListN.{length, get_or}
use borrow.Author.Tests.{eq-eqb, ne_eqb, eqb-true}
use mir.Facts.{eqb_no}
use Rattle.words.specs.Words.{words}
use Rattle.words.proofs.WordLaws.{word_at}
use Rattle.words.specs.Lists.{every, between, all_below}
use Rattle.words.specs.Refusal.{Refusal, first, first_shown, Answer, given}
use Rattle.words.proofs.Tests.{Passes, both, both-refuted, false-fails, at_most}
use Rattle.words.proofs.BelowLaws.{all-below}
use Rattle.words.proofs.RefusalLaws.{none-hold, given-each}
use Rattle.members.specs.Members.{within}
use Rattle.algorithm.specs.Table.{positions}
use Rattle.algorithm.specs.Bytes.{kind_of, i_of, j_of, set_of, bake_of, uses_set, set_fits, uses_j, Action, unknown, elect, reconfigure, send, spread, write, fetch, roll_back, commit, stretch, kinds, action_of}
use Rattle.algorithm.specs.Run.{told, refused_of, verdict_of, stray_zero, unknown_kind, form_refusals}
use Rattle.algorithm.proofs.Replies.{is_number, number-told}
use Rattle.std.specs.Prelude.{Result, Ok, Err}
use Rattle.algorithm.specs.declared.Refused.{Refused}
use Rattle.algorithm.specs.declared.Refused.TheVariants.{Unknown}
use Rattle.form.specs.declared.Asked.{Asked}
use Rattle.form.specs.declared.Fields.{Fields}
use Rattle.form.specs.Form.{named, asks, form_by, form_of, fields_of, action_by, refusals_of, eight_refusals}

-- ---- eight bytes

module _ (n : ℕ) (a : List ℕ) where
  pub other_length : (length a ≡ 8 → ⊥) → Err Unknown ≡ form_of n a
  unfolding first first_shown
  other_length o = rw (ne_eqb (length a) 8 o)

  pub eight-bytes : (f : Fields) (r : Result Asked Refused) → length a ≡ 8 → f ≡ fields_of a → r ≡ form_by (eight_refusals n f) (asks (action_by f)) → r ≡ form_of n a
  unfolding first first_shown
  eight-bytes f r o e h =
      rw (eq-eqb (length a) 8 o) (subst (λ (g : Fields). r ≡ form_by (eight_refusals n g) (asks (action_by g))) e h)

-- the remainder of a word is the word
pub bake-read : (a : List ℕ) (r : ℕ) → length a ≡ 8 → r < 4294967296 → r ≡ get_or (words a) 1 0 → r ≡ bake_of a
bake-read a r o l e = omega (arith, word_at a 1 (omega arith))

pub fields_read : (a : List ℕ) (m b : ℕ) → m ≡ set_of a → b ≡ bake_of a
    → ◌≡◌ {A = Fields} (record { kind = kind_of a; i = i_of a; j = j_of a; set = m; bake = b; stray = stray_zero a }) (fields_of a)
fields_read a m b e f = rw (e, f)

-- ---- refusals 3 to 5

module _ (rs : List Refusal) (f : Result Asked Refused) (r : Result (Unit {0}) Refused) (judged : r ≡ verdict_of (given rs)) where
  pub refused-form : (e : Refused) → r ≡ Err e → Err e ≡ form_by rs f
  refused-form e h = go (eqb (first rs) 0) (sym h ∙ judged)
    where
      go : (b : Bool) → ◌≡◌ {A = Result (Unit {0}) Refused} (Err e) (cond b (Ok tt) (Err (refused_of (given rs)))) → Err e ≡ cond b f (Err (refused_of (given rs)))
      go true p = absurd (cc)
      go false p = let same : e ≡ refused_of (given rs) = cc in ap Err same

  pub asked-form : (u : Unit {0}) → r ≡ Ok u → f ≡ form_by rs f
  asked-form u h = go (eqb (first rs) 0) (sym h ∙ judged)
    where
      go : (b : Bool) → ◌≡◌ {A = Result (Unit {0}) Refused} (Ok u) (cond b (Ok tt) (Err (refused_of (given rs)))) → f ≡ cond b f (Err (refused_of (given rs)))
      go true p = refl
      go false p = absurd (cc)

-- ---- the bytes of the set

module _ (n k m : ℕ) (r : Bool) where
  pub count_fits : k ≡ 9 → r ≡ between 1 positions m → r ≡ set_fits n k m
  count_fits e h = rw e h

  pub set-within : (k ≡ 9 → ⊥) → r ≡ within m n → r ≡ set_fits n k m
  set-within o h = rw (ne_eqb k 9 o) h

-- ---- the kind

module _ (k x : ℕ) (b : Bool) (e : k ≡ x) where
  pub uses-j : b ≡ uses_j x → b ≡ uses_j k
  uses-j h = rw e h

  pub uses-set : b ≡ uses_set x → b ≡ uses_set k
  uses-set h = rw e h

pub of-kind : (x n : ℕ) (f : Fields) (r : Result Asked Refused) → f.kind ≡ x → unknown_kind x ≡ false
    → r ≡ form_by (refusals_of n f) (asks (get_or (kinds f.i f.j f.set f.bake) x unknown)) → r ≡ form_by (eight_refusals n f) (asks (action_by f))
unfolding first first_shown
of-kind x n f r e known h =
    let here : unknown_kind f.kind ≡ false = rw e known in
    let same : action_by f ≡ get_or (kinds f.i f.j f.set f.bake) x unknown = rw e in
    rw (here, same) h

past : {n k : ℕ} → n ≤ k → (k ≡ n → ⊥) → suc n ≤ k
past l h = omega arith

pub no_kind : (n : ℕ) (f : Fields) → (f.kind ≡ 1 → ⊥) → (f.kind ≡ 2 → ⊥) → (f.kind ≡ 3 → ⊥) → (f.kind ≡ 4 → ⊥) → (f.kind ≡ 5 → ⊥)
    → (f.kind ≡ 6 → ⊥) → (f.kind ≡ 7 → ⊥) → (f.kind ≡ 8 → ⊥) → (f.kind ≡ 9 → ⊥) → Err Unknown ≡ form_by (eight_refusals n f) (asks (action_by f))
unfolding first first_shown
no_kind n f n₁ n₂ n₃ n₄ n₅ n₆ n₇ n₈ n₉ = go (between 1 9 f.kind) refl
  where
    go : (b : Bool) → between 1 9 f.kind ≡ b → Err Unknown ≡ form_by (eight_refusals n f) (asks (action_by f))
    go false e = rw e
    go true e =
        let (least, most) = both {a = leb 1 f.kind} {b = leb f.kind 9} (record { yes = rw e tt }) in
        let from : 1 ≤ f.kind = at_most least in
        let to : f.kind ≤ 9 = at_most most in
        let beyond : 10 ≤ f.kind = past (past (past (past (past (past (past (past (past from n₁) n₂) n₃) n₄) n₅) n₆) n₇) n₈) n₉ in
        absurd (omega arith)

-- ---- what a form tells

-- it asks for an action
abbrev is_asking : Result Asked Refused → Bool
is_asking (Ok x) = true
is_asking (Err e) = false

known-asks : (k i j m B : ℕ) → 1 ≤ k → k ≤ 9 → Passes (is_asking (asks (get_or (kinds i j m B) k unknown)))
unfolding all_below
known-asks zero i j m B l h = absurd (omega arith)
known-asks (suc k) i j m B l h =
    all-below 9 (λ k. is_asking (asks (get_or (kinds i j m B) (suc k) unknown))) (record { yes = tt }) k (omega arith)

abbrev action_in : Result Asked Refused → Action
action_in (Ok x) = named x
action_in (Err e) = unknown

asked-back : (x : Action) → action_in (asks x) ≡ x
asked-back unknown = refl
asked-back (elect i q) = refl
asked-back (reconfigure i m) = refl
asked-back (send i j) = refl
asked-back (spread i j) = refl
asked-back (write i B) = refl
asked-back (fetch i j) = refl
asked-back (roll_back i j) = refl
asked-back (commit i q) = refl
asked-back (stretch i j c) = refl

module _ (n : ℕ) (a : List ℕ) where
  abbrev form : Bool → Result Asked Refused
  form b = cond b (asks (action_of a)) (Err (refused_of (given (form_refusals n a))))

  pub told-asks : (x : Asked) → form_of n a ≡ Ok x → (first (form_refusals n a) ≡ 0) × (action_of a ≡ named x)
  told-asks x h = go (eqb (first (form_refusals n a)) 0) refl h
    where
      go : (b : Bool) → eqb (first (form_refusals n a)) 0 ≡ b → form b ≡ Ok x → (first (form_refusals n a) ≡ 0) × (action_of a ≡ named x)
      go true e h = (eqb-true _ _ e, sym (asked-back (action_of a)) ∙ ap action_in h)
      go false e h = absurd (cc)

  pub told-refused : (r : Refused) → form_of n a ≡ Err r
      → (r ≡ refused_of (given (form_refusals n a))) × ((first (form_refusals n a) ≡ (told r).number) × (first (form_refusals n a) ≡ 0 → ⊥))
  unfolding every
  told-refused r h = go (eqb (first (form_refusals n a)) 0) refl h
    where
      -- each of them has its number
      numbered : (first (form_refusals n a) ≡ 0 → ⊥) → Passes (is_number (first (form_refusals n a)))
      numbered =
          given-each (λ (x : Answer). (x.number ≡ 0 → ⊥) → Passes (is_number x.number)) (form_refusals n a) (λ z. absurd (z refl))
          (λ _ z. record { yes = tt }, (λ _ z. record { yes = tt }, (λ _ z. record { yes = tt }, (λ _ z. record { yes = tt }, tt))))

      go : (b : Bool) → eqb (first (form_refusals n a)) 0 ≡ b → form b ≡ Err r
          → (r ≡ refused_of (given (form_refusals n a))) × ((first (form_refusals n a) ≡ (told r).number) × (first (form_refusals n a) ≡ 0 → ⊥))
      go true e h =
          let kind = (both-refuted {a = eqb (length a) 8} {b = leb 1 (kind_of a) && leb (kind_of a) 9} (none-hold (form_refusals n a) tt (eqb-true _ _ e) 2)).1 in
          let (least, most) = both kind in
          absurd (rw h at (known-asks (kind_of a) (i_of a) (j_of a) (set_of a) (bake_of a) (at_most least) (at_most most))).yes
      go false e h =
          let name : r ≡ refused_of (given (form_refusals n a)) = cc in
          let other : first (form_refusals n a) ≡ 0 → ⊥ = λ z. eqb_no (false-fails e).no z in
          (name, (rw name (sym (number-told (first (form_refusals n a)) (given (form_refusals n a)).shown (numbered other))), other))
