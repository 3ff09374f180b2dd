-- The reply to a fresh table that is asked for, by the tests that lead to it, and what is known where it is 0. Assumes nothing.
use Prim.Native.Nat.{ℕ, ◌≤◌, ◌<◌}
use mathlib.Core.Bool.{Bool, true, false, not, ◌||◌}
use mathlib.Core.List.{List}
use mathlib.Core.Path.{◌≡◌, refl, sym, ap, ◌∙◌}
use native.Mathlib.Omega.{arith}
use lib.Dec.{eqb}
use lib.Pow.{pow_mono}
use mir.Facts.{Fits-of_lt}
use mir.Syntax.{w8, w16}
use mir.Val.{Fits}
use lib.ListN.{length}
use borrow.Author.Tests.{eq-eqb, ne_eqb, le-leb, lt-leb}
use Rattle.members.specs.Members.{within}
use Rattle.words.proofs.Tests.{Passes, refuted, both-refuted, neither, both, equal, at_most}
use Rattle.words.specs.Lists.{every}
use Rattle.words.specs.Refusal.{first, first_shown, Answer, given}
use Rattle.words.proofs.RefusalLaws.{none-hold, given-each}
use Rattle.std.specs.Prelude.{Result, Ok, Err}
use Rattle.algorithm.specs.declared.Refused.{Refused}
use Rattle.algorithm.specs.declared.Refused.TheVariants.{Broken, Servers, NoSet}
use Rattle.algorithm.specs.Run.{told, refused_of, verdict_of}
use Rattle.algorithm.proofs.Replies.{taken-number, refused-told}
use Rattle.algorithm.specs.Table.{fresh, most_servers, sound_rule}
use Rattle.algorithm.proofs.Seen.{within-width}
use Rattle.table.specs.Layout.{table_bytes, stored}
use Rattle.kyntulei.specs.Promise.{fresh_refusals, fresh_reply, FreshAnswer}

-- ---- the refusals one by one

module _ (b : List ℕ) (n m R F : ℕ) where
  pub other_length : (length b ≡ table_bytes → ⊥) → Err Broken ≡ verdict_of (given (fresh_refusals b n m R F))
  unfolding first first_shown
  other_length h = rw (ne_eqb (length b) table_bytes h)

  module _ (sized : length b ≡ table_bytes) where
    pub other-rule : 1 < R → Err Broken ≡ verdict_of (given (fresh_refusals b n m R F))
    unfolding first first_shown
    other-rule h = rw (eq-eqb (length b) table_bytes sized, lt-leb R 1 h)

    module _ (one : R ≤ 1) where
      pub other-floor : most_servers < F → Err Broken ≡ verdict_of (given (fresh_refusals b n m R F))
      unfolding first first_shown
      other-floor h = rw (eq-eqb (length b) table_bytes sized, le-leb R 1 one, lt-leb F most_servers h)

      module _ (low : F ≤ most_servers) where
        pub no-server : n ≡ 0 → Err Servers ≡ verdict_of (given (fresh_refusals b n m R F))
        unfolding first first_shown
        no-server z = rw (eq-eqb (length b) table_bytes sized, le-leb R 1 one, le-leb F most_servers low, z)

        pub too_many : (n ≡ 0 → ⊥) → most_servers < n → Err Servers ≡ verdict_of (given (fresh_refusals b n m R F))
        unfolding first first_shown
        too_many z h =
            rw (eq-eqb (length b) table_bytes sized, le-leb R 1 one, le-leb F most_servers low, le-leb 1 n (omega arith), lt-leb n most_servers h)

        module _ (some : n ≡ 0 → ⊥) (few : n ≤ most_servers) (q : Bool) (is : q ≡ within m n) where
          pub bad-set : q ≡ false → Err NoSet ≡ verdict_of (given (fresh_refusals b n m R F))
          unfolding first first_shown
          bad-set e =
              rw (eq-eqb (length b) table_bytes sized, le-leb R 1 one, le-leb F most_servers low, le-leb 1 n (omega arith), le-leb n most_servers few, ← is, e)

          pub good-set : q ≡ true → Ok tt ≡ verdict_of (given (fresh_refusals b n m R F))
          unfolding first first_shown
          good-set e =
              rw (eq-eqb (length b) table_bytes sized, le-leb R 1 one, le-leb F most_servers low, le-leb 1 n (omega arith), le-leb n most_servers few, ← is, e)

-- ---- what is asked for where nothing is refused

pub record Fillable (b : List ℕ) (n m R F : ℕ) : Type 0 where
  pub sized : length b ≡ table_bytes
  pub some : 1 ≤ n
  pub few : n ≤ most_servers
  pub set : Passes (within m n)
  pub rule : R ≤ 1
  pub floor : F ≤ most_servers

pub fillable : (b : List ℕ) (n m R F : ℕ) → fresh_reply b n m R F ≡ 0 → Fillable b n m R F
unfolding every
fillable b n m R F e =
    let none = none-hold (fresh_refusals b n m R F) tt e in
    let (front, floor) = neither {a = not (eqb (length b) table_bytes) || not (sound_rule R)} (none 1) in
    let (sized, rule) = both-refuted {a = eqb (length b) table_bytes} {b = sound_rule R} front in
    let (some, few) = both (refuted (none 32)) in
    record {
      sized = equal sized;
      some = at_most some;
      few = at_most few;
      set = refuted (none 5);
      rule = at_most rule;
      floor = at_most (refuted floor);
    }

-- ---- the answer

-- the refusal that is told has the number
abbrev Numbered : Answer → Type 0
Numbered a = (a.number ≡ 0 → ⊥) → (told (refused_of a)).number ≡ a.number

module _ (b : List ℕ) (n m R F : ℕ) (r : Result (Unit {0}) Refused) (e : r ≡ verdict_of (given (fresh_refusals b n m R F))) where
  pub refused : (x : Refused) (k : ℕ) → k ≡ (told x).number → r ≡ Err x → FreshAnswer b n m R F k b
  unfolding every
  refused x k is h =
      let (same, other) = refused-told (given (fresh_refusals b n m R F)) tt x (sym e ∙ h) in
      let number : (told (refused_of (given (fresh_refusals b n m R F)))).number ≡ fresh_reply b n m R F =
      given-each Numbered (fresh_refusals b n m R F) (λ z. absurd (z refl)) (λ _ z. refl, (λ _ z. refl, (λ _ z. refl, tt))) other in
      record { reply = is ∙ ap (λ (x : Refused). (told x).number) same ∙ number; bytes = rw (ne_eqb (fresh_reply b n m R F) 0 other) }

  module _ (u : Unit {0}) (h : r ≡ Ok u) where
    none : fresh_reply b n m R F ≡ 0
    none = taken-number (given (fresh_refusals b n m R F)) tt u (sym e ∙ h)

    asked : Fillable b n m R F
    asked = fillable b n m R F none

    pub fill-sized : length b ≡ table_bytes
    fill-sized = asked.sized

    pub fill-few : n ≤ most_servers
    fill-few = asked.few

    pub count_fits : Fits w8 n
    count_fits = Fits-of_lt (omega (arith, fill-few))

    -- a set within 16 servers has 16 bits
    pub set-fits : Fits w16 m
    set-fits = Fits-of_lt (omega (arith, within-width {m = m} n asked.set, pow_mono {i = n} {j = most_servers} fill-few))

    pub rule_fits : Fits w8 R
    rule_fits = Fits-of_lt (omega (arith, asked.rule))

    pub floor-fits : Fits w8 F
    floor-fits = Fits-of_lt (omega (arith, asked.floor))

    pub filled : (b' : List ℕ) → b' ≡ stored (fresh n m R F) → FreshAnswer b n m R F 0 b'
    filled b' f = record { reply = sym none; bytes = rw (eq-eqb (fresh_reply b n m R F) 0 none) f }
