-- Replies: every answer of the algorithm is one that the enum carries and eight bytes hold, and how a judge's tests give it. Assumes nothing.
use Prim.Native.Nat.{ℕ, zero, suc, ◌+◌, ◌*◌, ◌/◌, ◌%◌, ◌≤◌, ◌<◌}
use native.Mathlib.Omega.{arith}
use mathlib.Core.Bool.{Bool, true, false, not, cond, ◌||◌, ◌&&◌}
use mathlib.Core.Logic.{◌⊎◌, inl, inr}
use mathlib.Core.List.{List, [], ◌∷◌, ◌++◌, flatten}
use mathlib.Core.Path.{◌≡◌, refl, sym, ap, subst, ◌∙◌}
use mir.Facts.{eqb_yes, eqb_no}
use lib.Dec.{T, leb, ltb, eqb}
use lib.ListN.{length, get_or, take, drop}
use lib.Pow.{pow_mono}
use lib.Seq.{drop-drop}
use borrow.Author.Rules.{rules}
use borrow.Author.Tests.{ne_eqb}
use Rattle.words.specs.Lists.{every, between, all_below}
use Rattle.words.specs.Words.{pair_of, value_of, eight}
use Rattle.words.specs.Refusal.{Shown, nothing, Refusal, refuse_showing, first, first_shown, Answer, answer, given}
use Rattle.words.proofs.Tests as Tests
use Rattle.words.proofs.Tests.{Passes, false-fails, both, equal, at_most, less, and-told}
use Rattle.words.proofs.BelowLaws.{all-below}
use Rattle.words.proofs.WordLaws.{eight-value}
use Rattle.words.proofs.RefusalLaws.{quiet, quiet_each, EachHeld, given-hit, given-miss, turned, either}
use Rattle.members.specs.Members.{member, within, lowest_in}
use Rattle.members.specs.Rules.{may_follow, old_apart, new_apart}
use Rattle.members.proofs.Lowest.{lowest-le}
use Rattle.members.proofs.Pairs.{some-apart, majority-range}
use Rattle.std.specs.Prelude.{Result, Ok, Err}
use Rattle.algorithm.specs.declared.Refused.{Refused}
use Rattle.algorithm.specs.declared.Refused.TheVariants.{Broken, Unknown, Stray, NoServer, NoSet, Role, NoMajority, LargerTerm, NewerConfig, LogAhead, Ceiling, WithoutLeader, MayNotFollow, Apart, BelowFloor, FewHaveConfig, FewHaveTerm, FewHaveMarked, NotNewer, NotLarger, Full, NothingToFetch, NothingToRollBack, LacksEntry, Opposed, MarkedOtherwise, Short, NotOpened, Servers, NotLaidOut, Unsound, NoRoom}
use Rattle.algorithm.specs.Table.{Table, count, server, positions}
use Rattle.algorithm.specs.Bytes.{Action, unknown, elect, reconfigure, send, spread, write, fetch, roll_back, commit, action_of, stretch}
use Rattle.algorithm.specs.Actions.{one_server, apart_shown, majority_refusals, mark_refusals, send_refusals, spread_refusals, write_refusals, fetch_refusals, roll_back_refusals, copied_shown, fetches}
use Rattle.algorithm.specs.Run.{told, answer_of, refused_of, result_of, reply_of, verdict_of, reply_bytes, answer_in, replies_bytes, numbers, common_refusals, own_refusals, answered, step, pieces, answers_in, play, taken_shown}
use Rattle.algorithm.proofs.Refusals.{Fits, step-each}
use Rattle.algorithm.proofs.Fetches.{copied-most}
use Rattle.algorithm.proofs.Seen.{within-width}
use Rattle.algorithm.proofs.Sound.{SoundTable, table-sound, here-sound}

-- ---- the code's eight bytes

-- two bytes make their number again
half_back : (v : ℕ) → v < 65536 → pair_of (v % 256) (v / 256 % 256) ≡ v
half_back v h = omega arith

-- the number of an answer's eight bytes
answer-eight : (a : Answer) → a.shown.old < 65536 → a.shown.new < 65536
    → a.number + 256 * a.shown.server + 65536 * a.shown.copied + 4294967296 * (a.shown.old + 65536 * a.shown.new) ≡ value_of (reply_bytes a)
unfolding value_of
answer-eight a h k = omega (arith, half_back a.shown.old h, half_back a.shown.new k)

pub copied-eight : (n : ℕ) → 65536 * n ≡ value_of (reply_bytes (answer_of (Ok n)))
copied-eight n = omega (arith, answer-eight (answer_of (Ok n)) (omega arith) (omega arith))

-- of a refusal r that shows two majorities, or nothing; n is its number
module _ (r : Refused) (n : ℕ) (e : n ≡ (told r).number) where
  pub apart-eight : (old new : ℕ) → old < 65536 → new < 65536 → r ≡ Apart old new → n + 4294967296 * (old + 65536 * new) ≡ value_of (reply_bytes (told r))
  apart-eight old new h k o = rw (e, o) (omega (arith, answer-eight (told (Apart old new)) h k))

  pub alone-eight : (told r).shown ≡ nothing → n ≡ value_of (reply_bytes (told r))
  alone-eight is = rw (e, is) (omega (arith, answer-eight (answer (told r).number nothing) (omega arith) (omega arith)))

pub shows-nothing : (r : Refused) → ((s : ℕ) → r ≡ LargerTerm s → ⊥) → ((s : ℕ) → r ≡ NewerConfig s → ⊥) → ((s : ℕ) → r ≡ LogAhead s → ⊥)
    → ((s : ℕ) → r ≡ Opposed s → ⊥) → ((old new : ℕ) → r ≡ Apart old new → ⊥) → (told r).shown ≡ nothing
shows-nothing Broken a b c d e = refl
shows-nothing Unknown a b c d e = refl
shows-nothing Stray a b c d e = refl
shows-nothing NoServer a b c d e = refl
shows-nothing NoSet a b c d e = refl
shows-nothing Role a b c d e = refl
shows-nothing NoMajority a b c d e = refl
shows-nothing (LargerTerm s) a b c d e = absurd (a s refl)
shows-nothing (NewerConfig s) a b c d e = absurd (b s refl)
shows-nothing (LogAhead s) a b c d e = absurd (c s refl)
shows-nothing Ceiling a b c d e = refl
shows-nothing WithoutLeader a b c d e = refl
shows-nothing MayNotFollow a b c d e = refl
shows-nothing (Apart old new) a b c d e = absurd (e old new refl)
shows-nothing BelowFloor a b c d e = refl
shows-nothing FewHaveConfig a b c d e = refl
shows-nothing FewHaveTerm a b c d e = refl
shows-nothing FewHaveMarked a b c d e = refl
shows-nothing NotNewer a b c d e = refl
shows-nothing NotLarger a b c d e = refl
shows-nothing Full a b c d e = refl
shows-nothing NothingToFetch a b c d e = refl
shows-nothing NothingToRollBack a b c d e = refl
shows-nothing LacksEntry a b c d e = refl
shows-nothing (Opposed s) a b c d e = absurd (d s refl)
shows-nothing MarkedOtherwise a b c d e = refl
shows-nothing Short a b c d e = refl
shows-nothing NotOpened a b c d e = refl
shows-nothing Servers a b c d e = refl
shows-nothing NotLaidOut a b c d e = refl
shows-nothing Unsound a b c d e = refl
shows-nothing NoRoom a b c d e = refl

-- ---- numbers and names

-- the numbers that refusals have
abbrev pub is_number : ℕ → Bool
is_number k = between 1 25 k || between 30 35 k

-- k is no such number, or its name tells it
abbrev is_told : Shown → ℕ → Bool
is_told s k = not (is_number k) || eqb (told (refused_of (answer k s))).number k

-- 13 has two names, by what is shown
all-told : (s : Shown) (b : Bool) → eqb s.old 0 ≡ b → Passes (all_below 36 (is_told s))
unfolding all_below
all-told s true e = rw e (record { yes = tt })
all-told s false e = rw e (record { yes = tt })

-- the name of a number tells it, whatever is shown
pub number-told : (k : ℕ) (s : Shown) → Passes (is_number k) → (told (refused_of (answer k s))).number ≡ k
number-told k s h = go (is_number k) h (all-below 36 (is_told s) (all-told s (eqb s.old 0) refl) k (below (Tests.either {a = between 1 25 k} h)))
  where
    below : Passes (between 1 25 k) ⊎ Passes (between 30 35 k) → k < 36
    below (inl r) = let most : k ≤ 25 = at_most (both {a = leb 1 k} r).1 in omega arith
    below (inr r) = let most : k ≤ 35 = at_most (both {a = leb 30 k} r).1 in omega arith

    go : (b : Bool) → Passes b → Passes (not b || eqb (told (refused_of (answer k s))).number k) → (told (refused_of (answer k s))).number ≡ k
    go true h t = equal t
    go false h t = absurd h.yes

-- ---- answers that a reply carries

-- the reply of an answer says all of it, and each of its values fits its bytes
pub record Carried (a : Answer) : Type 0 where
  pub same : answer_of (reply_of a) ≡ a
  pub number : a.number < 256
  pub server : a.shown.server < 256
  pub copied : a.shown.copied < 256
  pub old : a.shown.old < 65536
  pub new : a.shown.new < 65536

-- a number with the server that it shows; 0 is none
served : (k s : ℕ) → T (between 1 255 k) → answer_of (reply_of (answer k (one_server s))) ≡ answer k (one_server s) → s < 256 → Carried (answer k (one_server s))
served k s h same below =
    let to : k ≤ 255 = at_most (both {a = leb 1 k} (record { yes = h })).1 in
    record { same = same; number = omega arith; server = below; copied = omega arith; old = omega arith; new = omega arith }

-- the answer is the number k alone
abbrev is_alone : Answer → ℕ → Bool
is_alone a k = eqb a.number k && (eqb a.shown.server 0 && (eqb a.shown.copied 0 && (eqb a.shown.old 0 && eqb a.shown.new 0)))

its-alone : (a : Answer) (k : ℕ) → Passes (is_alone a k) → a ≡ answer k nothing
its-alone a k h =
    let (number, rest) = both {a = eqb a.number k} h in
    let (server, rest) = both {a = eqb a.shown.server 0} rest in
    let (copied, rest) = both {a = eqb a.shown.copied 0} rest in
    let (old, new) = both {a = eqb a.shown.old 0} {b = eqb a.shown.new 0} rest in
    λ d.
    record {
      number = eqb_yes {a = a.number} {b = k} number.yes d;
      shown =
          record {
            server = eqb_yes {a = a.shown.server} {b = 0} server.yes d;
            copied = eqb_yes {a = a.shown.copied} {b = 0} copied.yes d;
            old = eqb_yes {a = a.shown.old} {b = 0} old.yes d;
            new = eqb_yes {a = a.shown.new} {b = 0} new.yes d;
          };
    }

-- the number k is told of its refusal, and nothing else
abbrev alone : ℕ → Bool
alone k = between 1 255 k && is_alone (answer_of (reply_of (answer k nothing))) k

plain : (k : ℕ) → Passes (alone k) → Carried (answer k nothing)
plain k h =
    let (range, is) = both {a = between 1 255 k} h in
    served k 0 range.yes (its-alone (answer_of (reply_of (answer k nothing))) k is) (omega arith)

quiet-carried : (rs : List Refusal) → T (every (λ r. alone r.number) rs) → EachHeld Carried (quiet rs)
quiet-carried = quiet_each Carried alone plain

-- how many were copied fits a byte
copied-carried : (k : ℕ) → k < 256 → Carried (answer 0 (copied_shown k))
copied-carried k h = record { same = refl; number = omega arith; server = omega arith; copied = h; old = omega arith; new = omega arith }

-- the majorities that 13 shows are not empty, and fit two bytes
apart-carried : (R old new : ℕ) → 0 < old → old < 65536 → 0 < new → new < 65536 → Passes (not (may_follow R old new)) → Carried (answer 13 (apart_shown R old new))
apart-carried zero old new a b c d h = plain 13 (record { yes = tt })
apart-carried (suc k) old new a b c d h =
    let pair = (some-apart old new a c (record { no = h.yes })).pair in
    let (some, most) = majority-range (old_apart old new) pair.old in
    let (_, below) = majority-range (new_apart old new) pair.new in
    record {
      same = rw (ne_eqb (old_apart old new) 0 (omega arith));
      number = omega arith;
      server = omega arith;
      copied = omega arith;
      old = omega arith;
      new = omega arith;
    }

module _ (t : Table) (sound : SoundTable t) where
  -- a set of servers is not empty, and fits two bytes
  set-range : {m : ℕ} → Passes (within m (count t)) → (0 < m) × (m < 65536)
  set-range {m} w = (less (both {a = ltb 0 m} w).0, omega (arith, within-width {m = m} (count t) w, pow_mono sound.few))

  -- a server is one of the table's
  fault-carried : (k : ℕ) (fault : ℕ → Bool) (q : ℕ) → T (between 1 255 k) → ((s : ℕ) → answer_of (reply_of (answer k (one_server s))) ≡ answer k (one_server s))
      → Carried (answer k (one_server (lowest_in (count t) fault q)))
  fault-carried k fault q h same =
      let s = lowest_in (count t) fault q in
      served k s h (same s) (omega (arith, lowest-le (λ s. member s q && fault s) (count t), sound.few))

  quietly : (k : ℕ) → T (alone k) → Carried (answer k nothing)
  quietly k h = plain k (record { yes = h })

  own-carried : (a : Action) → Fits (count t) a → EachHeld Carried (own_refusals t a)
  unfolding every
  own-carried unknown fit = tt
  own-carried (elect i q) fit =
      (λ _. quietly 7 tt, (λ _. fault-carried 8 _ _ tt (λ _. refl), (λ _. fault-carried 9 _ _ tt (λ _. refl), (λ _. fault-carried 10 _ _ tt (λ _. refl), (λ _. quietly 11 tt, tt)))))
  own-carried (reconfigure i m) (i-fits, m-fits) =
      let (a, b) = set-range (here-sound sound i i-fits).config.set in
      let (c, d) = set-range m-fits in
      let shown = apart-carried t.rule (server t i).config.set m a b c d in
      let rest = quiet-carried (majority_refusals t i ++ mark_refusals t i) tt in
      (λ _. quietly 6 tt, (λ _. quietly 11 tt, (λ _. quietly 12 tt, (shown, (λ _. quietly 25 tt, rest)))))
  own-carried (send i j) fit = quiet-carried (send_refusals t i j) tt
  own-carried (spread i j) fit = quiet-carried (spread_refusals t i j) tt
  own-carried (write i B) fit = quiet-carried (write_refusals t i) tt
  own-carried (fetch i j) fit = quiet-carried (fetch_refusals t i j) tt
  own-carried (roll_back i j) fit = quiet-carried (roll_back_refusals t i j) tt
  own-carried (commit i q) fit =
      (λ _. quietly 6 tt, (λ _. quietly 7 tt, (λ _. quietly 22 tt, (λ _. fault-carried 23 _ _ tt (λ _. refl), (λ _. quietly 24 tt, tt)))))
  own-carried (stretch i j c) fit = quiet-carried (fetch_refusals t i j) tt

-- nothing is shown
nothing-carried : Carried (answer 0 nothing)
nothing-carried = copied-carried 0 (omega arith)

-- a stretch copies no more than its count says, which is at most 64
taken-carried : (t : Table) (a : Action) → Fits (count t) a → Carried (answer 0 (taken_shown t a))
taken-carried t unknown fit = nothing-carried
taken-carried t (elect i q) fit = nothing-carried
taken-carried t (reconfigure i m) fit = nothing-carried
taken-carried t (send i j) fit = nothing-carried
taken-carried t (spread i j) fit = nothing-carried
taken-carried t (write i B) fit = nothing-carried
taken-carried t (fetch i j) fit = nothing-carried
taken-carried t (roll_back i j) fit = nothing-carried
taken-carried t (commit i q) fit = nothing-carried
taken-carried t (stretch i j c) (_, fits) =
    let most : c ≤ positions = at_most (both {a = leb 1 c} fits).1 in
    copied-carried (fetches c t i j).copied (omega (arith, copied-most i j c t))

-- so is the answer to every action
pub step-carried : (t : Table) (a : List ℕ) → Carried (answered (step t a))
unfolding every
step-carried t a =
    step-each Carried t a (λ k. taken-carried t (action_of a) k.fit) (quiet-carried (common_refusals t a) tt)
    (λ sound fit. own-carried t (table-sound sound) (action_of a) fit)

-- where nothing is refused, no refusal's number is given
pub taken-number : {A : Type 0} (a : Answer) (x y : A) → result_of a x ≡ Ok y → a.number ≡ 0
taken-number a x y e = go (eqb a.number 0) refl e
  where
    go : (b : Bool) → eqb a.number 0 ≡ b → ◌≡◌ {A = Result _ Refused} (cond b (Ok x) (Err (refused_of a))) (Ok y) → a.number ≡ 0
    go true f e = eqb_yes (subst T (sym f) tt)
    go false f e = absurd (cc)

-- and where something is, it is the answer's
pub refused-told : {A : Type 0} (a : Answer) (x : A) (r : Refused) → result_of a x ≡ Err r → (r ≡ refused_of a) × (a.number ≡ 0 → ⊥)
refused-told a x r e = go (eqb a.number 0) refl e
  where
    go : (b : Bool) → eqb a.number 0 ≡ b → ◌≡◌ {A = Result _ Refused} (cond b (Ok x) (Err (refused_of a))) (Err r) → (r ≡ refused_of a) × (a.number ≡ 0 → ⊥)
    go true f e = absurd (cc)
    go false f e = (cc, λ z. eqb_no (false-fails f).no z)

-- ---- its bytes

module _ {a : Answer} (c : Carried a) where
  -- they are those of their number
  pub carried-eight : eight (value_of (reply_bytes a)) ≡ reply_bytes a
  carried-eight = eight-value _ _ _ _ _ _ _ _ c.number c.server c.copied (omega arith) (omega arith) (omega arith) (omega arith) (omega arith)

  -- and tell the answer
  pub carried-back : answer_in (reply_bytes a) ≡ a
  carried-back = rw (half_back a.shown.old c.old, half_back a.shown.new c.new)

-- ---- the bytes of some answers

pub length-bytes : (rs : List Answer) → length (replies_bytes rs) ≡ 8 * length rs
unfolding replies_bytes flatten
length-bytes [] = refl
length-bytes (a ∷ rs) = omega (arith, length-bytes rs)

pub bytes-append : (rs qs : List Answer) → replies_bytes (rs ++ qs) ≡ replies_bytes rs ++ replies_bytes qs
unfolding replies_bytes flatten
bytes-append [] qs = refl
bytes-append (a ∷ rs) qs = ap (λ (l : List ℕ). reply_bytes a ++ l) (bytes-append rs qs)

-- the number of a reply is the first of its bytes
pub number_at : (rs : List Answer) (j : ℕ) → get_or (replies_bytes rs) (8 * j) 0 ≡ get_or (numbers rs) j 0
unfolding replies_bytes flatten
number_at [] j = refl
number_at (a ∷ rs) zero = refl
number_at (a ∷ rs) (suc j) = let next : 8 * suc j ≡ suc (suc (suc (suc (suc (suc (suc (suc (8 * j)))))))) = omega arith in rw next (number_at rs j)

-- ---- the answers of a run

-- P is said of each
abbrev pub Each : (Answer → Type 0) → List Answer → Type 0
Each P [] = Unit {0}
Each P (a ∷ rs) = P a × Each P rs

pub play-carried : (t : Table) (p : List (List ℕ)) → Each Carried (play t p).replies
unfolding play
play-carried t [] = tt
play-carried t (a ∷ p) = (step-carried t a, play-carried (step t a).table p)

-- ---- answers told from bytes

pub length-answers : (n : ℕ) (rs : List ℕ) → length (answers_in n rs) ≡ n
unfolding pieces
length-answers zero rs = refl
length-answers (suc n) rs = ap suc (length-answers n (drop 8 rs))

pub answer_at : (n k : ℕ) (rs : List ℕ) → k < n → get_or (answers_in n rs) k (answer 0 nothing) ≡ answer_in (take 8 (drop (8 * k) rs))
unfolding pieces
answer_at zero k rs l = absurd (omega arith)
answer_at (suc n) zero rs l = refl
answer_at (suc n) (suc k) rs l =
    let next : 8 * suc k ≡ 8 + 8 * k = omega arith in
    rw (next, ← drop-drop (8 * k) 8 rs) (answer_at n k (drop 8 rs) (omega arith))

-- from the bytes of some answers these are told, whatever stands behind
pub answers-back : (rs : List Answer) (rest : List ℕ) → Each Carried rs → answers_in (length rs) (replies_bytes rs ++ rest) ≡ rs
unfolding replies_bytes flatten pieces
answers-back [] rest c = refl
answers-back (a ∷ rs) rest (c, d) = rw (carried-back c, answers-back rs rest d)

-- ---- a judge's tests

-- r is the code's answer to the first refusal's test, x what the judge says
module _ (k : ℕ) (b : Bool) (s : Shown) (rs : List Refusal) (r : Bool) (e : r ≡ b) (x : Result (Unit {0}) Refused) where
  pub hit : r ≡ true → x ≡ verdict_of (answer k s) → x ≡ verdict_of (given (refuse_showing k b s ∷ rs))
  hit o f = f ∙ ap verdict_of (sym (given-hit k b s rs r e o))

  pub miss : r ≡ false → x ≡ verdict_of (given rs) → x ≡ verdict_of (given (refuse_showing k b s ∷ rs))
  miss o f = f ∙ ap verdict_of (sym (given-miss k b s rs r e o))

pub none : Ok tt ≡ verdict_of (given [])
unfolding first first_shown
none = refl

-- what finds a judge's words from its tests
pub ruleset replying = (rules, none, hit, miss, turned, and-told, either)
