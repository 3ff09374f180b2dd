-- The refusals of an action, the reply to it, a run of actions, and the words of demand 3. The enum `Refused` stands in src/lib.rt. Assumes nothing.
use Rattle.std.specs.Prelude.{ℕ, zero, suc, ◌+◌, ◌/◌, ◌<◌, Bool, cond, not, ◌||◌, ◌&&◌, eqb, length, get_or, take, drop, Result, Ok, Err}
use mathlib.Core.List.{List, [], ◌∷◌, ◌++◌, map, flatten}
use Rattle.words.specs.Lists.{between}
use Rattle.words.specs.Words.{half, half_at}
use Rattle.words.specs.Refusal.{Shown, nothing, Refusal, refuse, Answer, answer, given, unless_refused}
use Rattle.algorithm.specs.declared.Refused.{Refused}
use Rattle.algorithm.specs.declared.Refused.TheVariants.{Broken, Unknown, Stray, NoServer, NoSet, Role, NoMajority, LargerTerm, NewerConfig, LogAhead, Ceiling, WithoutLeader, MayNotFollow, Apart, BelowFloor, FewHaveConfig, FewHaveTerm, FewHaveMarked, NotNewer, NotLarger, Full, NothingToFetch, NothingToRollBack, LacksEntry, Opposed, MarkedOtherwise, Short, NotOpened, Servers, NotLaidOut, Unsound, NoRoom}
use Rattle.algorithm.specs.Table.{Table, count, broken, server}
use Rattle.algorithm.specs.Bytes.{byte, kind_of, i_of, j_of, set_of, uses_set, uses_j, uses_bake, Action, unknown, elect, reconfigure, send, spread, write, fetch, roll_back, commit, action_of, set_fits, stretch}
use Rattle.algorithm.specs.Actions.{one_server, two_sets, elect_refusals, reconfigure_refusals, send_refusals, spread_refusals, write_refusals, fetch_refusals, roll_back_refusals, commit_refusals, elect_after, reconfigure_after, send_after, spread_after, write_after, fetch_after, roll_back_after, commit_after, copied_shown, fetches}

-- ---- replies

-- the number of a refusal, and what it shows
abbrev pub told : Refused → Answer
told Broken = answer 1 nothing
told Unknown = answer 2 nothing
told Stray = answer 3 nothing
told NoServer = answer 4 nothing
told NoSet = answer 5 nothing
told Role = answer 6 nothing
told NoMajority = answer 7 nothing
told (LargerTerm s) = answer 8 (one_server s)
told (NewerConfig s) = answer 9 (one_server s)
told (LogAhead s) = answer 10 (one_server s)
told Ceiling = answer 11 nothing
told WithoutLeader = answer 12 nothing
told MayNotFollow = answer 13 nothing
told (Apart old new) = answer 13 (two_sets old new)
told BelowFloor = answer 25 nothing
told FewHaveConfig = answer 14 nothing
told FewHaveTerm = answer 15 nothing
told FewHaveMarked = answer 16 nothing
told NotNewer = answer 17 nothing
told NotLarger = answer 18 nothing
told Full = answer 19 nothing
told NothingToFetch = answer 20 nothing
told NothingToRollBack = answer 21 nothing
told LacksEntry = answer 22 nothing
told (Opposed s) = answer 23 (one_server s)
told MarkedOtherwise = answer 24 nothing
told Short = answer 30 nothing
told NotOpened = answer 31 nothing
told Servers = answer 32 nothing
told NotLaidOut = answer 33 nothing
told Unsound = answer 34 nothing
told NoRoom = answer 35 nothing

-- the number of a reply, and what it shows: of an action that is taken, how many entries were copied
abbrev pub answer_of : Result ℕ Refused → Answer
answer_of (Ok k) = answer 0 (copied_shown k)
answer_of (Err r) = told r

-- the refusals by their numbers, 0 and 26 to 29 being none, each with what s shows; 13 is alone where s shows no majorities
abbrev pub numbered : Shown → List Refused
numbered s =
    Broken
    ∷ Broken ∷ Unknown ∷ Stray ∷ NoServer ∷ NoSet ∷ Role ∷ NoMajority ∷ LargerTerm s.server ∷ NewerConfig s.server ∷ LogAhead s.server
    ∷ Ceiling ∷ WithoutLeader ∷ cond (eqb s.old 0) MayNotFollow (Apart s.old s.new) ∷ FewHaveConfig ∷ FewHaveTerm ∷ FewHaveMarked ∷ NotNewer
    ∷ NotLarger ∷ Full ∷ NothingToFetch ∷ NothingToRollBack ∷ LacksEntry ∷ Opposed s.server ∷ MarkedOtherwise ∷ BelowFloor
    ∷ Broken ∷ Broken ∷ Broken ∷ Broken
    ∷ Short ∷ NotOpened ∷ Servers ∷ NotLaidOut ∷ Unsound ∷ NoRoom ∷ []

-- the refusal that an answer is; a number without a name, which no answer of the algorithm has, reads as `Broken`
abbrev pub refused_of : Answer → Refused
refused_of a = get_or (numbered a.shown) a.number Broken

-- x where the answer refuses nothing, and else its refusal
abbrev pub result_of : {A : Type 0} → Answer → A → Result A Refused
result_of a x = unless_refused a.number (Ok x) (Err (refused_of a))

-- the reply that gives an answer
abbrev pub reply_of : Answer → Result ℕ Refused
reply_of a = result_of a a.shown.copied

-- what a judge says, who has nothing to tell where nothing is refused
abbrev pub verdict_of : Answer → Result (Unit {0}) Refused
verdict_of a = result_of a tt

-- an answer in eight bytes: the number, the server, how many entries were copied, 0, and the two majorities
abbrev pub reply_bytes : Answer → List ℕ
reply_bytes a = a.number ∷ a.shown.server ∷ a.shown.copied ∷ 0 ∷ (half a.shown.old ++ half a.shown.new)

-- the answer that eight bytes are
abbrev pub answer_in : List ℕ → Answer
answer_in bs = answer (byte bs 0) (record { server = byte bs 1; copied = byte bs 2; old = half_at bs 4; new = half_at bs 6 })

-- the bytes of answers, one behind another
unfoldable pub replies_bytes : List Answer → List ℕ
replies_bytes rs = flatten (map reply_bytes rs)

-- their numbers
abbrev pub numbers : List Answer → List ℕ
numbers rs = map (λ a. a.number) rs

-- ---- refusals

-- a field is not 0
abbrev pub stray : ℕ → Bool
stray x = not (eqb x 0)

-- one of the three zero bytes is not 0; a write has but one, and its bake in the place of the others
abbrev pub stray_zero : List ℕ → Bool
stray_zero bs = stray (byte bs 3) || not (uses_bake (kind_of bs)) && (stray (byte bs 6) || stray (byte bs 7))

-- i is the number of one of n servers
abbrev pub known : ℕ → ℕ → Bool
known n i = between 1 n i

-- k is the number of none of the nine kinds
abbrev pub unknown_kind : ℕ → Bool
unknown_kind k = not (between 1 9 k)

-- 3 to 5 of the kind k, beside a table of n servers; z tells whether a zero byte is not 0
abbrev pub field_refusals : ℕ → Bool → ℕ → ℕ → ℕ → ℕ → List Refusal
field_refusals n z k i j M =
    refuse 3 (z || not (uses_j k) && stray j || not (uses_set k || uses_bake k) && stray M)
    ∷ refuse 4 (not (known n i) || uses_j k && not (known n j))
    ∷ refuse 5 (uses_set k && not (set_fits n k M))
    ∷ []

-- 2 to 5
abbrev pub form_refusals : ℕ → List ℕ → List Refusal
form_refusals n bs =
    refuse 2 (not (eqb (length bs) 8) || unknown_kind (kind_of bs))
    ∷ field_refusals n (stray_zero bs) (kind_of bs) (i_of bs) (j_of bs) (set_of bs)

-- 1 to 5
abbrev pub common_refusals : Table → List ℕ → List Refusal
common_refusals t bs = refuse 1 (broken t) ∷ form_refusals (count t) bs

-- 6 to 25, of the action's own kind; for an unknown one 2 holds already
abbrev pub own_refusals : Table → Action → List Refusal
own_refusals t unknown = []
own_refusals t (elect i Q) = elect_refusals t i Q
own_refusals t (reconfigure i M) = reconfigure_refusals t i M
own_refusals t (send i j) = send_refusals t i j
own_refusals t (spread i j) = spread_refusals t i j
own_refusals t (write i B) = write_refusals t i
own_refusals t (fetch i j) = fetch_refusals t i j
own_refusals t (roll_back i j) = roll_back_refusals t i j
own_refusals t (commit i Q) = commit_refusals t i Q
own_refusals t (stretch i j c) = fetch_refusals t i j

-- the order in which refusals are looked at: lowest first, but for 25, which stands directly behind 13
abbrev pub order : List ℕ
order =
    1 ∷ 2 ∷ 3 ∷ 4 ∷ 5 ∷ 6 ∷ 7 ∷ 8 ∷ 9 ∷ 10 ∷ 11 ∷ 12 ∷ 13 ∷ 25 ∷ 14 ∷ 15 ∷ 16 ∷ 17 ∷ 18 ∷ 19 ∷ 20 ∷ 21 ∷ 22 ∷ 23 ∷ 24 ∷ []

-- all refusals of the action that the bytes name, in that order (proofs/Refusals: lowest-first)
unfoldable pub refusals : Table → List ℕ → List Refusal
refusals t bs = common_refusals t bs ++ own_refusals t (action_of bs)

-- the table after the action, where it is taken; an unknown one never is
unfoldable pub after : Table → Action → Table
after t unknown = t
after t (elect i Q) = elect_after t i Q
after t (reconfigure i M) = reconfigure_after t i M
after t (send i j) = send_after t i j
after t (spread i j) = spread_after t i j
after t (write i B) = write_after t i B
after t (fetch i j) = fetch_after t i j
after t (roll_back i j) = roll_back_after t i j
after t (commit i Q) = commit_after t i Q
after t (stretch i j c) = (fetches c t i j).table

-- what an action shows where it is taken: a stretch how many entries were copied, any other kind nothing
abbrev pub taken_shown : Table → Action → Shown
taken_shown t unknown = nothing
taken_shown t (elect i Q) = nothing
taken_shown t (reconfigure i M) = nothing
taken_shown t (send i j) = nothing
taken_shown t (spread i j) = nothing
taken_shown t (write i B) = nothing
taken_shown t (fetch i j) = nothing
taken_shown t (roll_back i j) = nothing
taken_shown t (commit i Q) = nothing
taken_shown t (stretch i j c) = copied_shown (fetches c t i j).copied

-- ---- steps and runs

-- the reply's number, 0 for taken, what it shows, and the table afterwards
pub record Outcome : Type 0 where
  pub number : ℕ
  pub shown : Shown
  pub table : Table

-- the answer alone
abbrev pub answered : Outcome → Answer
answered o = answer o.number o.shown

-- the action x by the answer a that its refusals give: with 0 it is taken; otherwise the reply is that answer, and the table stays
abbrev pub outcome_by : Table → Answer → Action → Outcome
outcome_by t a x = record {
  number = a.number;
  shown = unless_refused a.number (taken_shown t x) a.shown;
  table = unless_refused a.number (after t x) t;
}

-- the action that the bytes name is taken if no refusal holds; otherwise the reply is the first that does
unfoldable pub step : Table → List ℕ → Outcome
step t bs = outcome_by t (given (refusals t bs)) (action_of bs)

-- the first k pieces of 8 bytes; one that the end cuts is shorter, and beyond the end they are empty: neither is ever taken
unfoldable pub pieces : ℕ → List ℕ → List (List ℕ)
pieces zero p = []
pieces (suc k) p = take 8 p ∷ pieces k (drop 8 p)

-- the answers that the first k pieces are
abbrev pub answers_in : ℕ → List ℕ → List Answer
answers_in k p = map answer_in (pieces k p)

-- how many pieces the bytes make, a cut last one included
abbrev pub piece_count : List ℕ → ℕ
piece_count p = (length p + 7) / 8

-- the replies in order, and the last table
pub record Ran : Type 0 where
  pub replies : List Answer
  pub table : Table

-- actions one after another, each on the table that the one before left
unfoldable pub play : Table → List (List ℕ) → Ran
play t [] = record { replies = []; table = t }
play t (bs ∷ rest) =
    let o = step t bs in
    let r = play o.table rest in
    record { replies = answered o ∷ r.replies; table = r.table }

-- the run of the first k pieces of a plan, which is any list of bytes
abbrev pub run_to : ℕ → Table → List ℕ → Ran
run_to k t p = play t (pieces k p)

-- the run of the whole plan
abbrev pub run : Table → List ℕ → Ran
run t p = run_to (piece_count p) t p

-- ---- the words of demand 3: what actions bring about along a run

module _ {A : Type 0} where
  -- what a step brings about, where its action, if taken, brings about f: nothing where it is refused
  unfoldable pub brought_by : (Table → Action → List A) → Table → List ℕ → List A
  brought_by f t a = unless_refused (step t a).number (f t (action_of a)) []

  -- the same of actions one after another, in order
  unfoldable pub along : (Table → Action → List A) → Table → List (List ℕ) → List A
  along f t [] = []
  along f t (a ∷ rest) = brought_by f t a ++ along f (step t a).table rest

-- the term that an action wins where it is taken: for an election i's term + 1, for any other kind none
abbrev pub wins : Table → Action → List ℕ
wins t unknown = []
wins t (elect i q) = ((server t i).term + 1) ∷ []
wins t (reconfigure i m) = []
wins t (send i j) = []
wins t (spread i j) = []
wins t (write i B) = []
wins t (fetch i j) = []
wins t (roll_back i j) = []
wins t (commit i q) = []
wins t (stretch i j c) = []

-- the terms won by actions one after another
abbrev pub won_along : Table → List (List ℕ) → List ℕ
won_along t p = along wins t p

-- b < u₁ < u₂ < ..
abbrev pub Rising : ℕ → List ℕ → Type 0
Rising b [] = Unit {0}
Rising b (u ∷ us) = (b < u) × Rising u us

-- what was written: in which term, at which position, and the bake
pub record Written : Type 0 where
  pub term : ℕ
  pub position : ℕ
  pub bake : ℕ

-- what an action writes where it is taken: a write at i in i's term, behind i's log; any other kind nothing
abbrev pub writes : Table → Action → List Written
writes t unknown = []
writes t (elect i q) = []
writes t (reconfigure i m) = []
writes t (send i j) = []
writes t (spread i j) = []
writes t (write i B) = record { term = (server t i).term; position = length (server t i).log + 1; bake = B } ∷ []
writes t (fetch i j) = []
writes t (roll_back i j) = []
writes t (commit i q) = []
writes t (stretch i j c) = []

-- it was written in the term u at position p
abbrev pub written_at : ℕ → ℕ → Written → Bool
written_at u p w = eqb w.term u && eqb w.position p

-- the bakes that were written in the term u at position p
unfoldable pub bakes_of : ℕ → ℕ → List Written → List ℕ
bakes_of u p [] = []
bakes_of u p (w ∷ ws) = cond (written_at u p w) (w.bake ∷ bakes_of u p ws) (bakes_of u p ws)

-- the bakes that the taken writes of a run gave in the term u at position p, in order
abbrev pub bakes_given : Table → List (List ℕ) → ℕ → ℕ → List ℕ
bakes_given t plan u p = bakes_of u p (along writes t plan)
