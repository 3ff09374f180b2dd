-- What holds of runs because it holds of steps; runs joined; marks stay, and the rule and the floor do. Assumes nothing.
use Prim.Native.Nat.{ℕ, zero, suc, ◌+◌, ◌*◌, ◌<◌}
use mathlib.Core.Bool.{false}
use mathlib.Core.List.{List, [], ◌∷◌, ◌++◌, append_assoc}
use mathlib.Core.Logic.{◌≢◌, ⊎_elim}
use mathlib.Core.Path.{◌≡◌, refl, sym, ap, ◌∙◌}
use native.Mathlib.Numerals.{add-one}
use native.Mathlib.Omega.{arith}
use lib.Dec.{eqb}
use lib.ListN.{length, take, drop, length-append, length-drop}
use lib.Seq.{take-append-le, drop-append-le, drop-drop}
use Rattle.words.proofs.Tests.{Fails, fails-false, false-fails, neither, one-refuted, equal, unequal}
use Rattle.algorithm.specs.Table.{Server, Table, broken, server, mark, with_servers, with_marks}
use Rattle.algorithm.specs.Bytes.{Action, unknown, elect, reconfigure, send, spread, write, fetch, roll_back, commit, stretch, action_of}
use Rattle.algorithm.specs.Run.{after, answered, step, pieces, piece_count, Ran, play, run_to, run, brought_by, along}
use Rattle.words.proofs.Choice.{put-elim}
use Rattle.words.proofs.Lists.{nth-replace}
use Rattle.algorithm.proofs.Refusals.{Taken, outcome}
use Rattle.algorithm.proofs.Sound.{table-sound, here-sound}
use Rattle.algorithm.proofs.Fetches.{fetches-keep}
use Rattle.algorithm.proofs.Kept.{step-sound}

-- ---- steps and runs

-- what every step keeps, a run keeps
pub play-keeps : (P : Table → Type 0) → ((t : Table) (a : List ℕ) → P t → P (step t a).table) → (t : Table) (p : List (List ℕ)) → P t → P (play t p).table
unfolding play
play-keeps P keeps t [] h = h
play-keeps P keeps t (a ∷ p) h = play-keeps P keeps (step t a).table p (keeps t a h)

-- actions on a table that keeps the rules leave one that does
pub play-sound : (t : Table) (p : List (List ℕ)) → broken t ≡ false → broken (play t p).table ≡ false
play-sound t p h = fails-false (play-keeps (λ t. Fails (broken t)) step-sound t p (false-fails h))

-- ---- one plan after another

-- two runs as one: the replies of both, the second's table
abbrev pub joined : Ran → Ran → Ran
joined r s = record { replies = r.replies ++ s.replies; table = s.table }

-- actions and then others: the second run from the table of the first
pub play-append : (t : Table) (p q : List (List ℕ)) → play t (p ++ q) ≡ joined (play t p) (play (play t p).table q)
unfolding play
play-append t [] q = refl
play-append t (a ∷ p) q =
    ap (λ (r : Ran). record { replies = answered (step t a) ∷ r.replies; table = r.table }) (play-append (step t a).table p q)

-- and they bring about what both do
pub along-append : {A : Type 0} (f : Table → Action → List A) (t : Table) (p q : List (List ℕ)) → along f t (p ++ q) ≡ along f t p ++ along f (play t p).table q
unfolding play along
along-append f t [] q = refl
along-append f t (a ∷ p) q =
    ap (λ l. brought_by f t a ++ l) (along-append f (step t a).table p q)
    ∙ sym (append_assoc (brought_by f t a) (along f (step t a).table p) (along f (play (step t a).table p).table q))

-- of k whole actions and then another plan, the pieces are those of the first and then those of the second
pub pieces-append : (k j n : ℕ) (p q : List ℕ) → length p ≡ 8 * k → n ≡ k + j → pieces n (p ++ q) ≡ pieces k p ++ pieces j q
unfolding pieces
pieces-append zero j n [] q e z = let same : n ≡ j = omega arith in ap (λ (m : ℕ). pieces m q) same
pieces-append zero j n (x ∷ p) q e z = absurd (omega arith)
pieces-append (suc k) j zero p q e z = absurd (omega arith)
pieces-append (suc k) j (suc n) p q e z =
    rw (take-append-le 8 p q (omega arith), drop-append-le 8 p q (omega arith))
    (ap (λ l. take 8 p ∷ l) (pieces-append k j n (drop 8 p) q (omega (arith, length-drop 8 p)) (omega arith)))

-- a plan of k whole actions and then another: the second runs from the table of the first
pub run-append : (t : Table) (k : ℕ) (p q : List ℕ) → length p ≡ 8 * k → run t (p ++ q) ≡ joined (run t p) (run (run t p).table q)
run-append t k p q e =
    let c : piece_count p ≡ k = omega arith in
    let d : piece_count (p ++ q) ≡ k + piece_count q = omega (arith, length-append p q) in
    rw (pieces-append k (piece_count q) (piece_count (p ++ q)) p q e d, c) (play-append t (pieces k p) (pieces (piece_count q) q))

-- one piece more
pieces-next : (k : ℕ) (p : List ℕ) → pieces (suc k) p ≡ pieces k p ++ (take 8 (drop (8 * k) p) ∷ [])
unfolding pieces
pieces-next zero p = refl
pieces-next (suc k) p =
    let n : 8 * suc k ≡ 8 + 8 * k = omega arith in
    let e : drop (8 * suc k) p ≡ drop (8 * k) (drop 8 p) = ap (λ (n : ℕ). drop n p) n ∙ sym (drop-drop (8 * k) 8 p) in
    rw e (ap (λ l. take 8 p ∷ l) (pieces-next k (drop 8 p)))

-- the run r, and one step more
abbrev pub stepped : Ran → List ℕ → Ran
stepped r a = joined r (record { replies = answered (step r.table a) ∷ []; table = (step r.table a).table })

-- the run of one piece more
pub run-next : (k : ℕ) (t : Table) (p : List ℕ) → run_to (k + 1) t p ≡ stepped (run_to k t p) (take 8 (drop (8 * k) p))
unfolding play
run-next k t p = rw (add-one k, pieces-next k p) (play-append t (pieces k p) (take 8 (drop (8 * k) p) ∷ []))

length-pieces : (k : ℕ) (p : List ℕ) → length (pieces k p) ≡ k
unfolding pieces
length-pieces zero p = refl
length-pieces (suc k) p = ap suc (length-pieces k (drop 8 p))

length-replies : (t : Table) (p : List (List ℕ)) → length (play t p).replies ≡ length p
unfolding play
length-replies t [] = refl
length-replies t (a ∷ p) = ap suc (length-replies (step t a).table p)

-- a reply for each piece
pub replies-count : (k : ℕ) (t : Table) (p : List ℕ) → length (run_to k t p).replies ≡ k
replies-count k t p = length-replies t (pieces k p) ∙ length-pieces k p

-- ---- marks

-- a taken commit leaves every mark that is not 0
commit-marks : (t : Table) (i q : ℕ) → Taken t (commit i q) → (p : ℕ) → 0 < mark t p → mark (after t (commit i q)) p ≡ mark t p
unfolding after
commit-marks t i q k p o =
    let h = table-sound k.sound in
    let at : ℕ = length (server t i).log in
    let (empty, _) = neither {a = eqb at 0} (k.own 22) in
    let some : at ≢ 0 = unequal empty in
    nth-replace t.marks at (server t i).term 0 (omega arith) (omega (arith, h.full, (here-sound h i k.fit.0).short)) p
    ∙ put-elim (λ n x. 0 < mark t n → x ≡ mark t n)
    (λ m. ⊎_elim (λ z. let e : mark t at ≡ 0 = equal z in absurd (omega arith)) (λ e. sym (equal e)) (one-refuted (k.own 24)))
    (λ n _. refl) p o

marks-after : (t : Table) (a : Action) → Taken t a → (p : ℕ) → 0 < mark t p → mark (after t a) p ≡ mark t p
unfolding after
marks-after t unknown k p o = refl
marks-after t (elect i q) k p o = refl
marks-after t (reconfigure i m) k p o = refl
marks-after t (send i j) k p o = refl
marks-after t (spread i j) k p o = refl
marks-after t (write i B) k p o = refl
marks-after t (fetch i j) k p o = refl
marks-after t (roll_back i j) k p o = refl
marks-after t (commit i q) k p o = commit-marks t i q k p o
marks-after t (stretch i j c) k p o = fetches-keep i j (λ s. mark s p ≡ mark t p) (λ s none e. e) c t refl

mark-step : (t : Table) (a : List ℕ) (p : ℕ) → 0 < mark t p → mark (step t a).table p ≡ mark t p
mark-step t a p o =
    ⊎_elim (λ d. rw d.table (marks-after t (action_of a) d.taken p o)) (λ r. rw r.table) (outcome t a)

-- a mark, once made, stays, in any table
pub marks_stay : (t : Table) (plan : List ℕ) (p : ℕ) → 0 < mark t p → mark (run t plan).table p ≡ mark t p
marks_stay t plan p o =
    play-keeps (λ s. mark s p ≡ mark t p) (λ s a e. mark-step s a p (omega arith) ∙ e) t (pieces (piece_count plan) plan) refl

-- ---- the rule and the floor

-- what neither other servers nor other marks alter, no action alters
module _ {A : Type 0} (f : Table → A) (servers : (ss : List Server) (t : Table) → f (with_servers ss t) ≡ f t) (marks : (ms : List ℕ) (t : Table) → f (with_marks ms t) ≡ f t) where
  after-stays : (t : Table) (a : Action) → f (after t a) ≡ f t
  unfolding after
  after-stays t unknown = refl
  after-stays t (elect i q) = servers _ t
  after-stays t (reconfigure i m) = servers _ t
  after-stays t (send i j) = servers _ t
  after-stays t (spread i j) = servers _ t
  after-stays t (write i B) = servers _ t
  after-stays t (fetch i j) = servers _ t
  after-stays t (roll_back i j) = servers _ t
  after-stays t (commit i q) = marks _ t
  after-stays t (stretch i j c) = fetches-keep i j (λ s. f s ≡ f t) (λ s none e. servers _ s ∙ e) c t refl

  step_stays : (t : Table) (a : List ℕ) → f (step t a).table ≡ f t
  step_stays t a = ⊎_elim (λ d. rw d.table (after-stays t (action_of a))) (λ r. rw r.table) (outcome t a)

  play-stays : (t : Table) (p : List (List ℕ)) → f (play t p).table ≡ f t
  play-stays t p = play-keeps (λ s. f s ≡ f t) (λ s a e. step_stays s a ∙ e) t p refl

-- a step keeps the rule of its table, whatever table that is
pub step-rule : (t : Table) (a : List ℕ) → (step t a).table.rule ≡ t.rule
step-rule = step_stays (λ t. t.rule) (λ ss t. refl) (λ ms t. refl)

-- and so do actions one after another, and with them every run
pub play-rule : (t : Table) (p : List (List ℕ)) → (play t p).table.rule ≡ t.rule
play-rule = play-stays (λ t. t.rule) (λ ss t. refl) (λ ms t. refl)

-- a step keeps the floor of its table
pub step-floor : (t : Table) (a : List ℕ) → (step t a).table.floor ≡ t.floor
step-floor = step_stays (λ t. t.floor) (λ ss t. refl) (λ ms t. refl)

-- and so does every run
pub play-floor : (t : Table) (p : List (List ℕ)) → (play t p).table.floor ≡ t.floor
play-floor = play-stays (λ t. t.floor) (λ ss t. refl) (λ ms t. refl)
