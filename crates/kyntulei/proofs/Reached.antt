-- Demand 3 of every slice that calls from C lead to, and of every reply on the way. Assumes nothing.
use Prim.Native.Nat.{ℕ, ◌+◌, ◌*◌, ◌≤◌, ◌<◌}
use mathlib.Core.Bool.{true, false}
use mathlib.Core.List.{List, [], ◌∷◌, ◌++◌, append_assoc, append-nil, flatten}
use mathlib.Core.Logic.{◌≢◌}
use mathlib.Core.Path.{◌≡◌, refl, sym, ap, ap₂, subst, ◌∙◌}
use native.Mathlib.Omega.{arith}
use lib.Dec.{T}
use lib.ListN.{length, get_or, take}
use lib.Seq.{get_or-append-add, get_or-take}
use borrow.Author.Tests.{ne_eqb}
use Rattle.algorithm.specs.Table.{Table, server, primary, entry_at, bake_at, mark, broken, fresh, held}
use Rattle.algorithm.specs.Bytes.{Action, action_of}
use Rattle.words.specs.Words.{value_of, eight}
use Rattle.words.specs.Refusal.{Answer, unless_refused}
use Rattle.algorithm.specs.Run.{reply_bytes, replies_bytes, answered, step, pieces, play, brought_by, along, won_along, Rising, bakes_given}
use Rattle.algorithm.proofs.Runs.{play-sound, play-rule, play-floor, play-append, along-append, pieces-append}
use Rattle.algorithm.proofs.Demands.{won-rise, not-given-24, next-not-24, primary-complete, logs-agree}
use Rattle.algorithm.proofs.Replies.{step-carried, carried-eight, length-bytes, bytes-append, number_at}
use Rattle.table.specs.Layout.{stored, table_in, whole}
use Rattle.table.proofs.StoredLaws.{stored-table}
use Rattle.whole.proofs.Determined.{stored-whole, whole-stored, whole-sound}
use Rattle.reader.specs.Reader.{ReadAnswer}
use Rattle.reader.proofs.ReplyLaws.{read-sized, kept-bytes}
use Rattle.writer.specs.Writer.{WriteAnswer}
use Rattle.writer.proofs.WriteTheorems.{read-saved}
use Rattle.engine.specs.Engine.{played}
use Rattle.kyntulei.specs.Promise.{FreshAnswer, fresh_reply, StepAnswer, step_reply, step_bytes, RunAnswer, run_replies, run_bytes, Calls, none, stepped, ran, carried, unread, unfilled, Reached}
use Rattle.kyntulei.proofs.Meaning.{filled-bytes, filled-sound, step-reply, step-bytes, run-replies, run-bytes}

-- ---- calls from any table that breaks no rule

-- the slice has the bytes of the table that the actions leave, and the replies are theirs
pub record Plays (t : Table) (plan : List (List ℕ)) (rs b : List ℕ) : Type 0 where
  pub bytes : b ≡ stored (play t plan).table
  pub replies : rs ≡ replies_bytes (play t plan).replies

module _ (t : Table) (sound : broken t ≡ false) where
  -- the same bytes again
  kept : {plan : List (List ℕ)} {replies c c' : List ℕ} → Plays t plan replies c → c' ≡ c → Plays t plan replies c'
  kept h e = record { bytes = e ∙ h.bytes; replies = h.replies }

  -- actions more
  more : {plan : List (List ℕ)} {replies c c' rs : List ℕ} → Plays t plan replies c → (acts : List (List ℕ))
      → c' ≡ stored (play (play t plan).table acts).table → rs ≡ replies_bytes (play (play t plan).table acts).replies → Plays t (plan ++ acts) (replies ++ rs) c'
  more {plan} h acts b r =
      record {
        bytes = rw (play-append t plan acts) b;
        replies =
            rw (play-append t plan acts, bytes-append (play t plan).replies (play (play t plan).table acts).replies)
            (ap₂ (λ (x y : List ℕ). x ++ y) h.replies r);
      }

  -- the calls play their actions on the table
  pub calls-play : {plan : List (List ℕ)} {replies c : List ℕ} → Calls (stored t) plan replies c → Plays t plan replies c
  unfolding play replies_bytes flatten
  calls-play none = record { bytes = refl; replies = refl }
  calls-play (stepped {plan} {a = a} h s) =
      let before = calls-play h in
      let u = (play t plan).table in
      more before (a ∷ [])
      (s.bytes ∙ ap (λ (c : List ℕ). step_bytes c a) before.bytes ∙ step-bytes u (play-sound t plan sound) a)
      (ap eight (s.reply ∙ ap (λ (x : Answer). value_of (reply_bytes x)) (ap (λ (c : List ℕ). step_reply c a) before.bytes ∙ step-reply u (play-sound t plan sound) a))
      ∙ carried-eight (step-carried u a))
  calls-play (ran {plan} {p = p} {s = s} h a) =
      let before = calls-play h in
      let u = (play t plan).table in
      rw a.count
      (more before (pieces (played p s) p)
      (a.bytes ∙ ap (λ (c : List ℕ). run_bytes c p s) before.bytes ∙ run-bytes u (play-sound t plan sound) p s)
      (ap (take (8 * played p s)) (a.replies ∙ ap (λ (c : List ℕ). run_replies c p s) before.bytes) ∙ run-replies u (play-sound t plan sound) p s))
  calls-play (carried {d = d} h w rest a) = kept (calls-play h) (read-saved w rest (read-sized _ d 0 a.reply refl) a).1
  calls-play (unread {c = c} {r = r} h im e e' a o) = kept (calls-play h) (a.bytes ∙ sym (kept-bytes im c r a.reply (omega arith)))
  calls-play (unfilled {c = c} {r = r} h n m R F a o) = kept (calls-play h) (a.bytes ∙ rw (ne_eqb (fresh_reply c n m R F) 0 (omega (arith, a.reply))))

-- ---- calls from any whole slice

module _ {b c rs : List ℕ} {plan : List (List ℕ)} (w : whole b ≡ true) (h : Calls b plan rs c) where
  pub whole-play : Plays (table_in b) plan rs c
  whole-play = calls-play (table_in b) (whole-sound b w) (subst (λ (x : List ℕ). Calls x plan rs c) (whole-stored b w) h)

  pub whole-left : whole c ≡ true
  whole-left = rw whole-play.bytes (stored-whole (play (table_in b) plan).table (play-sound (table_in b) plan (whole-sound b w)))

-- The actions alone decide what is left and what is replied: not how they were parted into steps and runs, nor where the table was written and
-- read in between.
pub same-plan : {b c d rs qs : List ℕ} {plan : List (List ℕ)} → whole b ≡ true → Calls b plan rs c → Calls b plan qs d → (rs ≡ qs) × (c ≡ d)
same-plan w h k =
    let x = whole-play w h in
    let y = whole-play w k in
    (x.replies ∙ sym y.replies, x.bytes ∙ sym y.bytes)

-- calls that judge no action, as a write and a read of what was written, leave the bytes
pub same_bytes : {c d : List ℕ} → whole c ≡ true → Calls c [] [] d → d ≡ c
same_bytes w h = (same-plan w h none).1

-- ---- calls from a fresh table

module _ {n m R F : ℕ} {plan : List (List ℕ)} {replies b : List ℕ} (h : Reached n m R F plan replies b) where
  plays : Plays (fresh n m R F) plan replies b
  plays = calls-play (fresh n m R F) (filled-sound h.filled) (rw (filled-bytes h.filled) at h.calls)

  -- the table in the slice is what the actions leave of the fresh one, and the replies are the algorithm's
  pub reached-table : table_in b ≡ (play (fresh n m R F) plan).table
  reached-table = ap table_in plays.bytes ∙ stored-table (play (fresh n m R F) plan).table (play-sound (fresh n m R F) plan (filled-sound h.filled))

  pub reached-replies : replies ≡ replies_bytes (play (fresh n m R F) plan).replies
  reached-replies = plays.replies

  pub reached-whole : whole b ≡ true
  reached-whole = rw plays.bytes (stored-whole (play (fresh n m R F) plan).table (play-sound (fresh n m R F) plan (filled-sound h.filled)))

  -- under the rule that it was filled with
  pub reached-rule : (table_in b).rule ≡ R
  reached-rule = ap (λ (t : Table). t.rule) reached-table ∙ play-rule (fresh n m R F) plan

  -- and with the floor
  pub reached-floor : (table_in b).floor ≡ F
  reached-floor = ap (λ (t : Table). t.floor) reached-table ∙ play-floor (fresh n m R F) plan

  -- the terms won by all actions rise, so that no term is won by two elections
  pub reached-rise : Rising 0 (won_along (fresh n m R F) plan)
  reached-rise = won-rise n m R F plan

  -- every primary holds, at its position, each entry marked with a term not above its own: that term, and the bake of the one write that was taken
  -- in that term at that position
  pub reached-complete : (i q : ℕ) → T (primary (server (table_in b) i)) → 0 < mark (table_in b) q → mark (table_in b) q ≤ (server (table_in b) i).term
      → T (held (server (table_in b) i).log q (mark (table_in b) q))
      × (bakes_given (fresh n m R F) plan (mark (table_in b) q) q ≡ bake_at (server (table_in b) i).log q ∷ [])
  reached-complete = rw reached-table (primary-complete n m R F plan)

  -- two logs that have the same term at a position agree up to there, in terms and bakes
  pub reached-agree : (i j q u : ℕ) → T (held (server (table_in b) i).log q u) → T (held (server (table_in b) j).log q u)
      → (r : ℕ) → r ≤ q → entry_at (server (table_in b) i).log r ≡ entry_at (server (table_in b) j).log r
  reached-agree = rw reached-table (logs-agree n m R F plan)

  -- no reply has the number 24, which is the first of its bytes
  pub reached-24 : (j : ℕ) → get_or replies (8 * j) 0 ≢ 24
  reached-24 = rw reached-replies (λ j e. not-given-24 n m R F plan j (sym (number_at (play (fresh n m R F) plan).replies j) ∙ e))

-- two that were reached by the same actions are the same, whatever calls made them
pub reached-unique : {n m R F : ℕ} {plan : List (List ℕ)} {rs b qs c : List ℕ} → Reached n m R F plan rs b → Reached n m R F plan qs c → (rs ≡ qs) × (b ≡ c)
reached-unique h k = ((plays h).replies ∙ sym (plays k).replies, (plays h).bytes ∙ sym (plays k).bytes)

-- ---- a call on a reached slice

module _ {n m R F : ℕ} {plan : List (List ℕ)} {replies b : List ℕ} (h : Reached n m R F plan replies b) where
  module _ {a b' : List ℕ} {r w : ℕ} (s : StepAnswer b a r w b') where
    pub then-step : Reached n m R F (plan ++ (a ∷ [])) (replies ++ eight w) b'
    then-step = record { given = h.given; first = h.first; filled = h.filled; calls = stepped h.calls s }

    -- it is not answered 24
    pub step-24 : r ≢ 24
    step-24 e = next-not-24 n m R F plan a (rw (reached-whole h, reached-table h) at (sym s.number ∙ e))

    -- what it brings about, the term that it wins or what it writes, told by the slice and the reply
    pub step-brings : {A : Type 0} (f : Table → Action → List A)
        → along f (fresh n m R F) (plan ++ (a ∷ [])) ≡ along f (fresh n m R F) plan ++ unless_refused r (f (table_in b) (action_of a)) []
    unfolding along brought_by
    step-brings f = along-append f (fresh n m R F) plan (a ∷ []) ∙ rw (← reached-table h, s.number, reached-whole h, append-nil)

  module _ {p s b' s' : List ℕ} {k : ℕ} (a : RunAnswer b p s k b' s') where
    pub then-run : Reached n m R F (plan ++ pieces k p) (replies ++ take (8 * k) s') b'
    then-run = record { given = h.given; first = h.first; filled = h.filled; calls = ran h.calls a }

    -- no reply that it writes is 24
    pub run-24 : (j : ℕ) → j < k → get_or s' (8 * j) 0 ≢ 24
    run-24 j l e =
        let before = (play (fresh n m R F) plan).replies in
        let place : 8 * (length before + j) ≡ length replies + 8 * j = omega (arith, ap length (reached-replies h), length-bytes before) in
        reached-24 then-run (length before + j)
        (rw place (get_or-append-add replies (take (8 * k) s') (8 * j) 0 ∙ get_or-take (8 * k) s' (8 * j) 0 (omega arith) ∙ e))

    -- what it brings about is what the algorithm's run on the table in the slice does
    pub run-brings : {A : Type 0} (f : Table → Action → List A)
        → along f (fresh n m R F) (plan ++ pieces k p) ≡ along f (fresh n m R F) plan ++ along f (table_in b) (pieces k p)
    run-brings f = along-append f (fresh n m R F) plan (pieces k p) ∙ rw (← reached-table h)

-- ---- an evening and a morning

-- A run of whole actions p, and from what it left, kept as it was, written and read or not, a run of q: one run of both, where it has room
-- for as many replies, leaves the same bytes and has the same replies.
pub evening-morning : {b c d c' d' p q s s' u u' v v' : List ℕ} {k l i : ℕ} → whole b ≡ true → length p ≡ 8 * k → i ≡ k + l
    → RunAnswer b p s k c s' → Calls c [] [] d → RunAnswer d q u l d' u' → RunAnswer b (p ++ q) v i c' v'
    → (take (8 * i) v' ≡ take (8 * k) s' ++ take (8 * l) u') × (c' ≡ d')
evening-morning {p = p} {q} {k = k} {l} {i} w all both e between f one =
    let two = ran (ran none e) (rw (same_bytes (whole-left w (ran none e)) between) at f) in
    same-plan w (rw (pieces-append k l i p q all both) at (ran none one)) two

-- the same with the write and the read spelled out
pub saved-between : {b c d c' d' d'' p q s s' u u' v v' buffer buffer' : List ℕ} {k l i e e' z z' : ℕ} → whole b ≡ true → length p ≡ 8 * k → i ≡ k + l
    → RunAnswer b p s k c s' → WriteAnswer c buffer e 0 buffer' e' → (rest : List ℕ) → ReadAnswer (take e' buffer' ++ rest) d z 0 d' z' → RunAnswer d' q u l d'' u'
    → RunAnswer b (p ++ q) v i c' v' → (take (8 * i) v' ≡ take (8 * k) s' ++ take (8 * l) u') × (c' ≡ d'')
saved-between w all both e written rest read f one = evening-morning w all both e (carried none written rest read) f one

-- ---- there are such calls

steps : (b : List ℕ) (t : Table) → broken t ≡ false → (before : List (List ℕ)) (rs : List ℕ) → Calls b before rs (stored t) → (plan : List (List ℕ))
    → Calls b (before ++ plan) (rs ++ replies_bytes (play t plan).replies) (stored (play t plan).table)
unfolding play replies_bytes flatten
steps b t sound before rs h [] = rw (append-nil before, append-nil rs) h
steps b t sound before rs h (a ∷ plan) =
    let o = step t a in
    let told : ℕ = value_of (reply_bytes (answered o)) in
    let s : StepAnswer (stored t) a o.number told (stored o.table) =
    record {
      number = ap (λ (x : Answer). x.number) (sym (step-reply t sound a));
      reply = ap (λ (x : Answer). value_of (reply_bytes x)) (sym (step-reply t sound a));
      bytes = sym (step-bytes t sound a);
    } in
    rw (← append_assoc before (a ∷ []) plan, ← append_assoc rs (reply_bytes (answered o)) (replies_bytes (play o.table plan).replies))
    (steps b o.table (play-sound t (a ∷ []) sound) (before ++ (a ∷ [])) (rs ++ reply_bytes (answered o)) (rw (carried-eight (step-carried t a)) at (stepped h s)) plan)

-- every list of actions can be judged, by steps alone
pub can-reach : (n m R F : ℕ) {b b' : List ℕ} → FreshAnswer b n m R F 0 b' → (plan : List (List ℕ))
    → Reached n m R F plan (replies_bytes (play (fresh n m R F) plan).replies) (stored (play (fresh n m R F) plan).table)
can-reach n m R F {b} {b'} f plan =
    let t = fresh n m R F in
    record { given = b; first = b'; filled = f; calls = steps b' t (filled-sound f) [] [] (subst (λ (c : List ℕ). Calls b' [] [] c) (filled-bytes f) none) plan }
