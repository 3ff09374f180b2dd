-- Laws of a run: nothing played, one piece more, and all of them. Assumes nothing.
use Prim.Native.Nat.{ℕ, ◌+◌, ◌*◌, ◌≤◌, ◌<◌, min}
use mathlib.Core.Path.{◌≡◌, refl, sym, ap, ◌∙◌}
use mathlib.Core.List.{List, [], ◌∷◌, ◌++◌, append_assoc, flatten}
use native.Mathlib.Omega.{arith}
use lib.ListN.{length, take, drop, replicate, length-replicate, replicate-append-replicate}
use lib.Seq.{take_at, drop-drop, drop-append-add}
use Rattle.words.specs.Words.{bytes, value_of, eight, put_eight}
use Rattle.words.specs.Refusal.{nothing, Answer, answer}
use Rattle.std.specs.Prelude.{Result, Err}
use Rattle.algorithm.specs.declared.Refused.{Refused}
use Rattle.algorithm.specs.declared.Refused.TheVariants.{Broken}
use Rattle.algorithm.specs.Run.{answer_of, reply_bytes, replies_bytes, answered, step, play, pieces, run_to}
use Rattle.algorithm.proofs.Replies.{step-carried, carried-eight, length-bytes, bytes-append}
use Rattle.algorithm.proofs.Runs.{run-next, replies-count}
use Rattle.table.specs.Layout.{table_in}
use Rattle.table.specs.Slice.{Holds}
use Rattle.table.proofs.HeldLaws.{its-table}
use Rattle.walk.specs.Plan.{behind}
use Rattle.walk.proofs.Laws.{behind-is}
use Rattle.engine.specs.Engine.{Ready, Stepped, played, Played, AllRefused}
use Rattle.engine.proofs.StepLaws.{step-answer}

-- from the slice b₀, k pieces of the plan p are played: the slice is b, and the next piece is at `at`
pub record Ran (b₀ p b : List ℕ) (at k : ℕ) : Type 0 where
  pub table : Holds b (run_to k (table_in b₀) p).table
  pub ready : Ready b
  pub place : at ≡ min (8 * k) (length p)

-- they are answered: the replies were r₀, and are r
pub record Replied (b₀ p r₀ r : List ℕ) (k : ℕ) : Type 0 where
  pub replies : r ≡ replies_bytes (run_to k (table_in b₀) p).replies ++ drop (8 * k) r₀

pub ran-none : (b p : List ℕ) (at : ℕ) → Ready b → at ≡ 0 → Ran b p b at 0
unfolding play pieces
ran-none b p at h e = record { table = h.held; ready = h; place = omega arith }

pub replied-none : (b p r : List ℕ) → Replied b p r r 0
unfolding play pieces replies_bytes flatten
replied-none b p r = record { replies = refl }

-- a reply more
reply-more : (rs : List Answer) (r : List ℕ) (k v : ℕ) (x : Answer) → length rs ≡ k → 8 * k + 8 ≤ length r → eight v ≡ reply_bytes x
    → put_eight (replies_bytes rs ++ drop (8 * k) r) k v ≡ replies_bytes (rs ++ (x ∷ [])) ++ drop (8 * (k + 1)) r
unfolding replies_bytes flatten
reply-more rs r k v x e h f =
    let l = replies_bytes rs in
    let long : length l ≡ 8 * k = omega (arith, length-bytes rs) in
    let next : 8 * (k + 1) ≡ 8 * k + 8 = omega arith in
    let before : take (8 * k) (l ++ drop (8 * k) r) ≡ l = take_at l (drop (8 * k) r) (8 * k) long in
    let behind : drop (8 * k + 8) (l ++ drop (8 * k) r) ≡ drop (8 * k + 8) r =
    ap (λ (n : ℕ). drop (n + 8) (l ++ drop (8 * k) r)) (sym long) ∙ drop-append-add l (drop (8 * k) r) 8 ∙ drop-drop 8 (8 * k) r in
    rw (before, behind, f, next, bytes-append rs (x ∷ [])) (sym (append_assoc l (reply_bytes x) (drop (8 * k + 8) r)))

module _ (b₀ p r₀ b : List ℕ) (at k end n : ℕ) (y : Result ℕ Refused) (a b' : List ℕ) (h : Ran b₀ p b at k) (few : n ≡ played p r₀) (l : k < n)
    (q : List ℕ) (of : q ≡ p) (e : end ≡ behind q at) (is : a ≡ take 8 (drop at q)) (s : Stepped b a y b') where
  same : table_in b ≡ (run_to k (table_in b₀) p).table
  same = its-table h.table

  mine : a ≡ take 8 (drop (8 * k) p)
  mine =
      let here : at ≡ 8 * k = omega (arith, h.place) in
      is ∙ ap (λ (l : List ℕ). take 8 (drop at l)) of ∙ ap (λ (n : ℕ). take 8 (drop n p)) here

  moved : end ≡ min (at + 8) (length p)
  moved = e ∙ ap (λ (l : List ℕ). behind l at) of ∙ behind-is p at (omega (arith, h.place))

  pub ran-more : Ran b₀ p b' end (k + 1)
  ran-more = record { table = rw (run-next k (table_in b₀) p, ← same, ← mine) s.table; ready = s.ready; place = omega (arith, h.place, moved) }

  pub replied-more : (r r' : List ℕ) (v : ℕ) → Replied b₀ p r₀ r k → v ≡ value_of (reply_bytes (answer_of y)) → r' ≡ put_eight r k v → Replied b₀ p r₀ r' (k + 1)
  replied-more r r' v told is-reply w =
      let o = step (run_to k (table_in b₀) p).table (take 8 (drop (8 * k) p)) in
      let carried : eight v ≡ reply_bytes (answered o) = rw (← same, ← mine) (ap eight (is-reply ∙ ap (λ (x : Answer). value_of (reply_bytes x)) (step-answer s)) ∙ carried-eight (step-carried (table_in b) a)) in
      record {
        replies =
            w ∙ ap (λ (l : List ℕ). put_eight l k v) told.replies
            ∙ reply-more (run_to k (table_in b₀) p).replies r₀ k v (answered o) (replies-count k (table_in b₀) p) (omega arith) carried
            ∙ rw (run-next k (table_in b₀) p);
      }

pub ran-all : (b₀ p r₀ b r : List ℕ) (at k n : ℕ) → Ran b₀ p b at k → Replied b₀ p r₀ r k → n ≡ played p r₀ → k ≤ n → n ≤ k
    → Played b₀ p r₀ n b r
ran-all b₀ p r₀ b r at k n h q e l m =
    let z : k ≡ played p r₀ = omega arith in
    record { count = e; replies = rw z at q.replies; table = rw z at h.table }

-- ---- every piece refused

-- the first k replies are 1, and the rest as it was
pub record Ones (r₀ r : List ℕ) (k : ℕ) : Type 0 where
  pub all : r ≡ replies_bytes (replicate k (answer 1 nothing)) ++ drop (8 * k) r₀

pub ones_none : (r : List ℕ) → Ones r r 0
unfolding replies_bytes flatten
ones_none r = record { all = refl }

pub ones-more : (p r₀ r r' : List ℕ) (k n v : ℕ) → Ones r₀ r k → n ≡ played p r₀ → k < n → v ≡ value_of (reply_bytes (answer_of (Err Broken)))
    → r' ≡ put_eight r k v → Ones r₀ r' (k + 1)
unfolding bytes value_of
ones-more p r₀ r r' k n v h e l one w = record {
  all =
      w ∙ ap (put_eight r k) one ∙ ap (λ (l : List ℕ). put_eight l k 1) h.all ∙ reply-more (replicate k (answer 1 nothing)) r₀ k 1 (answer 1 nothing) (length-replicate k (answer 1 nothing)) (omega arith) refl
      ∙ ap (λ (l : List Answer). replies_bytes l ++ drop (8 * (k + 1)) r₀) (replicate-append-replicate k 1 (answer 1 nothing));
}

pub ones-all : (p r₀ r : List ℕ) (k n : ℕ) → Ones r₀ r k → n ≡ played p r₀ → k ≤ n → n ≤ k
    → AllRefused p r₀ n r
ones-all p r₀ r k n h e l m = let z : k ≡ played p r₀ = omega arith in record { count = e; replies = rw z at h.all }
