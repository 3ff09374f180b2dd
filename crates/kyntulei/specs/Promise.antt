-- What the exported functions answer and leave, computed from the bytes that they are given, and the slices that calls lead to. Assumes nothing.
use Rattle.std.specs.Prelude.{ℕ, ◌*◌, ◌<◌, cond, not, ◌||◌, List, [], ◌∷◌, ◌++◌, ◌≡◌, eqb, length, drop, replicate, take, Result, Ok, Err}
use Rattle.words.specs.Words.{value_of, eight}
use Rattle.words.specs.Refusal.{nothing, Refusal, refuse, first, Answer, answer, unless_refused}
use Rattle.members.specs.Members.{within}
use Rattle.algorithm.specs.declared.Refused.{Refused}
use Rattle.algorithm.specs.Table.{sound_count, sound_rule, sound_floor, fresh}
use Rattle.algorithm.specs.Run.{told, reply_bytes, replies_bytes, answered, step, run_to, pieces}
use Rattle.table.specs.Layout.{table_bytes, stored, table_in, whole}
use Rattle.engine.specs.Engine.{played}
use Rattle.reader.specs.Reader.{ReadAnswer}
use Rattle.writer.specs.Writer.{WriteAnswer}

-- ---- an answer that tells of a place

-- its number, 0 where nothing is refused
abbrev pub place_number : Result ℕ Refused → ℕ
place_number (Ok k) = 0
place_number (Err r) = (told r).number

-- the place that it tells; refused, e as it was
abbrev pub place_after : Result ℕ Refused → ℕ → ℕ
place_after (Ok k) e = k
place_after (Err r) e = e

-- ---- a fresh table of n servers with the set m, under the rule R and with the floor F, into the slice b

-- in this order: 1 for another length, a rule above 1 or a floor above 16, 32 for n outside 1 to 16, 5 for an empty set or one with a bit above n
abbrev pub fresh_refusals : List ℕ → ℕ → ℕ → ℕ → ℕ → List Refusal
fresh_refusals b n m R F =
    refuse 1 (not (eqb (length b) table_bytes) || not (sound_rule R) || not (sound_floor F))
    ∷ refuse 32 (not (sound_count n))
    ∷ refuse 5 (not (within m n))
    ∷ []

-- the first of them, or 0
abbrev pub fresh_reply : List ℕ → ℕ → ℕ → ℕ → ℕ → ℕ
fresh_reply b n m R F = first (fresh_refusals b n m R F)

-- the slice afterwards: the bytes of a fresh table, or as it was
abbrev pub fresh_bytes : List ℕ → ℕ → ℕ → ℕ → ℕ → List ℕ
fresh_bytes b n m R F = unless_refused (fresh_reply b n m R F) (stored (fresh n m R F)) b

-- the reply r, and the slice b' at exit
pub record FreshAnswer (b : List ℕ) (n m R F r : ℕ) (b' : List ℕ) : Type 0 where
  pub reply : r ≡ fresh_reply b n m R F
  pub bytes : b' ≡ fresh_bytes b n m R F

-- ---- the action a on the slice b

-- the algorithm's answer, or 1
abbrev pub step_reply : List ℕ → List ℕ → Answer
step_reply b a = cond (whole b) (answered (step (table_in b) a)) (answer 1 nothing)

-- the slice afterwards: the bytes of the algorithm's table, or as it was
abbrev pub step_bytes : List ℕ → List ℕ → List ℕ
step_bytes b a = cond (whole b) (stored (step (table_in b) a).table) b

-- the number r, the eight bytes of the reply as the number w, and the slice b' at exit
pub record StepAnswer (b a : List ℕ) (r w : ℕ) (b' : List ℕ) : Type 0 where
  pub number : r ≡ (step_reply b a).number
  pub reply : w ≡ value_of (reply_bytes (step_reply b a))
  pub bytes : b' ≡ step_bytes b a

-- ---- the plan p on the slice b, with room for the replies in the slice r

-- the replies of the pieces that are played, each 1 on a broken table
abbrev pub run_answers : List ℕ → List ℕ → List ℕ → List Answer
run_answers b p r = cond (whole b) (run_to (played p r) (table_in b) p).replies (replicate (played p r) (answer 1 nothing))

-- their bytes; behind them r as it was
abbrev pub run_replies : List ℕ → List ℕ → List ℕ → List ℕ
run_replies b p r = replies_bytes (run_answers b p r) ++ drop (8 * played p r) r

-- the slice afterwards: the bytes of the last table, or as it was
abbrev pub run_bytes : List ℕ → List ℕ → List ℕ → List ℕ
run_bytes b p r = cond (whole b) (stored (run_to (played p r) (table_in b) p).table) b

-- k pieces are played; the slice b' and the replies r' at exit
pub record RunAnswer (b p r : List ℕ) (k : ℕ) (b' r' : List ℕ) : Type 0 where
  pub count : k ≡ played p r
  pub replies : r' ≡ run_replies b p r
  pub bytes : b' ≡ run_bytes b p r

-- Calls one after another, from the slice b: the actions that were judged, the bytes of the replies to them, and the slice that is left.
pub data Calls (b : List ℕ) : List (List ℕ) → List ℕ → List ℕ → Type 0 where
  none : Calls b [] [] b
  -- a step judges its action, and the reply is told as a number
  stepped : {plan : List (List ℕ)} {replies c a c' : List ℕ} {r w : ℕ} → Calls b plan replies c
      → StepAnswer c a r w c' → Calls b (plan ++ (a ∷ [])) (replies ++ eight w) c'
  -- a run judges k pieces of its plan, a short last one among them, and their replies stand first in its buffer
  ran : {plan : List (List ℕ)} {replies c p s c' s' : List ℕ} {k : ℕ} → Calls b plan replies c
      → RunAnswer c p s k c' s' → Calls b (plan ++ pieces k p) (replies ++ take (8 * k) s') c'
  -- the slice is written into a buffer, and what was written, with any bytes behind it, is read into a slice: that one goes on
  carried : {plan : List (List ℕ)} {replies c buffer buffer' d d' : List ℕ} {e e' z z' : ℕ} → Calls b plan replies c
      → WriteAnswer c buffer e 0 buffer' e' → (rest : List ℕ) → ReadAnswer (take e' buffer' ++ rest) d z 0 d' z' → Calls b plan replies d'
  -- something is read into the slice, or a fresh table asked for in it, and refused
  unread : {plan : List (List ℕ)} {replies c c' : List ℕ} {r : ℕ} → Calls b plan replies c
      → (im : List ℕ) (e e' : ℕ) → ReadAnswer im c e r c' e' → 0 < r → Calls b plan replies c'
  unfilled : {plan : List (List ℕ)} {replies c c' : List ℕ} {r : ℕ} → Calls b plan replies c
      → (n m R F : ℕ) → FreshAnswer c n m R F r c' → 0 < r → Calls b plan replies c'

-- A slice is filled with a fresh table of n servers with the set m, under the rule R and with the floor F, and calls lead from it to the slice b.
pub record Reached (n m R F : ℕ) (plan : List (List ℕ)) (replies b : List ℕ) : Type 0 where
  pub given : List ℕ
  pub first : List ℕ
  pub filled : FreshAnswer given n m R F 0 first
  pub calls : Calls first plan replies b
