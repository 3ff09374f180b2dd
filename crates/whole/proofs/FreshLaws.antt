-- A slice of 0, a number of servers, a rule and a floor holds a blank table, and a blank table whose servers are given one set is a fresh one. Assumes nothing.
use Prim.Native.Nat.{ℕ, zero, suc, ◌+◌, ◌-◌, ◌*◌, ◌≤◌, ◌<◌}
use native.Mathlib.Numerals.{add-one}
use native.Mathlib.Omega.{arith}
use mathlib.Core.Path.{◌≡◌, refl, ap, sym, subst, ◌∙◌}
use mathlib.Core.List.{List, [], ◌∷◌, ◌++◌, append-nil}
use lib.ListN.{length, get_or, set, replicate, length-replicate, replicate-append-replicate}
use lib.Seq.{set_at, get_or_at, append_snoc}
use Rattle.words.specs.Lists.{nth, replace}
use Rattle.algorithm.specs.Table.{Server, Table, count, absent, changed, with_config, fresh_server, fresh, positions, most_servers, with_servers, config_of}
use Rattle.words.specs.Words.{words, Put}
use Rattle.table.specs.Layout.{table_bytes, padded, rows, layout, table_in, row_words, table_words}
use Rattle.table.specs.Slice.{AllRoomy, Holds, Held, Became, blank}
use Rattle.table.proofs.LayoutLaws.{rows_none}
use Rattle.table.proofs.HeldLaws.{its-table}

-- ---- a blank table

words-zero : (k : ℕ) → words (replicate (4 * k) 0) ≡ replicate k 0
unfolding words
words-zero zero = refl
words-zero (suc k) =
    let four : 4 * suc k ≡ suc (suc (suc (suc (4 * k)))) = omega arith in
    rw (four, words-zero k)

-- the row of an absent server is 0
rows-absent : (n k : ℕ) → n ≤ k → rows k (replicate n absent) ≡ rows k []
unfolding rows padded
rows-absent zero k h = refl
rows-absent (suc n) zero h = absurd (omega arith)
rows-absent (suc n) (suc k) h = ap (λ (l : List ℕ). replicate row_words 0 ++ l) (rows-absent n k (omega arith))

layout-blank : (n R F : ℕ) → n ≤ most_servers → set (set (set (replicate table_words 0) 0 n) 1 R) 2 F ≡ layout (blank n R F)
unfolding layout padded
layout-blank n R F h = rw (length-replicate n absent, rows-absent n most_servers h, rows_none most_servers)

roomy-replicate : (n : ℕ) → AllRoomy (replicate n absent)
roomy-replicate zero = tt
roomy-replicate (suc n) = (record { short = omega arith; small = omega arith }, roomy-replicate n)

pub blank-holds : (b b₁ b₂ b₃ b₄ : List ℕ) (n R F : ℕ) → length b ≡ table_bytes → n ≤ most_servers → b₁ ≡ replicate (length b) 0 → Put b₁ b₂ 0 n → Put b₂ b₃ 1 R → Put b₃ b₄ 2 F
    → Holds b₄ (blank n R F)
blank-holds b b₁ b₂ b₃ b₄ n R F z h e p q u =
    let cleared : b₁ ≡ replicate table_bytes 0 = e ∙ ap (λ (k : ℕ). replicate k 0) z in
    record {
      sized = u.sized ∙ q.sized ∙ p.sized ∙ ap length cleared ∙ length-replicate {A = ℕ} table_bytes 0;
      laid =
          u.word
          ∙ ap (λ (l : List ℕ). set l 2 F) (q.word ∙ ap (λ (l : List ℕ). set l 1 R) (p.word ∙ ap (λ (l : List ℕ). set l 0 n) (ap words cleared ∙ words-zero table_words)))
          ∙ layout-blank n R F h;
      shaped = record { few = omega (arith, length-replicate n absent); roomy = roomy-replicate n; marked = length-replicate {A = ℕ} positions 0 };
    }

-- ---- a fresh table

-- the table with n servers, of which the first k have the set m and nothing is known of the others
abbrev partly : Table → ℕ → ℕ → ℕ → Table
partly t n m k = with_servers (replicate k (fresh_server m) ++ replicate (n - k) absent) t

-- of the n servers of the table in the slice d, which has become b, the first k have the set m
pub record Given (d b : List ℕ) (n m k : ℕ) : Type 0 where
  pub became : Became d b (partly (table_in d) n m k)
  pub all : count (table_in d) ≡ n

-- one server more
partly-next : (t : Table) (n m k : ℕ) → k < n → changed (partly t n m k) (k + 1) (with_config (config_of m 1 0)) ≡ partly t n m (k + 1)
unfolding nth replace
partly-next t n m k h =
    let F = fresh_server m in
    let front = replicate k F in
    let rest = replicate (n - suc k) absent in
    let left : n - k ≡ suc (n - suc k) = omega arith in
    let there : get_or (front ++ (absent ∷ rest)) k absent ≡ absent = get_or_at front absent rest absent k (length-replicate k F) in
    let put : set (front ++ (absent ∷ rest)) k F ≡ front ++ (F ∷ rest) = set_at front absent rest F k (length-replicate k F) in
    let longer : front ++ (F ∷ rest) ≡ replicate (suc k) F ++ rest =
    sym (append_snoc front F rest) ∙ ap (λ (l : List Server). l ++ rest) (replicate-append-replicate k 1 F ∙ ap (λ (j : ℕ). replicate j F) (add-one k)) in
    rw (add-one k, left, there, put, longer)

pub given-none : (b : List ℕ) (n m : ℕ) → Held b → (table_in b).servers ≡ replicate n absent → Given b b n m 0
given-none b n m h e =
    let left : n - 0 ≡ n = omega arith in
    record {
      became = record {
        holds = subst (λ (ss : List Server). Holds b (with_servers ss (table_in b))) (e ∙ ap (λ (j : ℕ). replicate j absent) (sym left)) h;
        held = h;
        same = refl;
      };
      all = ap length e ∙ length-replicate n absent;
    }

module _ (d b : List ℕ) (n m k : ℕ) (g : Given d b n m k) where
  pub given-more : (b' : List ℕ) → k < n → Became b b' (changed (table_in b) (k + 1) (with_config (config_of m 1 0))) → Given d b' n m (k + 1)
  given-more b' h c =
      record {
        became = record {
          holds = subst (λ (t : Table). Holds b' t) (partly-next (table_in d) n m k h) (rw (its-table g.became.holds) at c.holds);
          held = c.held;
          same = c.same ∙ g.became.same;
        };
        all = g.all;
      }

  pub given-all : k ≤ n → n ≤ k → Holds b (with_servers (replicate n (fresh_server m)) (table_in d))
  given-all l h =
      let all : k ≡ n = omega arith in
      let none : n - k ≡ 0 = omega arith in
      let every : (partly (table_in d) n m k).servers ≡ replicate n (fresh_server m) =
      ap (λ (j : ℕ). replicate k (fresh_server m) ++ replicate j absent) none
      ∙ append-nil (replicate k (fresh_server m))
      ∙ ap (λ (j : ℕ). replicate j (fresh_server m)) all in
      subst (λ (ss : List Server). Holds b (with_servers ss (table_in d))) every g.became.holds

-- a blank table, and what it is once its servers are given a set
module _ (b : List ℕ) (n R F : ℕ) (h : Holds b (blank n R F)) where
  pub blank-servers : (table_in b).servers ≡ replicate n absent
  blank-servers = ap (λ (t : Table). t.servers) (its-table h)

  pub given-fresh : (b' : List ℕ) (m : ℕ) → Holds b' (with_servers (replicate n (fresh_server m)) (table_in b)) → Holds b' (fresh n m R F)
  given-fresh b' m g = rw (its-table h) at g
