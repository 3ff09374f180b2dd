-- A slice that is filled body by body holds the table read. Assumes nothing.
use Prim.Native.Nat.{ℕ, zero, suc, ◌+◌, ◌-◌, ◌*◌, ◌/◌, ◌≤◌, ◌<◌}
use native.Mathlib.Numerals.{add-one}
use native.Mathlib.Omega.{arith}
use mathlib.Core.Path.{◌≡◌, refl, ap, sym, subst, ◌∙◌}
use mathlib.Core.List.{List, [], ◌∷◌, ◌++◌, append-nil}
use lib.ListN.{length, get_or, set, take, replicate, length-append, length-replicate}
use lib.Seq.{take_all, take-suc, length-take-le, set_at, get_or_at, append_snoc}
use Rattle.words.specs.Lists.{nth, replace}
use Rattle.algorithm.specs.Table.{Config, entry_of, no_entry, Log, Server, Table, absent, server, term_at, bake_at, with_marks, with_server, changed, with_mark, with_role, with_term, with_config, with_log, with_entry, positions, with_servers, config_of}
use Rattle.words.specs.Words.{words}
use Rattle.words.proofs.WordLaws.{length-words}
use Rattle.table.specs.Slice.{figures_of, figured, Holds, Held, Became, Within, blank}
use Rattle.table.specs.declared.figures.Figures.{Figures}
use Rattle.table.specs.Layout.{padded, table_in}
use Rattle.words.proofs.Lists.{replace-nth, nth-replaced}
use Rattle.table.proofs.HeldLaws.{its-table, again}
use Rattle.image.specs.Contents.{count_in, wide_in, rule_in, floor_in, body, marks_in, server_in, Sized}
use Rattle.image.proofs.LogLaws.{log-short}
use Rattle.reader.specs.Reader.{servers_to, read_table, unread}

-- one change after another
onward : {b b₁ b₂ : List ℕ} {t : Table} (f : Table → Table) → Became b b₁ t → Became b₁ b₂ (f (table_in b₁)) → Became b b₂ (f t)
onward {b} {b₁} {b₂} {t} f p q =
    record { holds = subst (λ (x : Table). Holds b₂ (f x)) (its-table p.holds) q.holds; held = q.held; same = q.same ∙ p.same }

-- what has not changed
stays : {b : List ℕ} {t : Table} → Held b → table_in b ≡ t → Became b b t
stays {b} h e = record { holds = subst (λ (x : Table). Holds b x) e h; held = h; same = refl }

-- ---- a log

-- the first k entries of the body d are put
pub record Logged (b₀ b : List ℕ) (s w : ℕ) (d : List ℕ) (k : ℕ) : Type 0 where
  pub became : Became b₀ b (changed (table_in b₀) s (with_log (take k (server_in w d).log)))

module _ (b₀ b d : List ℕ) (s w : ℕ) where
  pub log-none : Held b → (server (table_in b) s).log ≡ [] → Logged b b s w d 0
  log-none h e =
      let t = table_in b in
      let empty : t.servers ≡ replace t.servers s (with_log [] (server t s)) =
      sym (replace-nth t.servers s absent) ∙ ap (λ (l : Log). replace t.servers s (with_log l (server t s))) e in
      record { became = stays h (λ i. with_servers (empty i) t) }

  module _ (n k : ℕ) (many : n ≡ length (server_in w d).log) (g : Logged b₀ b s w d k) where
    pub log-room : Within (table_in b₀) s → k < n → Sized w 1 d → length (server (table_in b) s).log < positions
    log-room v h z =
        let l = (server_in w d).log in
        let t = table_in b₀ in
        let here : server (table_in b) s ≡ with_log (take k l) (server t s) =
        ap (λ (x : Table). server x s) (its-table g.became.holds) ∙ nth-replaced t.servers s _ absent v.some v.known in
        rw here (omega (arith, length-take-le k l (omega arith), log-short d w z))

    pub log-more : (b' : List ℕ) (T B : ℕ) → Within (table_in b₀) s → k < n → T ≡ term_at (server_in w d).log (k + 1) → B ≡ bake_at (server_in w d).log (k + 1)
        → Became b b' (changed (table_in b) s (with_entry (entry_of T B))) → Logged b₀ b' s w d (k + 1)
    unfolding nth
    log-more b' T B v h et eb c =
        let l = (server_in w d).log in
        let read : entry_of T B ≡ get_or l k no_entry = λ i. entry_of ((rw add-one at et) i) ((rw add-one at eb) i) in
        let longer : take k l ++ (entry_of T B ∷ []) ≡ take (k + 1) l = rw (read, add-one) (sym (take-suc l k no_entry (omega arith))) in
        record {
          became =
              subst (λ (m : Log). Became b₀ b' (changed (table_in b₀) s (with_log m))) longer
              (again (with_log (take k l)) (with_entry (entry_of T B)) v g.became c);
        }

-- ---- a server

pub figures-put : (b b₁ b₂ b₃ : List ℕ) (s : ℕ) (f : Figures) → Within (table_in b) s → Became b b₁ (changed (table_in b) s (with_role f.role))
    → Became b₁ b₂ (changed (table_in b₁) s (with_term f.term.0))
    → Became b₂ b₃ (changed (table_in b₂) s (with_config (config_of f.set f.version.0 f.config.0)))
    → Became b b₃ (with_server (table_in b) s (figured f (server (table_in b) s).log))
figures-put b b₁ b₂ b₃ s f w p q u =
    let C : Config = config_of f.set f.version.0 f.config.0 in
    again (λ x. with_term f.term.0 (with_role f.role x)) (with_config C) w (again (with_role f.role) (with_term f.term.0) w p q) u

pub server-filled : (b b₁ b₂ d : List ℕ) (s w : ℕ) (f : Figures) → Within (table_in b) s → Became b b₁ (changed (table_in b) s (with_log (server_in w d).log))
    → f ≡ figures_of (server_in 0 d) → Became b₁ b₂ (with_server (table_in b₁) s (figured f (server (table_in b₁) s).log))
    → Became b b₂ (with_server (table_in b) s (server_in w d))
server-filled b b₁ b₂ d s w f v p e q =
    rw e at (again (with_log (server_in w d).log) (λ x. figured f x.log) v p q)

-- ---- the marks

-- the first k marks of the body d are put
pub record Marking (b₀ b d : List ℕ) (k : ℕ) : Type 0 where
  pub became : Became b₀ b (with_marks (padded positions (take k (words d))) (table_in b₀))

padded-more : (n : ℕ) (w : List ℕ) (k : ℕ) → k < n → k < length w → set (padded n (take k w)) k (get_or w k 0) ≡ padded n (take (suc k) w)
unfolding padded
padded-more zero w k h l = absurd (omega arith)
padded-more (suc n) [] k h l = absurd (omega arith)
padded-more (suc n) (x ∷ w) zero h l = refl
padded-more (suc n) (x ∷ w) (suc k) h l = ap (λ (m : List ℕ). x ∷ m) (padded-more n w k (omega arith) (omega arith))

module _ (b₀ b d : List ℕ) where
  pub marks-none : Held b → (table_in b).marks ≡ replicate positions 0 → Marking b b d 0
  unfolding padded
  marks-none h e = record { became = stays h (λ i. with_marks (e i) (table_in b)) }

  module _ (k : ℕ) (g : Marking b₀ b d k) where
    pub marks-more : (b' : List ℕ) (v : ℕ) → k < length d / 4 → length d ≤ 4 * positions → v ≡ get_or (words d) k 0
        → Became b b' (with_mark (table_in b) (k + 1) v) → Marking b₀ b' d (k + 1)
    unfolding replace
    marks-more b' v h l e c =
        let P = padded positions (take k (words d)) in
        let longer : replace P (k + 1) v ≡ padded positions (take (k + 1) (words d)) =
        rw (e, add-one) (padded-more positions (words d) k (omega arith) (omega (arith, length-words d))) in
        record {
          became =
              subst (λ (m : List ℕ). Became b₀ b' (with_marks m (table_in b₀))) longer (onward (λ x. with_mark x (k + 1) v) g.became c);
        }

    pub marks-all : length d / 4 ≤ k → Became b₀ b (with_marks (marks_in d) (table_in b₀))
    marks-all h = rw (take_all k (words d) (omega (arith, length-words d))) at g.became

-- ---- the servers

-- the table read, of whose servers all but the first k are absent
abbrev partly : List ℕ → ℕ → Table
partly im k = with_servers (servers_to k im ++ replicate (count_in im - k) absent) (read_table im)

-- all servers before s are filled
pub record Filled (im b : List ℕ) (s : ℕ) : Type 0 where
  pub filled : ℕ
  pub next : s ≡ filled + 1
  pub within : filled ≤ count_in im
  pub holds : Holds b (partly im filled)

pub length-servers : (k : ℕ) (im : List ℕ) → length (servers_to k im) ≡ k
unfolding servers_to
length-servers zero im = refl
length-servers (suc k) im = length-append (servers_to k im) _ ∙ rw (length-servers k im, add-one)

pub filled-none : (im b : List ℕ) → Holds b (unread im) → Filled im b 1
unfolding servers_to unread
filled-none im b h =
    let all : count_in im - 0 ≡ count_in im = omega arith in
    record { filled = 0; next = refl; within = omega arith; holds = rw all h }

module _ (im b : List ℕ) (n s : ℕ) (e : n ≡ count_in im) (g : Filled im b s) where
  abbrev k : ℕ
  k = g.filled

  pub filled_within : s ≤ n → Within (table_in b) s
  filled_within h =
      record {
        some = omega (arith, g.next);
        known =
            rw (its-table g.holds)
            (simp (length-append, length-replicate) (omega (arith, length-servers k im, g.within, g.next)));
      }

  pub filled-empty : s ≤ n → (server (table_in b) s).log ≡ []
  unfolding nth
  filled-empty h =
      let left : count_in im - k ≡ suc (count_in im - suc k) = omega (arith, g.next) in
      rw (its-table g.holds, g.next, add-one k, left, get_or_at (servers_to k im) absent (replicate (count_in im - suc k) absent) absent k (length-servers k im))

  pub filled_more : (b' d : List ℕ) → s ≤ n → d ≡ body im s → Became b b' (with_server (table_in b) s (server_in (wide_in im) d)) → Filled im b' (s + 1)
  unfolding replace servers_to
  filled_more b' d h p c =
      let a = server_in (wide_in im) (body im (suc k)) in
      let front = servers_to k im in
      let rest = replicate (count_in im - suc k) absent in
      let left : count_in im - k ≡ suc (count_in im - suc k) = omega (arith, g.next) in
      let next : with_server (partly im k) (k + 1) (server_in (wide_in im) (body im (k + 1))) ≡ partly im (k + 1) =
      rw (add-one k, left, set_at front absent rest a k (length-servers k im), append_snoc front a rest) in
      let its : d ≡ body im (k + 1) = p ∙ ap (body im) g.next in
      let here : with_server (table_in b) s (server_in (wide_in im) d) ≡ with_server (partly im k) (k + 1) (server_in (wide_in im) (body im (k + 1))) =
      λ i. with_server (its-table g.holds i) (g.next i) (server_in (wide_in im) (its i)) in
      record {
        filled = k + 1;
        next = omega (arith, g.next);
        within = omega (arith, g.next);
        holds = subst (λ (t : Table). Holds b' t) (here ∙ next) c.holds;
      }

  -- the last one
  pub filled-last : (b' d : List ℕ) → s ≤ n → n ≤ s → d ≡ body im s → Became b b' (with_server (table_in b) s (server_in (wide_in im) d)) → Holds b' (read_table im)
  filled-last b' d h l p c =
      let f = filled_more b' d h p c in
      let all : f.filled ≡ count_in im = omega (arith, f.next, f.within) in
      let none : count_in im - f.filled ≡ 0 = omega arith in
      let every : (partly im f.filled).servers ≡ (read_table im).servers =
      ap (λ (j : ℕ). servers_to f.filled im ++ replicate j absent) none ∙ append-nil _ ∙ ap (λ (j : ℕ). servers_to j im) all in
      subst (λ (ss : List Server). Holds b' (with_servers ss (read_table im))) every f.holds

-- ---- the marks among a blank table

pub blank-marks : (b : List ℕ) (n R F : ℕ) → Holds b (blank n R F) → (table_in b).marks ≡ replicate positions 0
blank-marks b n R F h = ap (λ (t : Table). t.marks) (its-table h)

pub marks-unread : (im b b' d : List ℕ) → Holds b (blank (count_in im) (rule_in im) (floor_in im)) → d ≡ body im 0
    → Became b b' (with_marks (marks_in d) (table_in b))
    → Holds b' (unread im)
unfolding unread
marks-unread im b b' d h p c = rw (its-table h, p) at c.holds
