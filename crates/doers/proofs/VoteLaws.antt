-- Laws of an election: the voters step down one server after another, and then the winner's row is put. Assumes nothing.
use Prim.Native.Nat.{ℕ, zero, suc, ◌+◌}
use native.Mathlib.Omega.{arith}
use mathlib.Core.Path.{◌≡◌, refl, ap, sym, ◌∙◌}
use mathlib.Core.Bool.{true, false, cond}
use mathlib.Core.List.{List, [], ◌∷◌}
use lib.ListN.{length, get_or, set}
use Rattle.members.specs.Members.{member, within}
use Rattle.words.specs.Lists.{nth, replace}
use Rattle.algorithm.specs.Table.{Server, Table, count, absent, server, with_server, changed, with_role, with_term, with_config, with_servers, config_of}
use Rattle.algorithm.specs.Actions.{stepped_down, voters_from, voted, elect_after}
use Rattle.algorithm.proofs.Seen.{log-voted}
use Rattle.table.specs.Layout.{table_in}
use Rattle.table.specs.Slice.{Holds, Held, Became, Within}
use Rattle.words.proofs.Lists.{replace-nth}
use Rattle.table.proofs.HeldLaws.{its-table, again}

-- ---- one server after another

-- the servers p, p + 1, .., of which the first k have voted
unfoldable pub partly : ℕ → ℕ → ℕ → ℕ → List Server → List Server
partly zero p q v ss = ss
partly (suc k) p q v [] = []
partly (suc k) p q v (s ∷ ss) = cond (member p q) (stepped_down v s) s ∷ partly k (suc p) q v ss

module _ (q v : ℕ) where
  -- the next server is as it was
  next-server : (k p : ℕ) (ss : List Server) → get_or (partly k p q v ss) k absent ≡ get_or ss k absent
  unfolding partly
  next-server zero p ss = refl
  next-server (suc k) p [] = refl
  next-server (suc k) p (s ∷ ss) = next-server k (suc p) ss

  -- and put as its vote says, it is one more that has voted
  next-vote : (k p n : ℕ) (ss : List Server) → n ≡ p + k
      → set (partly k p q v ss) k (cond (member n q) (stepped_down v (get_or ss k absent)) (get_or ss k absent)) ≡ partly (suc k) p q v ss
  unfolding partly
  next-vote zero p n [] e = refl
  next-vote zero p n (s ∷ ss) e = let z : n ≡ p = omega arith in rw z
  next-vote (suc k) p n [] e = refl
  next-vote (suc k) p n (s ∷ ss) e = ap (λ (l : List Server). cond (member p q) (stepped_down v s) s ∷ l) (next-vote k (suc p) n ss (omega arith))

  all-voted : (k p : ℕ) (ss : List Server) → k ≡ length ss → partly k p q v ss ≡ voters_from p q v ss
  unfolding partly voters_from
  all-voted zero p [] e = refl
  all-voted zero p (s ∷ ss) e = absurd (omega arith)
  all-voted (suc k) p [] e = refl
  all-voted (suc k) p (s ∷ ss) e = ap (λ (l : List Server). cond (member p q) (stepped_down v s) s ∷ l) (all-voted k (suc p) ss (omega arith))

-- in the slice b, which was b₀, the servers before s have voted
pub record Voted (b₀ : List ℕ) (q v : ℕ) (b : List ℕ) (s : ℕ) : Type 0 where
  pub voters : ℕ
  pub next : s ≡ suc voters
  pub became : Became b₀ b (with_servers (partly voters 1 q v (table_in b₀).servers) (table_in b₀))

pub voted-none : (b : List ℕ) (q v : ℕ) → Held b → Voted b q v b 1
unfolding partly
voted-none b q v h = record { voters = 0; next = refl; became = record { holds = h; held = h; same = refl } }

module _ (b₀ b : List ℕ) (q v s : ℕ) (h : Voted b₀ q v b s) where
  -- the next server, put as its vote says
  next-put : with_server (table_in b) s (cond (member s q) (stepped_down v (server (table_in b) s)) (server (table_in b) s))
      ≡ with_servers (partly (suc h.voters) 1 q v (table_in b₀).servers) (table_in b₀)
  unfolding nth replace
  next-put =
      let t = table_in b₀ in
      rw (h.next, its-table h.became.holds, next-server q v h.voters 1 t.servers, next-vote q v h.voters 1 (suc h.voters) t.servers (omega arith))

  pub vote-more : (b' : List ℕ) → true ≡ member s q → Became b b' (changed (table_in b) s (stepped_down v)) → Voted b₀ q v b' (s + 1)
  vote-more b' e g =
      record {
        voters = suc h.voters;
        next = omega (arith, h.next);
        became = record { holds = rw (← next-put, ← e) g.holds; held = g.held; same = g.same ∙ h.became.same };
      }

  pub vote-none : false ≡ member s q → Voted b₀ q v b (s + 1)
  vote-none e =
      let same : table_in b ≡ with_servers (partly (suc h.voters) 1 q v (table_in b₀).servers) (table_in b₀) =
      sym (ap (λ (ss : List Server). with_servers ss (table_in b)) (replace-nth (table_in b).servers s absent)) ∙ rw (← e) at next-put in
      record {
        voters = suc h.voters;
        next = omega (arith, h.next);
        became = record { holds = rw (← same) h.became.held; held = h.became.held; same = h.became.same };
      }

-- the last server, n, has voted
pub voted-all : (b₀ b : List ℕ) (q v n s : ℕ) (t : Table) → n ≡ count t → t ≡ table_in b₀ → Voted b₀ q v b s → s ≡ n + 1 → Became b₀ b (voted (table_in b₀) q v)
voted-all b₀ b q v n s t e is h l = rw (← all-voted q v h.voters 1 (table_in b₀).servers (omega (arith, h.next, ap count is))) h.became

-- ---- the winner

pub elect-put : (b b₁ b₂ b₃ : List ℕ) (i q T m v : ℕ) → Within (table_in b) i → within q (count (table_in b)) ≡ true
    → Became b b₁ (voted (table_in b) q (T + 1))
    → Became b₁ b₂ (changed (table_in b₁) i (λ s. with_role 1 (with_term (T + 1) s)))
    → Became b₂ b₃ (changed (table_in b₂) i (with_config (config_of m v (T + 1))))
    → T ≡ (server (table_in b) i).term → m ≡ (server (table_in b) i).config.set → v ≡ (server (table_in b) i).config.version
    → Holds b₃ (elect_after (table_in b) i q)
elect-put b b₁ b₂ b₃ i q T m v w sets h k l et em ev =
    let t = table_in b in
    let here : Within (table_in b₁) i = record { some = w.some; known = omega (arith, w.known, h.same) } in
    let put = (again (λ s. with_role 1 (with_term (T + 1) s)) (with_config (config_of m v (T + 1))) here k l).holds in
    rw (et, em, ev) at (rw (its-table h.holds, log-voted q (T + 1) t (record { yes = rw sets tt }) i) at put)
