-- The rules of a table one by one, and what may be put into a table that keeps them. Assumes nothing.
use Prim.Native.Nat.{ℕ, suc, ◌≤◌}
use mathlib.Core.Bool.{Bool, cond, ◌||◌, ◌&&◌}
use mathlib.Core.List.{List, [], ◌∷◌}
use mathlib.Core.Logic.{◌⊎◌, inl, inr, ⊎_elim}
use mathlib.Core.Path.{◌≡◌, refl, sym, ◌∙◌, subst}
use native.Mathlib.Omega.{arith}
use lib.Dec.{leb}
use lib.ListN.{length}
use Rattle.members.specs.Members.{member, within}
use Rattle.words.proofs.Tests.{Passes, Fails, both, together, either, first_of, second-of, refuted, unrefuted, equal, at_most, is-equal, is-at-most}
use Rattle.words.specs.Lists.{replace, every}
use Rattle.algorithm.specs.Table.{Config, Server, Table, count, absent, server, primary, secondary, with_servers, with_server, with_mark, ceiling, positions, sound_config, sound_entry, sound_server, broken, most_servers}
use Rattle.algorithm.specs.Actions.{stepped_down, voters_from, voted}
use Rattle.algorithm.specs.Run.{known}
use Rattle.words.proofs.Choice.{cond-elim}
use Rattle.words.proofs.Lists.{length-replace, every-cons, cons-every, every-nth, every-replace}
use Rattle.algorithm.proofs.Seen.{known-range, count-voted}

-- ---- one rule after another

pub record SoundConfig (n : ℕ) (C : Config) : Type 0 where
  pub set : Passes (within C.set n)
  pub some : 1 ≤ C.version
  pub version : C.version ≤ ceiling
  pub term : C.term ≤ ceiling

pub record SoundServer (n : ℕ) (s : Server) : Type 0 where
  pub role : ((s.role ≡ 1) × (1 ≤ s.term)) ⊎ (s.role ≡ 0)
  pub term : s.term ≤ ceiling
  pub config : SoundConfig n s.config
  pub short : length s.log ≤ positions
  pub entries : Passes (every sound_entry s.log)

pub record SoundTable (t : Table) : Type 0 where
  pub some : 1 ≤ count t
  pub few : count t ≤ most_servers
  pub servers : Passes (every (sound_server (count t)) t.servers)
  pub full : length t.marks ≡ positions
  pub marks : Passes (every (λ m. leb m ceiling) t.marks)
  pub rule : t.rule ≤ 1
  pub floor : t.floor ≤ most_servers

config-sound : {n : ℕ} {C : Config} → Passes (sound_config n C) → SoundConfig n C
config-sound h =
    let (abc, d) = both h in
    let (a, bc) = both abc in
    let (b, c) = both bc in
    record { set = a; some = at_most b; version = at_most c; term = at_most d }

sound-config : {n : ℕ} {C : Config} → SoundConfig n C → Passes (sound_config n C)
sound-config h =
    together (together h.set (together (is-at-most h.some) (is-at-most h.version))) (is-at-most h.term)

pub server-sound : {n : ℕ} {s : Server} → Passes (sound_server n s) → SoundServer n s
server-sound h =
    let (abcd, e) = both h in
    let (abc, d) = both abcd in
    let (ab, c) = both abc in
    let (a, b) = both ab in
    record {
      role = ⊎_elim (λ r. let (p, l) = both r in inl (equal p, at_most l)) (λ r. inr (equal r)) (either a);
      term = at_most b;
      config = config-sound c;
      short = at_most d;
      entries = e;
    }

pub sound-server : {n : ℕ} {s : Server} → SoundServer n s → Passes (sound_server n s)
sound-server {n} {s} h =
    let leads : Bool = primary s && leb 1 s.term in
    let role : Passes (leads || secondary s) =
    ⊎_elim (λ (p, l). first_of (secondary s) (together (is-equal p) (is-at-most l))) (λ p. second-of leads (is-equal p)) h.role in
    together (together (together (together role (is-at-most h.term)) (sound-config h.config)) (is-at-most h.short)) h.entries

pub table-sound : {t : Table} → Fails (broken t) → SoundTable t
unfolding broken
table-sound h =
    let (abcde, f) = both (refuted h) in
    let (abcd, e) = both abcde in
    let (abc, marks) = both abcd in
    let (ab, c) = both abc in
    let (a, b) = both ab in
    let (full, d) = both marks in
    record { some = at_most a; few = at_most b; servers = c; full = equal full; marks = d; rule = at_most e; floor = at_most f }

pub sound-table : {t : Table} → SoundTable t → Fails (broken t)
unfolding broken
sound-table h =
    unrefuted
    (together
    (together
    (together (together (together (is-at-most h.some) (is-at-most h.few)) h.servers) (together (is-equal h.full) h.marks))
    (is-at-most h.rule))
    (is-at-most h.floor))

pub here-sound : {t : Table} → SoundTable t → (i : ℕ) → Passes (known (count t) i) → SoundServer (count t) (server t i)
here-sound {t} h i k = let (a, b) = known-range k in server-sound (every-nth (sound_server (count t)) t.servers i absent h.servers a b)

-- ---- what is put into a table

module _ {t : Table} (h : SoundTable t) where
  -- as many servers, each as sound
  pub others-sound : (l : List Server) → length l ≡ count t → Passes (every (sound_server (count t)) l) → SoundTable (with_servers l t)
  others-sound l e k = record {
    some = omega (arith, h.some);
    few = omega (arith, h.few);
    servers = subst (λ (n : ℕ). Passes (every (sound_server n) l)) (sym e) k;
    full = h.full;
    marks = h.marks;
    rule = omega (arith, h.rule);
    floor = omega (arith, h.floor);
  }

  pub with-sound : (i : ℕ) (s : Server) → SoundServer (count t) s → SoundTable (with_server t i s)
  with-sound i s k =
      others-sound (replace t.servers i s) (length-replace t.servers i s) (every-replace (sound_server (count t)) t.servers i s h.servers (sound-server k))

  pub mark-sound : (p m : ℕ) → m ≤ ceiling → SoundTable (with_mark t p m)
  mark-sound p m l = record {
    some = h.some;
    few = h.few;
    servers = h.servers;
    full = length-replace t.marks p m ∙ h.full;
    marks = every-replace (λ m. leb m ceiling) t.marks p m h.marks (is-at-most l);
    rule = omega (arith, h.rule);
    floor = omega (arith, h.floor);
  }

pub stepped-sound : {n : ℕ} {s : Server} → SoundServer n s → (T : ℕ) → T ≤ ceiling → SoundServer n (stepped_down T s)
stepped-sound h T l = record { role = inr refl; term = l; config = h.config; short = h.short; entries = h.entries }

every-voters : (n q T k : ℕ) (l : List Server) → T ≤ ceiling → Passes (every (sound_server n) l) → Passes (every (sound_server n) (voters_from k q T l))
unfolding voters_from
every-voters n q T k [] h t = t
every-voters n q T k (s ∷ l) h t =
    let (here, rest) = every-cons (sound_server n) s l t in
    cons-every (sound_server n) (cond (member k q) (stepped_down T s) s) (voters_from (suc k) q T l)
    (cond-elim (λ (x : Server). Passes (sound_server n x)) (member k q)
    (λ _. sound-server {n = n} {s = stepped_down T s} (stepped-sound (server-sound {s = s} here) T h)) (λ _. here))
    (every-voters n q T (suc k) l h rest)

pub voted-sound : {t : Table} → SoundTable t → (q T : ℕ) → T ≤ ceiling → SoundTable (voted t q T)
voted-sound {t} h q T l =
    others-sound h (voters_from 1 q T t.servers) (count-voted q T t) (every-voters (count t) q T 1 t.servers l h.servers)
