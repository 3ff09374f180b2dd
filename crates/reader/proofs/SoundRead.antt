-- A table that is read breaks no rule. Assumes nothing.
use Prim.Native.Nat.{ℕ, zero, suc, ◌+◌, ◌≤◌, ◌<◌}
use native.Mathlib.Omega.{arith}
use mathlib.Core.Path.{◌≡◌, sym, subst}
use mathlib.Core.Bool.{◌&&◌}
use mathlib.Core.List.{List, [], ◌∷◌}
use lib.Dec.{leb, eqb}
use lib.ListN.{get_or}
use Rattle.words.proofs.Tests.{Passes, both, at_most}
use Rattle.words.specs.Lists.{every, between}
use Rattle.algorithm.specs.Table.{ceiling, positions, most_servers, sound_server, sound_rule}
use Rattle.words.proofs.Lists.{every-cons, cons-every, every-plus}
use Rattle.algorithm.proofs.Sound.{SoundTable}
use Rattle.words.specs.Words.{words}
use Rattle.table.specs.Layout.{padded}
use Rattle.table.proofs.LayoutLaws.{length-padded}
use Rattle.image.specs.Contents.{lettered, opened, count_in, wide_in, rule_in, floor_in, body, server_in, sound_at, sound_bodies}
use Rattle.reader.specs.Reader.{servers_to, read_reply, read_table}
use Rattle.words.proofs.BelowLaws.{all-below}
use Rattle.reader.proofs.FillLaws.{length-servers}
use Rattle.reader.proofs.ReplyLaws.{readable}

opened-figures : (im : List ℕ) → Passes (opened im) → (rule_in im ≤ 1) × (floor_in im ≤ most_servers)
opened-figures im h =
    let (front, floor) = both {a = lettered im && leb (wide_in im) 1 && sound_rule (rule_in im)} h in
    (at_most (both {a = lettered im && leb (wide_in im) 1} front).1, at_most floor)

-- the 0 beyond the marks keep the rules too
padded-sound : (k : ℕ) (l : List ℕ) → Passes (every (between 0 ceiling) l) → Passes (every (λ m. leb m ceiling) (padded k l))
unfolding padded every
padded-sound zero l h = record { yes = tt }
padded-sound (suc k) [] h = cons-every (λ m. leb m ceiling) 0 (padded k []) (record { yes = tt }) (padded-sound k [] h)
padded-sound (suc k) (x ∷ l) h =
    let (here, rest) = every-cons (between 0 ceiling) x l h in
    cons-every (λ m. leb m ceiling) x (padded k l) (both {a = leb 0 x} here).1 (padded-sound k l rest)

module _ (im : List ℕ) (h : (e : ℕ) → e < count_in im + 1 → Passes (sound_at im e)) where
  servers-sound : (k : ℕ) → k ≤ count_in im → Passes (every (sound_server (count_in im)) (servers_to k im))
  unfolding servers_to every
  servers-sound zero l = record { yes = tt }
  servers-sound (suc k) l =
      every-plus (sound_server (count_in im)) (servers_to k im) (server_in (wide_in im) (body im (suc k))) (servers-sound k (omega arith))
      (both {a = eqb (get_or (body im (suc k)) 1 0) 0} (h (suc k) (omega arith))).1

pub read-sound : (im slice : List ℕ) → read_reply im slice ≡ 0 → SoundTable (read_table im)
unfolding sound_bodies
read-sound im slice e =
    let r = readable im slice e in
    let n = count_in im in
    let each = all-below (n + 1) (sound_at im) r.sound in
    let many = length-servers n im in
    record {
      some = omega (arith, many, r.some);
      few = omega (arith, many, r.few);
      servers = subst (λ (k : ℕ). Passes (every (sound_server k) (servers_to n im))) (sym many) (servers-sound im each n (omega arith));
      full = length-padded positions (words (body im 0));
      marks = padded-sound positions (words (body im 0)) (both {a = every (between 0 ceiling) (words (body im 0))} (each 0 (omega arith))).0;
      rule = (opened-figures im r.opened).0;
      floor = (opened-figures im r.opened).1;
    }
