-- The check asks of the words what makes a slice whole: that they are the layout of the table in them, and that this table breaks no rule.
-- Assumes nothing.
use mathlib.Core.Bool.{◌&&◌}
use Prim.Native.Nat.{ℕ, zero, suc, ◌+◌, ◌-◌, ◌*◌, ◌≤◌}
use native.Mathlib.Nat.{add_comm}
use native.Mathlib.Omega.{arith}
use mathlib.Core.Path.{◌≡◌, refl, ap, ap₂, sym, subst, ◌∙◌}
use mathlib.Core.List.{List, [], ◌∷◌, ◌++◌}
use lib.Dec.{leb}
use lib.ListN.{length, get_or, take, drop, replicate, length-drop, length-map, take-append-drop}
use lib.Seq.{drop-drop, drop_at, length-take-le, take-add, take-suc, take_all}
use Rattle.words.proofs.Tests.{Passes, both, together, at_most, is-at-most}
use Rattle.words.specs.Lists.{every, between, part}
use Rattle.algorithm.specs.Table.{Server, Table, count, ceiling, sound_server, sound_rule, sound_floor, positions, most_servers}
use Rattle.words.proofs.Lists.{every-cons, every-replicate}
use Rattle.algorithm.proofs.Sound.{SoundTable}
use Rattle.words.proofs.WordLaws.{FourBytes, words-drop, words_take}
use Rattle.table.specs.Layout.{padded, terms, bakes, row, head, rows, layout, log_of, server_of, servers_of, table_of, row_words, table_words}
use Rattle.table.proofs.LayoutLaws.{length-row, length-head, length-layout, rows_none, padded-is, log-room, log-beyond, terms-of, bakes-of, row-terms, row-bakes, server-back, marks-back, marks-behind}
use Rattle.table.proofs.SoundLaws.{server-parts, terms-sound, marks-sound, words-bakes}
use Rattle.whole.specs.Check.{sound_row, sound_rows, sound_words}

-- ---- runs of 0

zeros-pass : (k : ℕ) → Passes (every (between 0 0) (replicate k 0))
zeros-pass k = every-replicate (between 0 0) k 0 (record { yes = tt })

all-zero : (l : List ℕ) → Passes (every (between 0 0) l) → l ≡ replicate (length l) 0
all-zero [] h = refl
all-zero (x ∷ l) h =
    let (here, rest) = every-cons (between 0 0) x l h in
    let none : x ≡ 0 = omega (arith, at_most {a = x} {b = 0} (both {a = leb 0 x} here).1) in
    ap₂ (λ (y : ℕ) (m : List ℕ). y ∷ m) none (all-zero l rest)

-- a part that is all 0
zeros-back : (c : List ℕ) (k n : ℕ) → k + n ≤ length c → Passes (every (between 0 0) (part c k n)) → part c k n ≡ replicate n 0
zeros-back c k n h z =
    let long : length (part c k n) ≡ n = length-take-le n (drop k c) (omega (arith, length-drop k c)) in
    all-zero (part c k n) z ∙ ap (λ (j : ℕ). replicate j 0) long

-- ---- a server's row

row-passes : (n : ℕ) (s : Server) (r : List ℕ) → Passes (sound_server n s) → Passes (sound_row n (row s ++ r))
unfolding sound_row
row-passes n s r h =
    let k = length s.log in
    let d = row s ++ r in
    let (figures, entries) = both (subst Passes (server-parts n s) h) in
    let (f, l) = both figures in
    let short = at_most l in
    let behind = padded positions (bakes s.log) ++ r in
    let tested : Passes (every (between 1 ceiling) (part d 6 k)) =
    rw (row-terms s r, log-room (λ e. e.term) s.log behind short)
    (subst Passes (terms-sound s.log (words-bakes s.log entries)) entries) in
    let beyond : Passes (every (between 0 0) (part d (6 + k) (positions - k))) =
    rw (← drop-drop k 6 d, row-terms s r, log-beyond (λ e. e.term) s.log behind short) (zeros-pass (positions - k)) in
    let bare : Passes (every (between 0 0) (part d (6 + positions + k) (positions - k))) =
    rw (← drop-drop k (6 + positions) d, row-bakes s r, log-beyond (λ e. e.bake) s.log r short) (zeros-pass (positions - k)) in
    together (together (together (together l (rw (server-back s r short) f)) tested) beyond) bare

six : (d : List ℕ) → row_words ≤ length d
    → take row_words d ≡ get_or d 0 0 ∷ get_or d 1 0 ∷ get_or d 2 0 ∷ get_or d 3 0 ∷ get_or d 4 0 ∷ get_or d 5 0 ∷ take (positions + positions) (drop 6 d)
six [] h = absurd (omega arith)
six (a ∷ []) h = absurd (omega arith)
six (a ∷ b ∷ []) h = absurd (omega arith)
six (a ∷ b ∷ c ∷ []) h = absurd (omega arith)
six (a ∷ b ∷ c ∷ d ∷ []) h = absurd (omega arith)
six (a ∷ b ∷ c ∷ d ∷ e ∷ []) h = absurd (omega arith)
six (a ∷ b ∷ c ∷ d ∷ e ∷ f ∷ l) h = refl

-- what stands behind them in two halves
halves : (d : List ℕ) → take (positions + positions) (drop 6 d) ≡ part d 6 positions ++ part d (6 + positions) positions
halves d = take-add positions positions (drop 6 d) ∙ ap (λ (l : List ℕ). part d 6 positions ++ take positions l) (drop-drop positions 6 d)

-- the row at the front of some words is that of the server in it
record RowOf (n : ℕ) (d : List ℕ) : Type 0 where
  laid : row (server_of d) ≡ take row_words d
  sound : Passes (sound_server n (server_of d))

-- a log's room is a number for each entry and 0 beyond them
room_back : (d : List ℕ) (a k : ℕ) → k ≤ positions → a + positions ≤ length d → Passes (every (between 0 0) (part d (a + k) (positions - k)))
    → padded positions (part d a k) ≡ part d a positions
room_back d a k h l z =
    let taken : length (part d a k) ≡ k = length-take-le k (drop a d) (omega (arith, length-drop a d)) in
    let all : k + (positions - k) ≡ positions = omega arith in
    padded-is positions (part d a k) (positions - k) (omega (arith, taken))
    ∙ ap (λ (m : List ℕ). part d a k ++ m) (sym (zeros-back d (a + k) (positions - k) (omega arith) z) ∙ ap (take (positions - k)) (sym (drop-drop k a d)))
    ∙ sym (take-add k (positions - k) (drop a d))
    ∙ ap (λ (j : ℕ). take j (drop a d)) all

row_back : (n : ℕ) (d : List ℕ) → row_words ≤ length d → FourBytes d → Passes (sound_row n d) → RowOf n d
unfolding sound_row server_of
row_back n d long four h =
    let k = get_or d 5 0 in
    let ts = part d 6 k in
    let bs = part d (6 + positions) k in
    let log = log_of ts bs in
    let (rest, bare) = both h in
    let (figures, beyond) = both rest in
    let (figured, tested) = both figures in
    let (l, f) = both figured in
    let short : k ≤ positions = at_most l in
    let many-terms : length ts ≡ k = length-take-le k (drop 6 d) (omega (arith, length-drop 6 d)) in
    let many-bakes : length bs ≡ k = length-take-le k (drop (6 + positions) d) (omega (arith, length-drop (6 + positions) d)) in
    let its-bakes : bakes log ≡ bs = bakes-of ts bs (many-bakes ∙ sym many-terms) in
    let many : length log ≡ k = sym (length-map log _) ∙ ap length (terms-of ts bs) ∙ many-terms in
    let front : padded positions (terms log) ≡ part d 6 positions = ap (padded positions) (terms-of ts bs) ∙ room_back d 6 k short (omega arith) beyond in
    let back : padded positions (bakes log) ≡ part d (6 + positions) positions = ap (padded positions) its-bakes ∙ room_back d (6 + positions) k short (omega arith) bare in
    let small : FourBytes (bakes log) = subst FourBytes (sym its-bakes) (words_take k (drop (6 + positions) d) (words-drop (6 + positions) d four)) in
    record {
      laid =
          ap₂ (λ (x : ℕ) (m : List ℕ). get_or d 0 0 ∷ get_or d 1 0 ∷ get_or d 2 0 ∷ get_or d 3 0 ∷ get_or d 4 0 ∷ x ∷ m) many (ap₂ ◌++◌ front back ∙ sym (halves d))
          ∙ sym (six d long);
      sound =
          subst Passes (sym (server-parts n (server_of d)))
          (together
          (together f (is-at-most {a = length log} {b = positions} (omega (arith, many))))
          (subst Passes (sym (terms-sound log small)) (rw (terms-of ts bs) tested)));
    }

-- ---- the rows of the servers, and those beyond

rows_pass : (n k : ℕ) (ss : List Server) → length ss ≤ k → Passes (every (sound_server n) ss) → Passes (sound_rows (length ss) n (rows k ss))
unfolding sound_rows rows
rows_pass n k [] h t = record { yes = tt }
rows_pass n zero (s ∷ ss) h t = absurd (omega arith)
rows_pass n (suc k) (s ∷ ss) h t =
    let (here, rest) = every-cons (sound_server n) s ss t in
    together {a = sound_row n (row s ++ rows k ss)} (row-passes n s (rows k ss) here)
    (rw (drop_at (row s) (rows k ss) row_words (length-row s)) (rows_pass n k ss (omega arith) rest))

next-rows : (m : ℕ) (l : List ℕ) → drop (row_words * m) (drop row_words l) ≡ drop (row_words * suc m) l
next-rows m l =
    let more : row_words + row_words * m ≡ row_words * suc m = omega arith in
    drop-drop (row_words * m) row_words l ∙ ap (λ (j : ℕ). drop j l) more

beyond-pass : (k : ℕ) (ss : List Server) → length ss ≤ k → Passes (every (between 0 0) (drop (row_words * length ss) (rows k ss)))
unfolding rows
beyond-pass k [] h = rw (rows_none k) (zeros-pass (row_words * k))
beyond-pass zero (s ∷ ss) h = absurd (omega arith)
beyond-pass (suc k) (s ∷ ss) h =
    rw (← next-rows (length ss) (row s ++ rows k ss), drop_at (row s) (rows k ss) row_words (length-row s)) (beyond-pass k ss (omega arith))

rows_back : (n k m : ℕ) (d : List ℕ) → length d ≡ row_words * k → FourBytes d → m ≤ k → Passes (sound_rows m n d) → Passes (every (between 0 0) (drop (row_words * m) d))
    → (rows k (servers_of m d) ≡ d) × Passes (every (sound_server n) (servers_of m d))
unfolding sound_rows rows servers_of every
rows_back n k zero d e four h t z = (rows_none k ∙ ap (λ (j : ℕ). replicate j 0) (sym e) ∙ sym (all-zero d z), record { yes = tt })
rows_back n zero (suc m) d e four h t z = absurd (omega arith)
rows_back n (suc k) (suc m) d e four h t z =
    let (here, rest) = both {a = sound_row n d} t in
    let first = row_back n d (omega arith) four here in
    let (laid, sound) = rows_back n k m (drop row_words d) (omega (arith, length-drop row_words d)) (words-drop row_words d four) (omega arith) rest (rw (next-rows m d) z) in
    (ap₂ ◌++◌ first.laid laid ∙ take-append-drop row_words d, together {a = sound_server n (server_of d)} first.sound sound)

-- ---- the table

-- what stands behind the rows of n servers
past-rows : (n : ℕ) (c : List ℕ) → length c ≡ table_words → part c (row_words * n + row_words) (row_words * most_servers - row_words * n) ≡ drop (row_words * n) (drop row_words c)
past-rows n c e =
    rw (add_comm (row_words * n) row_words, ← drop-drop (row_words * n) row_words c)
    (take_all (row_words * most_servers - row_words * n) (drop (row_words * n) (drop row_words c)) (simp length-drop (omega arith)))

pub words-pass : {t : Table} → SoundTable t → Passes (sound_words (count t) (layout t))
unfolding sound_words layout every
words-pass {t} s =
    let n = count t in
    let all = rows most_servers t.servers in
    let under : drop row_words (layout t) ≡ all = drop_at (head t) all row_words (length-head t) in
    let spare : Passes (every (between 0 0) (part (layout t) 3 3)) = record { yes = tt } in
    let marks : Passes (every (between 0 ceiling) (part (layout t) 6 positions)) =
    rw (marks-back t s.full) (subst Passes (marks-sound t.marks) s.marks) in
    let bare : Passes (every (between 0 0) (part (layout t) (6 + positions) positions)) = rw (marks-behind t) (zeros-pass positions) in
    let servers : Passes (sound_rows n n (drop row_words (layout t))) = rw under (rows_pass n most_servers t.servers s.few s.servers) in
    let beyond : Passes (every (between 0 0) (part (layout t) (row_words * n + row_words) (row_words * most_servers - row_words * n))) =
    rw (past-rows n (layout t) (length-layout t), under) (beyond-pass most_servers t.servers s.few) in
    together (together (together (together (together (together (is-at-most s.rule) (is-at-most s.floor)) spare) marks) bare) servers) beyond

length-servers : (n : ℕ) (d : List ℕ) → length (servers_of n d) ≡ n
unfolding servers_of
length-servers zero d = refl
length-servers (suc n) d = ap suc (length-servers n (drop row_words d))

-- the first row of words that are 0 between the floor and the marks, and behind these
top_back : (c : List ℕ) → row_words ≤ length c → Passes (every (between 0 0) (part c 3 3)) → Passes (every (between 0 0) (part c (6 + positions) positions))
    → take row_words c ≡ head (table_of c)
unfolding every table_of
top_back c h z y =
    let none : Passes (every (between 0 0) (take 0 (drop (6 + positions) c))) = record { yes = tt } in
    let rule = get_or c 1 0 in
    let floor = get_or c 2 0 in
    let figures : take 3 c ≡ count (table_of c) ∷ rule ∷ floor ∷ [] =
    take-suc c 2 0 (omega arith)
    ∙ ap (λ (l : List ℕ). l ++ (floor ∷ [])) (take-suc c 1 0 (omega arith))
    ∙ ap (λ (l : List ℕ). l ++ (rule ∷ []) ++ (floor ∷ [])) (take-suc c 0 0 (omega arith))
    ∙ ap (λ (k : ℕ). k ∷ rule ∷ floor ∷ []) (sym (length-servers (get_or c 0 0) (drop row_words c))) in
    let room : part c 6 positions ≡ padded positions (part c 6 positions) = sym (room_back c 6 positions (omega arith) (omega arith) none) in
    let behind : take (positions + positions) (drop 6 c) ≡ padded positions (part c 6 positions) ++ replicate positions 0 =
    halves c ∙ ap₂ ◌++◌ room (zeros-back c (6 + positions) positions (omega arith) y) in
    take-add 3 (3 + (positions + positions)) c
    ∙ ap₂ ◌++◌ figures
    (take-add 3 (positions + positions) (drop 3 c)
    ∙ ap₂ ◌++◌ (zeros-back c 3 3 (omega arith) z) (ap (take (positions + positions)) (drop-drop 3 3 c) ∙ behind))

pub words_back : (n : ℕ) (c : List ℕ) → length c ≡ table_words → FourBytes c → n ≡ get_or c 0 0 → 1 ≤ n → n ≤ most_servers → Passes (sound_words n c)
    → (layout (table_of c) ≡ c) × SoundTable (table_of c)
unfolding sound_words layout table_of
words_back n c e four first some few h =
    let d = drop row_words c in
    let ms = take positions (drop 6 c) in
    let figures = sound_rule (get_or c 1 0) && sound_floor (get_or c 2 0) in
    let spare = every (between 0 0) (part c 3 3) in
    let marks = every (between 0 ceiling) ms in
    let bare = every (between 0 0) (part c (6 + positions) positions) in
    let (rest, beyond) = both {a = figures && spare && marks && bare && sound_rows n n d} h in
    let (top, tested) = both {a = figures && spare && marks && bare} rest in
    let (left, empty) = both {a = figures && spare && marks} top in
    let (front, low) = both {a = figures && spare} left in
    let (two, none) = both {a = figures} front in
    let (rule, floor) = both {a = sound_rule (get_or c 1 0)} two in
    let (laid, sound) = rows_back n most_servers n d (simp length-drop (omega arith)) (words-drop row_words c four) few tested (rw (← past-rows n c e) beyond) in
    let counted : length (servers_of (get_or c 0 0) d) ≡ get_or c 0 0 = length-servers (get_or c 0 0) d in
    let many : length ms ≡ positions = length-take-le positions (drop 6 c) (omega (arith, length-drop 6 c)) in (
      ap₂ ◌++◌ (sym (top_back c (omega arith) none empty)) (ap (λ (k : ℕ). rows most_servers (servers_of k d)) (sym first) ∙ laid)
          ∙ take-append-drop row_words c,
      record {
        some = omega (arith, counted);
        few = omega (arith, counted);
        servers =
            subst (λ (k : ℕ). Passes (every (sound_server (length (servers_of k d))) (servers_of k d))) first (rw (length-servers n d) sound);
        full = many;
        marks = subst Passes (sym (marks-sound ms)) low;
        rule = at_most rule;
        floor = at_most floor;
      },
    )
