-- The opening, the contents and the bodies of any bytes, an image or not: what is read of them, and whether it keeps the rules. Assumes nothing.
use Rattle.std.specs.Prelude.{ℕ, zero, suc, ◌+◌, ◌*◌, ◌%◌, ◌≤◌, Bool, ◌&&◌, ◌||◌, List, [], ◌∷◌, leb, eqb, length, get_or, drop}
use Rattle.words.specs.Lists.{between, all_below, nth, every, part}
use Rattle.words.specs.Words.{half_at, words}
use Rattle.algorithm.specs.Table.{positions, entry_of, entries, Log, Server, ceiling, sound_server, sound_rule, sound_floor, server_with, config_of}
use Rattle.table.specs.Layout.{padded}

-- ---- the opening

-- n, the number of servers
abbrev pub count_in : List ℕ → ℕ
count_in im = get_or im 4 0

-- the width of the entries: 0 where each is a term, 1 where each is a term and a bake
abbrev pub wide_in : List ℕ → ℕ
wide_in im = get_or im 5 0

-- the rule
abbrev pub rule_in : List ℕ → ℕ
rule_in im = get_or im 6 0

-- the floor
abbrev pub floor_in : List ℕ → ℕ
floor_in im = get_or im 7 0

-- the letters SITE
abbrev pub lettered : List ℕ → Bool
lettered im = eqb (get_or im 0 0) 83 && eqb (get_or im 1 0) 73 && eqb (get_or im 2 0) 84 && eqb (get_or im 3 0) 69

-- these, one of the two widths, one of the two rules, and a floor that a table may have
abbrev pub opened : List ℕ → Bool
opened im = lettered im && leb (wide_in im) 1 && sound_rule (rule_in im) && sound_floor (floor_in im)

-- ---- the contents: entry 0 is for the marks, entry s for server s

-- where entry e says that its body begins
abbrev pub offset : List ℕ → ℕ → ℕ
offset im e = half_at im (8 + 4 * e)

-- how long entry e says that its body is
abbrev pub size : List ℕ → ℕ → ℕ
size im e = half_at im (10 + 4 * e)

-- where body e ends; nothing wraps
abbrev pub stop : List ℕ → ℕ → ℕ
stop im e = offset im e + size im e

-- where the first body begins, in an image of n servers
abbrev pub first_body : ℕ → ℕ
first_body n = 12 + 4 * n

-- where body e has to begin: where the one before it ends
abbrev pub start : List ℕ → ℕ → ℕ
start im zero = first_body (count_in im)
start im (suc e) = stop im e

-- the length of a server's body before its log
abbrev pub figure_bytes : ℕ
figure_bytes = 16

-- the length of body e before its log or its marks
abbrev pub fixed : ℕ → ℕ
fixed zero = 0
fixed (suc s) = figure_bytes

-- the bytes of an entry of the width w
abbrev pub entry_bytes : ℕ → ℕ
entry_bytes zero = 4
entry_bytes (suc w) = 8

-- the bytes of a mark or an entry of body e
abbrev pub item_bytes : ℕ → ℕ → ℕ
item_bytes w zero = 4
item_bytes w (suc s) = entry_bytes w

-- body e may be v bytes long: its fixed part, and 0 to 64 marks or entries; the fixed part is as long as some of them, so v is, too
abbrev pub may_have : ℕ → ℕ → ℕ → Bool
may_have w e v = between (fixed e) (fixed e + item_bytes w e * positions) v && eqb (v % item_bytes w e) 0

-- entry e is as it has to be, and its body ends within the input
abbrev pub laid : List ℕ → ℕ → Bool
laid im e = eqb (offset im e) (start im e) && may_have (wide_in im) e (size im e) && leb (stop im e) (length im)

-- the contents are complete, and each entry is as it has to be
unfoldable pub laid_out : List ℕ → Bool
laid_out im = leb (first_body (count_in im)) (length im) && all_below (count_in im + 1) (laid im)

-- of the bodies: the part of the input that entry e names
abbrev pub body : List ℕ → ℕ → List ℕ
body im e = part im (offset im e) (size im e)

-- the marks of a body; positions beyond it have none
abbrev pub marks_in : List ℕ → List ℕ
marks_in b = padded positions (words b)

-- the log of words that are by turns a term and its bake; a last term without a bake is no entry
unfoldable pub baked_log : List ℕ → Log
baked_log [] = []
baked_log (T ∷ []) = []
baked_log (T ∷ B ∷ ws) = entry_of T B ∷ baked_log ws

-- the log of these words, by the width of its entries
abbrev pub log_in : ℕ → List ℕ → Log
log_in zero ws = entries ws
log_in (suc w) ws = baked_log ws

-- the server of a body whose entries have the width w
abbrev pub server_in : ℕ → List ℕ → Server
server_in w b =
    let ws = words b in
    server_with (get_or b 0 0) (get_or ws 1 0) (config_of (half_at b 2) (get_or ws 2 0) (get_or ws 3 0)) (log_in w (drop 4 ws))

-- the marks keep the rules, and the last, where there is one, is not 0
abbrev pub sound_marks_body : List ℕ → Bool
sound_marks_body b = every (between 0 ceiling) (words b) && (eqb (length (words b)) 0 || leb 1 (nth (words b) (length (words b)) 0))

-- the spare byte is 0, and the server keeps the rules of a table of n
abbrev pub sound_server_body : ℕ → ℕ → List ℕ → Bool
sound_server_body n w b = eqb (get_or b 1 0) 0 && sound_server n (server_in w b)

-- the fields of body e keep the rules
abbrev pub sound_at : List ℕ → ℕ → Bool
sound_at im zero = sound_marks_body (body im 0)
sound_at im (suc s) = sound_server_body (count_in im) (wide_in im) (body im (suc s))

-- the fields of every body do
unfoldable pub sound_bodies : List ℕ → Bool
sound_bodies im = all_below (count_in im + 1) (sound_at im)

-- entry e is in the input, and names a part of it that is long enough for its body and not too long
pub record Names (im : List ℕ) (e : ℕ) : Type 0 where
  pub there : first_body e ≤ length im
  pub within : stop im e ≤ length im
  pub least : fixed e ≤ size im e
  pub most : size im e ≤ fixed e + item_bytes (wide_in im) e * positions

-- the contents are in the input, and every entry is so
pub record Named (im : List ℕ) : Type 0 where
  pub complete : first_body (count_in im) ≤ length im
  pub each : (e : ℕ) → e ≤ count_in im → Names im e

-- the part may be body e, by its length; every server's is as that of server 1
pub record Sized (w e : ℕ) (b : List ℕ) : Type 0 where
  pub least : fixed e ≤ length b
  pub most : length b ≤ fixed e + item_bytes w e * positions
