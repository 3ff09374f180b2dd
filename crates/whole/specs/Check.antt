-- The words of a whole table, as the check goes through them. Assumes nothing.
use Rattle.std.specs.Prelude.{ℕ, zero, suc, ◌+◌, ◌-◌, ◌*◌, Bool, true, ◌&&◌, List, [], leb, get_or, drop}
use Rattle.words.specs.Lists.{every, between, part}
use Rattle.algorithm.specs.Table.{with_log, ceiling, positions, most_servers, sound_server, sound_rule, sound_floor}
use Rattle.table.specs.Layout.{row_words, server_of}

-- d begins with the row of a server of a table of n: its five figures, its log's length, the terms of its entries, 0 beyond the
-- length, and their bakes, any numbers, 0 beyond it too
unfoldable pub sound_row : ℕ → List ℕ → Bool
sound_row n d =
    let k = get_or d 5 0 in
    leb k positions
    && sound_server n (with_log [] (server_of d))
    && every (between 1 ceiling) (part d 6 k)
    && every (between 0 0) (part d (6 + k) (positions - k))
    && every (between 0 0) (part d (6 + positions + k) (positions - k))

-- d begins with k such rows
unfoldable pub sound_rows : ℕ → ℕ → List ℕ → Bool
sound_rows zero n d = true
sound_rows (suc k) n d = sound_row n d && sound_rows k n (drop row_words d)

-- c is, but for word 0, the words of a table of n servers
unfoldable pub sound_words : ℕ → List ℕ → Bool
sound_words n c =
    sound_rule (get_or c 1 0)
    && sound_floor (get_or c 2 0)
    && every (between 0 0) (part c 3 3)
    && every (between 0 ceiling) (part c 6 positions)
    && every (between 0 0) (part c (6 + positions) positions)
    && sound_rows n n (drop row_words c)
    && every (between 0 0) (part c (row_words * n + row_words) (row_words * most_servers - row_words * n))
