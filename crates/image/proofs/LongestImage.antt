-- No image of a table that breaks no rule is longer than the longest. Assumes nothing.
use Prim.Native.Nat.{ℕ, zero, suc, ◌+◌, ◌*◌, ◌≤◌}
use native.Mathlib.Omega.{arith}
use mathlib.Core.Path.{◌≡◌, ap}
use mathlib.Core.Bool.{false}
use mathlib.Core.List.{List, [], ◌∷◌, map, flatten}
use lib.ListN.{length, length-append, length-map, length-take}
use Rattle.algorithm.specs.Table.{Server, Table, count, trimmed, broken, positions}
use Rattle.words.proofs.WordLaws.{length-bytes}
use Rattle.table.specs.Slice.{AllRoomy}
use Rattle.table.proofs.MarkLaws.{trimmed-take}
use Rattle.table.proofs.StoredLaws.{its_shape}
use Rattle.image.specs.Contents.{first_body, figure_bytes, entry_bytes}
use Rattle.image.specs.Image.{wide, marks_body, server_body, bodies, contents, image, longest_image}
use Rattle.image.proofs.LogLaws.{length-body}
use Rattle.image.proofs.ImageLaws.{length-contents}

marks-most : (ms : List ℕ) → length (marks_body ms) ≤ 4 * length ms
marks-most ms =
    omega (arith, length-bytes (trimmed ms), ap length (trimmed-take ms), length-take (length (trimmed ms)) ms)

-- a log is longest where its entries have bakes
body-most : (w : ℕ) (s : Server) → length s.log ≤ positions → length (server_body w s) ≤ figure_bytes + entry_bytes 1 * positions
body-most zero s h = omega (arith, length-body 0 s)
body-most (suc w) s h = omega (arith, length-body (suc w) s)

servers-most : (w : ℕ) (ss : List Server) → AllRoomy ss → length (flatten (map (server_body w) ss)) ≤ length ss * (figure_bytes + entry_bytes 1 * positions)
unfolding flatten
servers-most w [] h = omega arith
servers-most w (s ∷ ss) (h, rest) =
    omega (arith, length-append (server_body w s) (flatten (map (server_body w) ss)), body-most w s h.short, servers-most w ss rest)

pub image-most : (t : Table) → broken t ≡ false → length (image t) ≤ longest_image
unfolding image flatten
image-most t h =
    let shape = its_shape t h in
    let most = servers-most (wide t) t.servers shape.roomy in
    omega (
      arith,
      length-append (contents (first_body (count t)) (bodies t)) (flatten (bodies t)),
      length-contents (first_body (count t)) (bodies t),
      length-map t.servers (server_body (wide t)),
      length-append (marks_body t.marks) (flatten (map (server_body (wide t)) t.servers)),
      marks-most t.marks,
      shape.marked,
      shape.few,
    )
