-- `walk::piece_at` meets its contract. Assumes nothing.
use borrow.Author.Rules.{rules}
use Rattle.walk.proofs.Laws.{piece-starts, piece-ends, piece-is, piece-none}
use Rattle.walk.proofs.piece_at.Goals as goal

pub returns-then-list-at : goal.returns-then-list-at
returns-then-list-at c = search (rules, piece-none)

pub slice_bounds-result-count : goal.slice_bounds-result-count
slice_bounds-result-count c = search (rules, piece-starts)

pub slice_bounds-result-start : goal.slice_bounds-result-start
slice_bounds-result-start c = search (rules, piece-starts)

pub slice_bounds-result-end-2 : goal.slice_bounds-result-end-2
slice_bounds-result-end-2 c = search (rules, piece-ends)

pub returns : goal.returns
returns c = search (rules, piece-is)
