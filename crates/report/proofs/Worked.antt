-- The case that document 01 gives whole prints what it must, byte for byte, by computation. Assumes nothing.
use mathlib.Core.Path.{◌≡◌, refl}
use lib.Count.{ones}
use Rattle.members.specs.Members.{mask, lowest_from}
use Rattle.words.specs.Lists.{nth, replace, every}
use Rattle.algorithm.specs.Table.{trimmed, broken, fresh}
use Rattle.algorithm.specs.Actions.{voters_from, some_marked, holds_marked}
use Rattle.algorithm.specs.Run.{refusals, after, step, pieces, play}
use Rattle.words.specs.Refusal.{first, first_shown}
use Rattle.buffer.specs.Buffer.{digits, decimal, field, fields}
use Rattle.report.specs.Lines.{copies, pair, beside, reply, replied_line, letter, shown_row, marks_line, numbered, table_lines, cut_lines, played_lines, plan, expected}

pub case-holds : played_lines (fresh 4 7 0 0) plan ≡ expected
unfolding expected played_lines copies pair beside lowest_from cut_lines table_lines numbered digits decimal field fields reply replied_line letter shown_row trimmed marks_line ones mask nth replace every broken voters_from some_marked holds_marked refusals first first_shown after step pieces play
case-holds = refl
