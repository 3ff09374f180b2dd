-- `reader::fill::fill_unread` meets its contract. Assumes nothing.
use borrow.Author.Rules.{rules}
use Rattle.table.proofs.HeldLaws.{held}
use Rattle.reader.proofs.FillLaws.{blank-marks, marks-unread}
use Rattle.reader.proofs.fill.fill_unread.Goals as goal

pub put_marks-requires-clause-held : goal.put_marks-requires-clause-held
put_marks-requires-clause-held c = search (rules, held)

pub put_marks-requires-clause-t_value : goal.put_marks-requires-clause-t_value
put_marks-requires-clause-t_value c = search (rules, blank-marks)

pub returns : goal.returns
returns c = search (rules, marks-unread)
