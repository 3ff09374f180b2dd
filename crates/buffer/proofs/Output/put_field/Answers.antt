-- `buffer::Output::put_field` meets its contract. Assumes nothing.
use borrow.Author.Rules.{rules}
use Rattle.buffer.proofs.FieldLaws.{a-field}
use Rattle.buffer.proofs.Output.put_field.Goals as goal

pub returns : goal.returns
returns c = search (rules, a-field)
