-- `algorithm::Refused::eight_bytes` meets its contract. Assumes nothing.
use borrow.Author.Rules.{rules}
use Rattle.words.specs.Words.{value_of}
use Rattle.algorithm.proofs.Replies.{apart-eight, alone-eight, shows-nothing}
use Rattle.algorithm.proofs.Refused.eight_bytes.Goals as goal

pub returns-in-LargerTerm : goal.returns-in-LargerTerm
unfolding value_of
returns-in-LargerTerm c = search rules

pub returns-in-Apart : goal.returns-in-Apart
returns-in-Apart c = search (rules, apart-eight)

pub returns-in_default : goal.returns-in_default
returns-in_default c = search (rules, alone-eight, shows-nothing)
