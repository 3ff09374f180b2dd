-- `form::judge_fields` meets its contract. Assumes nothing.
use Rattle.algorithm.proofs.Replies.{replying}
use Rattle.form.proofs.judge_fields.Goals as goal

pub returns-then-f-two : goal.returns-then-f-two
returns-then-f-two c = search replying depth 9

pub returns-then-is_known-two : goal.returns-then-is_known-two
returns-then-is_known-two c = search replying depth 9

pub returns-then-set-set_fits : goal.returns-then-set-set_fits
returns-then-set-set_fits c = search replying depth 9

pub returns : goal.returns
returns c = search replying depth 9
