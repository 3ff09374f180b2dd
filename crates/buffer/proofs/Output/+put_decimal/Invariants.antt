-- `buffer::Output::put_decimal` calls itself with a smaller number. Assumes nothing.
use Rattle.buffer.proofs.Output.+put_decimal.Given as goal

abbrev pub decreases-put_decimal : goal.decreases-put_decimal
decreases-put_decimal l = l.v
