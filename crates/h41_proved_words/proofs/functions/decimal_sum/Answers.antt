use Rattle.h41_proved_words.proofs.DecimalSum.{decimal_sum}
use Rattle.h41_proved_words.proofs.functions.decimal_sum.Goals as goal

pub returns : goal.returns
returns c =
    decimal_sum c.word_is_executed.ensures.straight c.word_is_executed.ensures.arithmetic c.digit_rule_as_whole_numbers.ensures.sum
    c.status_is_read.ensures.read
