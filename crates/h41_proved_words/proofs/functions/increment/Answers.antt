use Rattle.h41_proved_words.proofs.Increment.{increment}
use Rattle.h41_proved_words.proofs.functions.increment.Goals as goal

pub returns : goal.returns
returns c =
    increment c.word_is_executed.ensures.straight c.word_is_executed.ensures.arithmetic c.digit_rule_as_whole_numbers.ensures.sum
