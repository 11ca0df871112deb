use Rattle.h41_proved_words.proofs.CountDown.{count_down}
use Rattle.h41_proved_words.proofs.functions.count_down.Goals as goal

pub returns : goal.returns
returns c =
    count_down c.word_is_executed.ensures.straight c.word_is_executed.ensures.arithmetic
    c.digit_rule_as_whole_numbers.ensures.difference c.different_at_a_place.ensures
