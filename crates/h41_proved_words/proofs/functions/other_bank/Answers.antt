use Rattle.h41_proved_words.proofs.OtherBank.{other_bank}
use Rattle.h41_proved_words.proofs.functions.other_bank.Goals as goal

pub returns : goal.returns
returns c =
    other_bank c.word_is_executed.ensures.straight c.word_is_executed.ensures.arithmetic c.digit_rule_as_whole_numbers.ensures.sum
