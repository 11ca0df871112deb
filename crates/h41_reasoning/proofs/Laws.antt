-- The laws on which proofs about microcode rest, as lemmas: a proof that cites them needs no function that calls the laws.
use Rattle.std.proofs.Common.{arith, get_or-set_other, get_or-set_same}
use Rattle.std.proofs.lemmas.Bool.Decides.{nat_tests}
use Rattle.h41_arith.specs.DigitRule.{DifferenceDigit, SumDigit, base_of}
use Rattle.h41_arith.specs.DigitRuleLaws.{DifferenceIsDetermined, DifferenceIsOfNumbers, DifferentAtAPlace, ReplacedIsDetermined}
use Rattle.h41_arith.specs.DigitRuleLaws.{SumIsDetermined, SumIsOfNumbers}
use Rattle.h41_arith.proofs.Carries.{DifferenceDigit-determines, SumDigit-determines, result_determined}
use Rattle.h41_arith.proofs.Places.{is_different_tells, replaced_determined}
use Rattle.h41_arith.proofs.WholeNumbers.{difference_of_numbers, sum_of_numbers}
use Rattle.h41_fields.proofs.Spans.{places_ordered}
use Rattle.h41_laws_words.specs.DigitAnswers.{DifferenceHasOneResult, SumHasOneResult}
use Rattle.h41_laws_words.specs.WholeStates.{WordLeavesWhole}
use Rattle.h41_laws_words.specs.WordAnswers.{AcceptedWordHasOneChange}
use Rattle.h41_laws_words.proofs.Carrying.{difference_gives, one_result, sum_gives}
use Rattle.h41_laws_words.proofs.Stepped.{one_change}
use Rattle.h41_laws_words.proofs.Whole.{leaves_whole}
use Rattle.h41_nut.specs.ProcessorLaws.{OtherStatusStays, StatusIsRead}
use Rattle.h41_nut.proofs.Determined.{same_micro}
use Rattle.h41_nut.proofs.StatusBits.{others_stay, status_read}
use Rattle.h41_ram.specs.RegisterMapLaws.{KeepsOtherAddresses, ReadsWhatWasWritten}
use Rattle.h41_words.proofs.RoundTrip.{number_of_row, one_word_of_row}
use Rattle.h41_reasoning.specs.WordRuns.{ArithmeticIsExecuted, WordIsExecuted}
use Rattle.h41_reasoning.proofs.WordRuns as runs

-- What a word does is determined.
sums_determined : SumIsDetermined
sums_determined base = result_determined (SumDigit base) (SumDigit-determines base)

differences_determined : DifferenceIsDetermined
differences_determined base = result_determined (DifferenceDigit base) (DifferenceDigit-determines base)

sum_exists : SumHasOneResult
sum_exists decimal = one_result (SumDigit (base_of decimal)) (sum_gives decimal) (sums_determined (base_of decimal))

difference_exists : DifferenceHasOneResult
difference_exists decimal =
    one_result (DifferenceDigit (base_of decimal)) (difference_gives decimal) (differences_determined (base_of decimal))

one_change_of_all : AcceptedWordHasOneChange
one_change_of_all =
    one_change places_ordered sum_exists difference_exists (same_micro places_ordered sums_determined differences_determined)

leaves : WordLeavesWhole
leaves = leaves_whole number_of_row

-- The law `word_is_executed`.
pub straight : WordIsExecuted
straight = runs.straight one_word_of_row one_change_of_all leaves

pub arithmetic : ArithmeticIsExecuted
arithmetic = runs.arithmetic one_word_of_row one_change_of_all leaves

-- The laws `digit_rule_as_whole_numbers`, `replaced_is_determined` and `different_at_a_place` of h41_arith.
pub sums : SumIsOfNumbers
sums = sum_of_numbers

pub differences : DifferenceIsOfNumbers
differences = difference_of_numbers

pub replaced : ReplacedIsDetermined
replaced = replaced_determined

pub at_a_place : DifferentAtAPlace
at_a_place = is_different_tells

-- The law `status_is_read` of h41_nut.
pub read_status : StatusIsRead
read_status = status_read

pub other_status : OtherStatusStays
other_status = others_stay

-- The laws `read_after_write` and `write_keeps_other_addresses` of h41_ram.
pub reads : ReadsWhatWasWritten
reads memory address register is = grind (arith, nat_tests, get_or-set_same)

pub keeps : KeepsOtherAddresses
keeps memory address other register apart = grind (arith, nat_tests, get_or-set_other)
