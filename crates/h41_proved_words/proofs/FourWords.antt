use Rattle.std.proofs.Common.{◌≡◌, ℕ, ◌<◌, Bool, true, false, List, length, slice_index, refl, ap, subst, sym, ◌∙◌, arith}
use Rattle.std.specs.Bool.{then_some}
use Rattle.h41_arith.specs.DigitRule.{SumInto, zeros}
use Rattle.h41_fields.specs.Field.{first_place, last_place, places, register_places}
use Rattle.h41_fields.specs.declared.field.Field.TheVariants.{SignAndExponent}
use Rattle.h41_laws_words.specs.WholeStates.{IsWhole}
use Rattle.h41_nut.specs.Addresses.{is_closed}
use Rattle.h41_nut.specs.Arithmetic.{base_number}
use Rattle.h41_nut.specs.Arrivals.{at_address, gone_on}
use Rattle.h41_nut.specs.RegisterWords.{with_word_in_c}
use Rattle.h41_nut.specs.Jumps.{newest_return}
use Rattle.h41_nut.specs.WordStep.{Nut, state_after}
use Rattle.h41_nut.specs.declared.refusal.WordRefusal.TheVariants.{SystemRom}
use Rattle.h41_words.specs.WordTable.{number_of}
use Rattle.h41_words.specs.declared.operation.Operation.TheVariants.{IncrementC}
use Rattle.h41_words.specs.declared.rows.Row.TheVariants.{Return}
use Rattle.h41_reasoning.specs.Runs.{HasWords, Reaches}
use Rattle.h41_reasoning.specs.WordRuns.{ArithmeticIsExecuted, StepsTo, WordIsExecuted}
use Rattle.h41_reasoning.proofs.Changes.{word_digit_0, word_digit_1, word_digit_2, word_keeps}
use Rattle.h41_reasoning.proofs.Rounds.{at_end, by_step, into_c}
use Rattle.h41_reasoning.proofs.Digits.{base_at_least, exponent_number, known_digit}
use Rattle.h41_reasoning.proofs.TwoWords.{load_immediate}
use Rattle.h41_proved_words.specs.FourWords.{FourWordsReturn, HasCounted, four_words}

-- A state at an address.
abbrev pub at : ℕ → Nut → Nut
at address s = record s { processor = record s.processor { pc = address } }

module _ (straight : WordIsExecuted) (arithmetic : ArithmeticIsExecuted) (s : Nut) (whole : IsWhole (at 0x8000 s))
    (words : HasWords s.pages 0x8000 four_words) (returns : is_closed (newest_return s.processor) ≡ false) where
  abbrev loaded : Nut
  loaded = record s { processor = at_address 0x8002 false (with_word_in_c 0x123 s.processor) }

  load : StepsTo (at 0x8000 s) loaded
  unfolding number_of
  load = load_immediate straight (at 0x8000 s) 0x123 whole (words 0 (omega arith)) (words 1 (omega arith)) refl

  abbrev counted : List ℕ → Bool → Nut
  counted z carry = record loaded { processor = record (gone_on loaded.processor) { c = z; carry = carry } }

  count : (z : List ℕ) × (carry : Bool)
      × SumInto (base_number s.processor.base) loaded.processor.c loaded.processor.c zeros true 0 2 z carry
      × StepsTo loaded (counted z carry)
  unfolding number_of first_place last_place places register_places
  count =
      let found = arithmetic IncrementC SignAndExponent loaded load.whole (words 2 (omega arith)) refl in
      into_c _ loaded (gone_on loaded.processor) found.0 found.1 found.2

  return : (z : List ℕ) (carry : Bool) → IsWhole (counted z carry) → StepsTo (counted z carry) (state_after Return (counted z carry))
  unfolding number_of
  return z carry is =
      straight Return tt refl (counted z carry) is (words 3 (omega arith))
      (ap (λ closed. then_some closed (SystemRom (newest_return s.processor))) returns)

  c_size : length s.processor.c ≡ 14
  c_size = whole.processor.abc.c.size

  module _ (z : List ℕ) (carry : Bool)
      (sum : SumInto (base_number s.processor.base) loaded.processor.c loaded.processor.c zeros true 0 2 z carry) where
    first : (slice_index z 0 ≡ 4) × (slice_index sum.digits.carries 1 ≡ 0)
    first =
        known_digit _ _ _ _ _ _ 3 0 1 (sum.digits.places 0 (omega arith) (omega arith))
        (word_digit_0 s.processor.c 3 2 1 c_size) refl sum.digits.first (omega (arith, base_at_least s.processor.base))

    second : (slice_index z 1 ≡ 2) × (slice_index sum.digits.carries 2 ≡ 0)
    second =
        known_digit _ _ _ _ _ _ 2 0 0 (sum.digits.places 1 (omega arith) (omega arith))
        (word_digit_1 s.processor.c 3 2 1 c_size) refl first.1 (omega (arith, base_at_least s.processor.base))

    third : slice_index z 2 ≡ 1
    third =
        (known_digit _ _ _ _ _ _ 1 0 0 (sum.digits.places 2 (omega arith) (omega arith))
        (word_digit_2 s.processor.c 3 2 1 c_size) refl second.1 (omega (arith, base_at_least s.processor.base))).0

    above : (place : ℕ) → 2 < place → slice_index z place ≡ slice_index s.processor.c place
    above place more = sum.outside.above place more ∙ (word_keeps s.processor.c 3 2 1 c_size).above place more

    property : HasCounted (at 0x8000 s) (state_after Return (counted z carry))
    property = record {
      returned = record { address = refl; returns = refl };
      counted = exponent_number z ∙ omega (arith, first.0, second.0, third);
      others = record { below = λ place less. absurd (omega (arith, less)); above = above };
      carry = refl;
      only = refl;
    }

  proved : Reaches 3 (at 0x8000 s) (HasCounted (at 0x8000 s))
  proved =
      by_step 2 _ _ _ load
      (by_step 1 _ _ _ count.3
      (by_step 0 _ _ _ (return count.0 count.1 count.3.whole) (at_end _ _ (property count.0 count.1 count.2))))

pub four : WordIsExecuted → ArithmeticIsExecuted → FourWordsReturn
four straight arithmetic s whole next words returns =
    let here : at 0x8000 s ≡ s = ap (λ address. at address s) (sym next) in
    subst (λ t. Reaches 3 t (HasCounted t)) here
    (proved straight arithmetic s (subst IsWhole (sym here) whole) words returns)
