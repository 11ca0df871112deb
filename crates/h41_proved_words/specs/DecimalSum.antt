-- Adds the decimal number in A to that in C: CLRF 0, SETDEC, C=A+C ALL, JNC +02, SETF 0, SETHEX,
-- RTN. Status bit 0 is the carry, since RTN clears the carry itself.
use Rattle.std.specs.Prelude.{◌≡◌, ℕ, ◌+◌, ◌*◌, ◌^◌, ◌≤◌, false, List, [], ◌∷◌, slice_index}
use Rattle.h41_arith.specs.DigitRule.{carry_digit}
use Rattle.h41_arith.specs.DigitRuleLaws.{number_of}
use Rattle.h41_laws_words.specs.WholeStates.{IsWhole}
use Rattle.h41_nut.specs.Addresses.{is_closed}
use Rattle.h41_nut.specs.Jumps.{newest_return}
use Rattle.h41_nut.specs.Pointers.{is_status_set}
use Rattle.h41_nut.specs.WordStep.{Nut}
use Rattle.h41_nut.specs.declared.base.Base.TheVariants.{Hexadecimal}
use Rattle.h41_reasoning.specs.Runs.{HasReturned, HasWords, Reaches}

abbrev pub decimal_sum_words : List ℕ
decimal_sum_words = 0x384 ∷ 0x2A0 ∷ 0x20E ∷ 0x013 ∷ 0x388 ∷ 0x260 ∷ 0x3E0 ∷ []

-- Each digit of a register is 0 to 9.
abbrev pub IsDecimal : List ℕ → Type 0
IsDecimal register = (place : ℕ) → place ≤ 13 → slice_index register place ≤ 9

-- C and status bit 0 are the sum, with bit 0 as its fifteenth digit. Arithmetic is hexadecimal.
-- Nothing else has changed but the carry, which is clear.
pub record IsDecimalSum (s t : Nut) : Type 0 where
  pub returned : HasReturned s t
  pub sum : number_of 10 t.processor.c 0 13 + carry_digit (is_status_set 0 t.processor) * 10 ^ 14
      ≡ number_of 10 s.processor.a 0 13 + number_of 10 s.processor.c 0 13
  pub carry : t.processor.carry ≡ false
  pub base : t.processor.base ≡ Hexadecimal
  pub only : t ≡ record s {
    processor = record s.processor {
      c = t.processor.c;
      carry = t.processor.carry;
      pc = t.processor.pc;
      returns = t.processor.returns;
      status = t.processor.status;
      base = t.processor.base;
    };
  }

-- From every state in which A and C have digits 0 to 9, the words return within seven steps.
abbrev pub DecimalSumReturns : Type 0
DecimalSumReturns =
    (s : Nut) → IsWhole s → s.processor.pc ≡ 0x8000 → HasWords s.pages 0x8000 decimal_sum_words
    → is_closed (newest_return s.processor) ≡ false → IsDecimal s.processor.a
    → IsDecimal s.processor.c → Reaches 7 s (IsDecimalSum s)
