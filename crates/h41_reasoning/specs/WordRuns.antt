-- How runs are put together from words and from shorter runs.
use Rattle.std.specs.Prelude.{◌≡◌, ℕ, ◌+◌, Bool, true, false, Ok, None}
use Rattle.h41_fields.specs.declared.field.Field.{Field}
use Rattle.h41_laws_words.specs.WholeStates.{IsWhole}
use Rattle.h41_nut.specs.Arithmetic.{OperatesOn}
use Rattle.h41_nut.specs.Arrivals.{gone_on, next_address}
use Rattle.h41_nut.specs.Addresses.{is_closed}
use Rattle.h41_nut.specs.PageWords.{word_at}
use Rattle.h41_nut.specs.Processor.{Processor}
use Rattle.h41_nut.specs.WordStep.{Micro, Nut, row_refusal, state_after}
use Rattle.h41_words.specs.declared.operation.Operation.{Operation}
use Rattle.h41_words.specs.declared.rows.Row.{Row}
use Rattle.h41_words.specs.declared.rows.Row.TheVariants.{Arithmetic}
use Rattle.h41_words.specs.WordTable.{IsRow, number_of}
use Rattle.h41_reasoning.specs.Runs.{Runs}

-- Whether a word works on a field by the digit rule.
abbrev pub is_arithmetic : Row → Bool
is_arithmetic (Arithmetic operation field) = true
is_arithmetic row = false

-- The next word in s is that of a row.
abbrev pub IsNext : Row → Nut → Type 0
IsNext row s = word_at s.pages s.processor.pc ≡ Ok (number_of row)

-- A step leads from s to t, in which the next word can have an effect too.
pub record StepsTo (s t : Nut) : Type 0 where
  pub step : Micro s t
  pub whole : IsWhole t

-- Each word that is not arithmetic leaves the state that is defined for its row, unless it is
-- refused.
abbrev pub WordIsExecuted : Type 0
WordIsExecuted =
    (row : Row) → IsRow row → is_arithmetic row ≡ false → (s : Nut) → IsWhole s → IsNext row s
    → row_refusal row s ≡ None → StepsTo s (state_after row s)

-- An arithmetic word has a result, unless no step may go to the next address. It changes nothing
-- but the processor.
abbrev pub ArithmeticIsExecuted : Type 0
ArithmeticIsExecuted =
    (operation : Operation) (field : Field) (s : Nut) → IsWhole s
    → IsNext (Arithmetic operation field) s → is_closed (next_address s.processor) ≡ false
    → (t : Processor) × OperatesOn operation field (gone_on s.processor) t
    × StepsTo s (record s { processor = t })

-- Two runs, of which the second begins at the end of the first, are one run.
abbrev pub RunsJoin : Type 0
RunsJoin =
    (first second : ℕ) (s t u : Nut) → Runs first s t → Runs second t u → Runs (first + second) s u

-- A state and a number of steps determine the end of a run.
abbrev pub RunsAreDetermined : Type 0
RunsAreDetermined = (count : ℕ) (s t u : Nut) → Runs count s t → Runs count s u → t ≡ u

-- A run leaves a state in which the next word can have an effect.
abbrev pub RunsLeaveWhole : Type 0
RunsLeaveWhole = (count : ℕ) (s t : Nut) → IsWhole s → Runs count s t → IsWhole t
