-- What is true of every step, whatever the code does.
use Rattle.std.specs.Prelude.{◌≡◌, ◌≢◌, ℕ, Bool, true}
use Rattle.h41_fields.specs.declared.field.Field.{Field}
use Rattle.h41_words.specs.declared.operation.Operation.TheVariants.{ComplementC}
use Rattle.h41_words.specs.declared.rows.Row.TheVariants.{Arithmetic}
use Rattle.h41_words.specs.WordTable.{row_of}
use Rattle.h41_nut.specs.Pointers.{is_status_set, with_status}
use Rattle.h41_nut.specs.Processor.{Processor}
use Rattle.h41_nut.specs.WordStep.{Nut, Micro, word_of}

-- The change that a step makes is determined.
abbrev pub MicroIsDetermined : Type 0
MicroIsDetermined = (s t u : Nut) → Micro s t → Micro s u → t ≡ u

-- A status bit is read as it was last set or cleared.
abbrev pub StatusIsRead : Type 0
StatusIsRead = (s : Processor) (bit : ℕ) (on : Bool) → is_status_set bit (with_status bit on s) ≡ on

-- Setting or clearing a status bit changes no other status bit.
abbrev pub OtherStatusStays : Type 0
OtherStatusStays =
    (s : Processor) (bit other : ℕ) (on : Bool) → other ≢ bit
    → is_status_set other (with_status bit on s) ≡ is_status_set other s

-- C=-C-1 always sets the carry.
abbrev pub ComplementSetsCarry : Type 0
ComplementSetsCarry =
    (s t : Nut) (field : Field) → row_of (word_of s) ≡ Arithmetic ComplementC field → Micro s t
    → t.processor.carry ≡ true
