-- How a line changes the display.
use Rattle.std.specs.Prelude.{ℕ, Bool, true, false, List, Option, Some, None, codes}
use Rattle.h41_focal.specs.Outcomes.{Answer}
use Rattle.h41_focal.specs.Outcomes as answers
use Rattle.h41_nut.specs.Processor.{Processor}
use Rattle.h41_nut.specs.RegisterWords.{with_display}
use Rattle.h41_rows.specs.declared.fault.LineFault.{LineFault}
use Rattle.h41_rows.specs.declared.fault.LineFault.TheVariants.{AlphaData, DataError, Nonexistent}
use Rattle.h41_rows.specs.declared.fault.LineFault.TheVariants.{OutOfRange}

-- The message of an error, as in the Owner's Handbook.
abbrev pub fault_text : LineFault → List ℕ
fault_text AlphaData = codes "ALPHA DATA"
fault_text DataError = codes "DATA ERROR"
fault_text OutOfRange = codes "OUT OF RANGE"
fault_text Nonexistent = codes "NONEXISTENT"

-- The answer of a typed test.
abbrev pub test_text : Bool → List ℕ
test_text true = codes "YES"
test_text false = codes "NO"

-- The message after a line: its own, none if the display is cleared, otherwise the previous one.
abbrev pub message_after : Answer → Option (List ℕ) → Option (List ℕ)
message_after (answers.Viewed text) message = Some text
message_after (answers.Prompted text) message = Some text
message_after (answers.Failed fault) message = Some (fault_text fault)
message_after answers.Cleared message = None
message_after answers.Done message = message
message_after answers.Stopped message = message
message_after answers.TurnedOff message = message
message_after (answers.Answered holds) message = Some (test_text holds)
message_after answers.Runs message = message
-- A line that starts a function in microcode does not change it. No line with all that it calls has
-- one of the other two answers.
message_after (answers.Begins address) message = message
message_after (answers.Calls number entry) message = message
message_after (answers.Seeks name) message = message

-- OFF turns the display off.
abbrev pub processor_after : Answer → Processor → Processor
processor_after answers.TurnedOff processor = with_display false processor
processor_after answer processor = processor
