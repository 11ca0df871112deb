-- The answer of a line, and the outcome of a line as contracts describe it: texts are their bytes,
-- which are made from memory as the line left it.
use Rattle.std.specs.Prelude.{ℕ, Bool, true, false, List}
use Rattle.h41_focal.specs.declared.outcome.LineOutcome.{LineOutcome}
use Rattle.h41_focal.specs.declared.outcome.LineOutcome.TheVariants as outcomes
use Rattle.h41_ram.specs.RegisterMap.{RegisterMap, register_at}
use Rattle.h41_rows.specs.declared.fault.LineFault.{LineFault}
use Rattle.h41_show.specs.DisplayFormat.{format_of}
use Rattle.h41_show.specs.RegisterText.{alpha_text, register_text}

-- The answer of a line. The answers Calls and Seeks are those of a line by itself: what it calls is
-- executed then, and gives the answer on which the calculator acts.
pub data Answer : Type 0 where
  -- the program continues
  Done : Answer
  -- the program stops
  Stopped : Answer
  -- the program stops, and the display is turned off
  TurnedOff : Answer
  -- the display shows a text, and the program continues
  Viewed : List ℕ → Answer
  -- the display shows a text, and the program stops
  Prompted : List ℕ → Answer
  -- the display no longer shows a text
  Cleared : Answer
  -- the result of a typed test
  Answered : Bool → Answer
  -- a typed line moved to a label: the program runs
  Runs : Answer
  -- a function of a module is called
  Calls : ℕ → ℕ → Answer
  -- a function with this name is called, which is not in memory
  Seeks : List ℕ → Answer
  -- a function of a module in microcode starts at this address
  Begins : ℕ → Answer
  -- the line has an error: the display shows it, and the program stops
  Failed : LineFault → Answer

-- The line calls what is outside program memory: a function of a module, or what has a name.
abbrev pub calls_outside : Answer → Bool
calls_outside (Calls number entry) = true
calls_outside (Seeks name) = true
calls_outside (Begins address) = true
calls_outside answer = false

-- The answer of an outcome. Texts are made from memory as the line left it.
abbrev pub answer_of : RegisterMap → LineOutcome → Answer
answer_of memory outcomes.Done = Done
answer_of memory outcomes.Stopped = Stopped
answer_of memory outcomes.TurnedOff = TurnedOff
answer_of memory outcomes.ViewedAlpha = Viewed (alpha_text memory)
answer_of memory (outcomes.ViewedRegister address) =
    Viewed (register_text (format_of memory) (register_at memory address))
answer_of memory outcomes.Prompted = Prompted (alpha_text memory)
answer_of memory outcomes.Cleared = Cleared
answer_of memory (outcomes.Answered holds) = Answered holds
answer_of memory outcomes.Runs = Runs
answer_of memory (outcomes.Begins address) = Begins address
answer_of memory (outcomes.Failed fault) = Failed fault
