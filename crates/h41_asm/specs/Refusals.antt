-- What the code returns instead of words: the error of a line, or that allocation failed.
use Rattle.std.specs.Prelude.{◌≡◌, ℕ, Option, Some}
use Rattle.h41_asm.specs.declared.fault.AssembleError as errors
use Rattle.h41_asm.specs.declared.fault.AssembleError.TheVariants as refusals
use Rattle.h41_asm.specs.declared.fault.SourceFault.{SourceFault}
use Rattle.h41_asm.specs.declared.fault.SpellError as spell
use Rattle.h41_asm.specs.declared.fault.SpellError.TheVariants as spell_errors
use Rattle.h41_asm.specs.Faults.{FaultOnLine}

-- The error of a statement as the error of the line with this number.
abbrev pub refusal_of : spell.SpellError → ℕ → errors.AssembleError
refusal_of (spell_errors.Fault fault) line = refusals.Line fault line
refusal_of spell_errors.OutOfMemory line = refusals.OutOfMemory

-- The error is this one, or allocation failed.
abbrev pub IsFault : Option SourceFault → spell.SpellError → Type 0
IsFault found (spell_errors.Fault fault) = found ≡ Some fault
IsFault found spell_errors.OutOfMemory = Unit {0}

-- The error and its line are these, or allocation failed.
abbrev pub IsRefusal : FaultOnLine → errors.AssembleError → Type 0
IsRefusal found (refusals.Line fault line) = found ≡ Some (fault, line)
IsRefusal found refusals.OutOfMemory = Unit {0}
