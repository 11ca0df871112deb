-- Lines that call nothing outside program memory.
use Rattle.std.proofs.Common.{◌≡◌, ℕ, Bool, true, false, Ok, Err, Result, refl, ap, ◌∙◌}
use Rattle.std.specs.Prelude.{if◌then◌else◌}
use Rattle.h41_codes.specs.declared.line.Line.{Line}
use Rattle.h41_codes.specs.declared.line.Line.TheVariants.{Module}
use Rattle.h41_focal.specs.Destinations.{Manner, Stepped, Typed}
use Rattle.h41_focal.specs.LineStep.{EndsInError, Left, answer_of_showing, error_flag, left_by_fault, left_done, left_failed}
use Rattle.h41_focal.specs.LineStep.{with_fault_caught}
use Rattle.h41_focal.specs.MachineCalls.{carried_as}
use Rattle.h41_focal.specs.Outcomes.{Calls, calls_outside}
use Rattle.h41_focal.specs.OutsideCalls.{GoesOnFrom}
use Rattle.h41_focal.specs.declared.origin.Origin.{Origin}
use Rattle.h41_focal.specs.declared.outcome.LineOutcome.{LineOutcome}
use Rattle.h41_focal.specs.declared.outcome.LineOutcome.TheVariants as outcomes
use Rattle.h41_focal.specs.declared.refusal.FocalRefusal.{FocalRefusal}
use Rattle.h41_focal.specs.private.Carrying.{CallsEntry, CarriesAs, CarriesRow, CarriesRowWhole, TakesAs, manner_of}
use Rattle.h41_pages.specs.FunctionTables.{entry_at}
use Rattle.h41_pages.specs.PageMap.{PageMap}
use Rattle.h41_positions.specs.FocalState.{Machine, at_line}
use Rattle.h41_ram.specs.RegisterMap.{RegisterMap, flag_of}
use Rattle.h41_rows.specs.Rows as rows
use Rattle.h41_rows.specs.Rows.{LineRow}
use Rattle.h41_rows.specs.declared.fault.LineFault.{LineFault}

-- The answer of a row calls nothing outside memory.
pub own_answer : (memory : RegisterMap) (named : ℕ) (shows : rows.Showing) (ends : rows.RowEnding)
    → calls_outside (answer_of_showing memory named shows ends) ≡ false
own_answer memory named rows.AsBefore rows.GoesOn = refl
own_answer memory named rows.AsBefore rows.Stops = refl
own_answer memory named rows.AsBefore rows.TurnsOff = refl
own_answer memory named rows.NoText ends = refl
own_answer memory named rows.NamedText rows.GoesOn = refl
own_answer memory named rows.NamedText rows.Stops = refl
own_answer memory named rows.NamedText rows.TurnsOff = refl
own_answer memory named rows.AlphaText rows.GoesOn = refl
own_answer memory named rows.AlphaText rows.Stops = refl
own_answer memory named rows.AlphaText rows.TurnsOff = refl

-- A line that fails.
own_fault : (flag : Bool) (caught stopped : Machine) (fault : LineFault)
    → calls_outside (if flag then left_done caught else left_failed stopped fault).answer ≡ false
own_fault true caught stopped fault = refl
own_fault false caught stopped fault = refl

fault_left : (how : Manner) (machine : Machine) (fault : LineFault) → calls_outside (left_by_fault how machine fault).answer ≡ false
fault_left (Stepped next) machine fault =
    own_fault (flag_of machine.memory error_flag) (at_line next (with_fault_caught machine))
    (at_line machine.focal.position machine) fault
fault_left Typed machine fault = own_fault (flag_of machine.memory error_flag) (with_fault_caught machine) machine fault

same_left : (left other : Left) → ◌≡◌ {A = Result Left FocalRefusal} (Ok left) (Ok other) → left ≡ other
same_left left other is = cc

pub fails_here : (how : Manner) (machine : Machine) (fault : LineFault) (left : Left) → EndsInError how machine fault (Ok left)
    → calls_outside left.answer ≡ false
fails_here how machine fault left failing =
    ap (λ (of : Left). calls_outside of.answer) (same_left left (left_by_fault how machine fault) failing) ∙ fault_left how machine fault

-- An outcome is the answer of the line with all that it calls.
goes_on_itself : (pages : PageMap) (how : Manner) (old new : Machine) (result : Result LineOutcome FocalRefusal)
    → GoesOnFrom pages how old (carried_as new result) (carried_as new result)
goes_on_itself pages how old new (Ok outcomes.Done) = refl
goes_on_itself pages how old new (Ok outcomes.Stopped) = refl
goes_on_itself pages how old new (Ok outcomes.TurnedOff) = refl
goes_on_itself pages how old new (Ok outcomes.ViewedAlpha) = refl
goes_on_itself pages how old new (Ok (outcomes.ViewedRegister address)) = refl
goes_on_itself pages how old new (Ok outcomes.Prompted) = refl
goes_on_itself pages how old new (Ok outcomes.Cleared) = refl
goes_on_itself pages how old new (Ok (outcomes.Answered holds)) = refl
goes_on_itself pages how old new (Ok outcomes.Runs) = refl
goes_on_itself pages how old new (Ok (outcomes.Begins address)) = refl
goes_on_itself pages how old new (Ok (outcomes.Failed fault)) = refl
goes_on_itself pages how old new (Err refusal) = refl

pub carries_whole : (pages : PageMap) (origin : Origin) (line : Line) (old new : Machine) (result : Result LineOutcome FocalRefusal)
    → TakesAs pages origin line old new result → CarriesAs pages origin line old new result
carries_whole pages origin line old new result takes =
    (carried_as new result, takes, goes_on_itself pages (manner_of origin) old new result)

pub row_carries_whole : (pages : PageMap) (origin : Origin) (row : LineRow) (named : ℕ) (old new : Machine)
    (result : Result LineOutcome FocalRefusal)
    → CarriesRow pages origin row named old new result → CarriesRowWhole pages origin row named old new result
row_carries_whole pages origin row named old new result applies =
    (carried_as new result, applies, goes_on_itself pages (manner_of origin) old new result)

-- An XROM line calls the table entry of its numbers.
pub called_module : (pages : PageMap) (origin : Origin) (number entry : ℕ) (old new : Machine) (outcome : LineOutcome)
    → CallsEntry origin true (entry_at pages number entry) old new outcome
    → CarriesAs pages origin (Module number entry) old new (Ok outcome)
called_module pages origin number entry old new outcome called =
    (Ok (record { machine = old; answer = Calls number entry }), refl, called)
