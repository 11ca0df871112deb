-- Laws of lines, which hold for the definitions alone: each line has one outcome, and lines that
-- continue at the next line have the same effect whether they are stepped or typed.
use Rattle.std.specs.Prelude.{◌≡◌, ℕ, false, All, IfOk, List, [], ◌∷◌, Ok, Option, Result}
use Rattle.h41_codes.specs.declared.functions.Function.{Function}
use Rattle.h41_codes.specs.declared.line.Line.{Line}
use Rattle.h41_codes.specs.declared.line.Line.TheVariants.{Module}
use Rattle.h41_focal.specs.LineStep.{Left, StepsLine, TypesLine}
use Rattle.h41_positions.specs.FocalState.{Machine}
use Rattle.h41_focal.specs.OutsideCalls.{CarriesLine, IsNamed, Keys, LineSource, Program}
use Rattle.h41_focal.specs.Outcomes.{calls_outside}
use Rattle.h41_focal.specs.declared.refusal.FocalRefusal.{FocalRefusal}
use Rattle.h41_pages.specs.PageMap.{PageMap}
use Rattle.h41_positions.specs.Positions.{LineAt}
use Rattle.h41_positions.specs.declared.position.PlacedLine.{PlacedLine}
use Rattle.h41_ram.specs.RegisterMap.{RegisterMap}
use Rattle.h41_rows.specs.LineRows.{row_of}
use Rattle.h41_rows.specs.Operands.{meant_of}
use Rattle.h41_rows.specs.Rows.{Next}

-- A stepped line has one outcome by itself.
abbrev pub StepIsDetermined : Type 0
StepIsDetermined =
    (pages : PageMap) (machine : Machine) (carried other : Result Left FocalRefusal)
    → StepsLine pages machine carried → StepsLine pages machine other → carried ≡ other

-- A typed line has one outcome by itself.
abbrev pub TypedIsDetermined : Type 0
TypedIsDetermined =
    (pages : PageMap) (line : Line) (machine : Machine) (carried other : Result Left FocalRefusal)
    → TypesLine pages line machine carried → TypesLine pages line machine other → carried ≡ other

-- A line has one outcome, with all that it calls.
abbrev pub LineIsDetermined : Type 0
LineIsDetermined =
    (source : LineSource) (pages : PageMap) (machine : Machine)
    (carried other : Result Left FocalRefusal)
    → CarriesLine source pages machine carried → CarriesLine source pages machine other
    → carried ≡ other

-- Any characters name at most one function of the calculator.
abbrev pub NameIsDetermined : Type 0
NameIsDetermined =
    (name : List ℕ) (function other : Option Function)
    → IsNamed name function → IsNamed name other → function ≡ other

-- A line whose row continues at the next line, for each meaning of its operand. Tests, loops, GTO,
-- XEQ, RTN and END do not. PROMPT, STOP and OFF do, because only memory and stack lift matter here.
-- A line whose operand means nothing in any memory does, because it always fails. A function of a
-- module does not, because the calculator calls it.
abbrev pub GoesToNext : Line → Type 0
GoesToNext (Module number entry) = ⊥
GoesToNext line =
    (memory : RegisterMap) → IfOk (meant_of memory line) (λ meant. (row_of line meant).goes ≡ Next)

-- The line is at the position.
abbrev pub IsAt : PageMap → Line → Machine → Type 0
IsAt pages line machine =
    (first : PlacedLine)
    × LineAt pages machine.memory machine.focal.position (Ok first)
    × (first.line ≡ line)

-- Lines at the position are stepped one after another, each with the state that the one before
-- left.
abbrev pub StepsInTurn : PageMap → List Line → Machine → Machine → Type 0
StepsInTurn pages [] machine left = left ≡ machine
StepsInTurn pages (line ∷ lines) machine left =
    IsAt pages line machine
    × (after : Left)
    × StepsLine pages machine (Ok after)
    × StepsInTurn pages lines after.machine left

-- Lines are typed one after another.
abbrev pub TypesInTurn : PageMap → List Line → Machine → Machine → Type 0
TypesInTurn pages [] machine left = left ≡ machine
TypesInTurn pages (line ∷ lines) machine left =
    (after : Left)
    × TypesLine pages line machine (Ok after)
    × TypesInTurn pages lines after.machine left

-- Two machines have the same memory, with the stack, data registers, ALPHA and flags, and the same
-- stack lift. Their positions may differ.
abbrev pub AreAlike : Machine → Machine → Type 0
AreAlike machine other =
    (machine.memory ≡ other.memory) × (machine.focal.lift ≡ other.focal.lift)

-- Lines that continue at the next line leave the same memory and stack lift whether they are typed
-- or stepped, even if there are errors or flag 25 is set.
abbrev pub TypedAsStepped : Type 0
TypedAsStepped =
    (pages : PageMap) (lines : List Line) (machine other left typed : Machine)
    → All GoesToNext lines → AreAlike machine other
    → StepsInTurn pages lines machine left → TypesInTurn pages lines other typed
    → AreAlike left typed

-- If such lines can be stepped, they can be typed.
abbrev pub SteppedCanBeTyped : Type 0
SteppedCanBeTyped =
    (pages : PageMap) (lines : List Line) (machine other left : Machine)
    → All GoesToNext lines → AreAlike machine other
    → StepsInTurn pages lines machine left → (typed : Machine) × TypesInTurn pages lines other typed

-- Such a line calls no function of a module, and no name has to be searched outside memory.
abbrev pub NextIsHere : Type 0
NextIsHere =
    (pages : PageMap) (line : Line) (machine : Machine) (left : Left)
    → GoesToNext line → IsAt pages line machine
    → StepsLine pages machine (Ok left)
    → calls_outside left.answer ≡ false

-- A line calls nothing outside program memory, or is refused.
abbrev pub CallsNothing : Result Left FocalRefusal → Type 0
CallsNothing carried = IfOk carried (λ left. calls_outside left.answer ≡ false)

-- What the line at the position leaves by itself is what it leaves with all that it calls, if it
-- calls nothing outside program memory.
abbrev pub SteppedByItself : Type 0
SteppedByItself =
    (pages : PageMap) (machine : Machine) (carried : Result Left FocalRefusal)
    → CallsNothing carried
    → StepsLine pages machine carried → CarriesLine Program pages machine carried

-- The same for a typed line.
abbrev pub TypedByItself : Type 0
TypedByItself =
    (pages : PageMap) (line : Line) (machine : Machine) (carried : Result Left FocalRefusal)
    → CallsNothing carried
    → TypesLine pages line machine carried → CarriesLine (Keys line) pages machine carried
