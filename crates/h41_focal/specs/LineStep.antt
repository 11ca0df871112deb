-- The execution of one line by itself, with one rule for all rows. Flag 25 and the effect of errors
-- are the Owner's Handbook's rules. The refusals and their order, line 00, and the effect of an
-- error of a typed line are this project's choices.
use Rattle.std.specs.Prelude.{◌≡◌, ℕ, false, IsTrue, List, [], MatchBool, Option}
use Rattle.std.specs.Prelude.{if◌then◌else◌, Some, None, Result, Ok, Err}
use Rattle.h41_codes.specs.declared.line.Line.{Line}
use Rattle.h41_codes.specs.declared.line.Line.TheVariants.{Module}
use Rattle.h41_focal.specs.Destinations.{Destination, Arrives, Halts, Stays, Tells, Runs, Seeks}
use Rattle.h41_focal.specs.Destinations.{HasNoLabel, HasNoLine, Goes, Manner, Stepped, Typed}
use Rattle.h41_rows.specs.LineRows.{row_of}
use Rattle.h41_rows.specs.Operands.{Meant, Address, meant_of}
use Rattle.h41_focal.specs.Outcomes.{Answer}
use Rattle.h41_focal.specs.Outcomes as answers
use Rattle.h41_rows.specs.Places.{are_numbers}
use Rattle.h41_rows.specs.Profile.{is_left_out}
use Rattle.h41_rows.specs.RowEffects.{lift_after, memory_after}
use Rattle.h41_rows.specs.Rows as rows
use Rattle.h41_rows.specs.Values.{Value, Computes}
use Rattle.h41_rows.specs.declared.fault.LineFault.{LineFault}
use Rattle.h41_rows.specs.declared.fault.LineFault.TheVariants.{AlphaData, Nonexistent}
use Rattle.h41_focal.specs.declared.refusal.FocalRefusal.{FocalRefusal}
use Rattle.h41_focal.specs.declared.refusal.FocalRefusal.TheVariants.{MemoryLost, BrokenProgram}
use Rattle.h41_focal.specs.declared.refusal.FocalRefusal.TheVariants.{NotInProfile}
use Rattle.h41_pages.specs.PageMap.{PageMap}
use Rattle.h41_positions.specs.FocalState.{Machine, at_halt, at_line, with_returns}
use Rattle.h41_positions.specs.Positions.{LineAt, NextAt}
use Rattle.h41_positions.specs.declared.position.PlacedLine.{PlacedLine}
use Rattle.h41_positions.specs.declared.position.Position.{Position}
use Rattle.h41_program.specs.declared.refusal.ProgramRefusal.{ProgramRefusal}
use Rattle.h41_ram.specs.NamedFlags.{error_ignore}
use Rattle.h41_ram.specs.RegisterMap.{RegisterMap, flag_of, is_sound, register_at, with_flag, zeros}
use Rattle.h41_show.specs.DisplayFormat.{format_of}
use Rattle.h41_show.specs.RegisterText.{alpha_text, register_text}

-- The machine after a line, and the line's answer.
pub record Left : Type 0 where
  pub machine : Machine
  pub answer : Answer

-- The register that a row computes, or its error. A row that computes nothing does not use the
-- register.
abbrev pub ComputesIn : RegisterMap → ℕ → Option Value → Result (List ℕ) LineFault → Type 0
ComputesIn memory named None result = result ≡ Ok zeros
ComputesIn memory named (Some value) result = Computes value memory named result

-- Whether the places contain numbers is tested before anything is computed.
abbrev pub Works : RegisterMap → ℕ → rows.LineRow → Result (List ℕ) LineFault → Type 0
Works memory named row result =
    MatchBool (are_numbers memory named (rows.numbers_of row))
    (ComputesIn memory named row.value result) (result ≡ Err AlphaData)

-- The answer for a text that is shown, which depends on whether the program continues.
abbrev pub shown_text : List ℕ → rows.RowEnding → Answer
shown_text text rows.GoesOn = answers.Viewed text
shown_text text ending = answers.Prompted text

-- The answer of a line that shows nothing.
abbrev pub answer_of_ending : rows.RowEnding → Answer
answer_of_ending rows.GoesOn = answers.Done
answer_of_ending rows.Stops = answers.Stopped
answer_of_ending rows.TurnsOff = answers.TurnedOff

-- The answer of a line, by what it shows and whether the program continues.
abbrev pub answer_of_showing : RegisterMap → ℕ → rows.Showing → rows.RowEnding → Answer
answer_of_showing memory named rows.AsBefore ending = answer_of_ending ending
answer_of_showing memory named rows.NoText ending = answers.Cleared
answer_of_showing memory named rows.NamedText ending =
    shown_text (register_text (format_of memory) (register_at memory named)) ending
answer_of_showing memory named rows.AlphaText ending = shown_text (alpha_text memory) ending

-- The flag that makes a program ignore an error, flag 25.
abbrev pub error_flag : ℕ
error_flag = error_ignore

-- An error is ignored: flag 25 is cleared.
abbrev pub with_fault_caught : Machine → Machine
with_fault_caught machine = record machine { memory = with_flag machine.memory error_flag false }

-- An error is shown.
abbrev pub left_failed : Machine → LineFault → Left
left_failed machine fault = record { machine = machine; answer = answers.Failed fault }

-- A line is done.
abbrev pub left_done : Machine → Left
left_done machine = record { machine = machine; answer = answers.Done }

-- If flag 25 is set, it is cleared and the program continues at the next line. Otherwise the error
-- is shown and the program stops at the line, which is then not line 00. After a typed line the
-- position is unchanged.
abbrev pub left_by_fault : Manner → Machine → LineFault → Left
left_by_fault (Stepped next) machine fault =
    if flag_of machine.memory error_flag then left_done (at_line next (with_fault_caught machine))
    else left_failed (at_line machine.focal.position machine) fault
left_by_fault Typed machine fault =
    if flag_of machine.memory error_flag then left_done (with_fault_caught machine)
    else left_failed machine fault

-- A line has an error.
abbrev pub EndsInError : Manner → Machine → LineFault → Result Left FocalRefusal → Type 0
EndsInError how machine fault carried = carried ≡ Ok (left_by_fault how machine fault)

-- The outcome of a line whose row is applied, by the place at which execution continues.
abbrev pub Ends : Manner → Machine → Machine → Answer → Destination → Result Left FocalRefusal
    → Type 0
Ends how old new answer (Arrives position returns) carried =
    carried ≡ Ok (record { machine = at_line position (with_returns returns new); answer = answer })
Ends (Stepped next) old new answer (Halts start) carried =
    carried ≡ Ok (record { machine = at_halt start new; answer = answers.Stopped })
Ends Typed old new answer (Halts start) carried = carried ≡ Ok (left_done (at_halt start new))
Ends how old new answer Stays carried = carried ≡ Ok (record { machine = new; answer = answer })
Ends how old new answer (Tells holds) carried =
    carried ≡ Ok (record { machine = new; answer = answers.Answered holds })
Ends how old new answer (Runs position) carried =
    carried ≡ Ok (record {
      machine = at_line position (with_returns [] new);
      answer =
          answers.Runs;
    })
-- nothing changes by the line itself if the name has to be searched outside program memory, or if
-- the line to be skipped cannot be read
Ends how old new answer (Seeks name) carried =
    carried ≡ Ok (record { machine = old; answer = answers.Seeks name })
Ends how old new answer HasNoLabel carried = EndsInError how old Nonexistent carried
Ends how old new answer HasNoLine carried = carried ≡ Err BrokenProgram

-- The machine after the changes of a row.
abbrev pub with_row : rows.LineRow → ℕ → List ℕ → Machine → Machine
with_row row named result machine = record {
  memory = memory_after row named result machine.focal.lift machine.memory;
  focal = record machine.focal { lift = lift_after row.lift machine.focal.lift };
}

-- A row is applied, given the register that its line names and the computed register, or an error.
abbrev pub AppliesWith : PageMap → Manner → rows.LineRow → ℕ → Machine → Result (List ℕ) LineFault
    → Result Left FocalRefusal → Type 0
AppliesWith pages how row named machine (Err fault) carried = EndsInError how machine fault carried
AppliesWith pages how row named machine (Ok result) carried =
    (to : Destination)
    × Goes pages how row.goes machine.memory named machine.focal.position machine.focal.returns to
    × Ends how machine (with_row row named result machine)
    (answer_of_showing machine.memory named row.shows row.ends) to carried

-- A row is applied, given the register that its line names.
abbrev pub Applies : PageMap → Manner → rows.LineRow → ℕ → Machine → Result Left FocalRefusal
    → Type 0
Applies pages how row named machine carried =
    (result : Result (List ℕ) LineFault)
    × Works machine.memory named row result
    × AppliesWith pages how row named machine result carried

-- The address of the register that a line names. A line that names none does not use it.
abbrev pub named_by : Meant → ℕ
named_by (Address address) = address
named_by meant = 0

-- A line is applied, given the meaning of its operand, or an error.
abbrev pub AppliesTo : PageMap → Manner → Line → Machine → Result Meant LineFault
    → Result Left FocalRefusal
    → Type 0
AppliesTo pages how line machine (Err fault) carried = EndsInError how machine fault carried
AppliesTo pages how line machine (Ok meant) carried =
    Applies pages how (row_of line meant) (named_by meant) machine carried

-- A supported line is executed. A line that calls a function of a module changes nothing by itself.
abbrev pub CarriesOut : PageMap → Manner → Line → Machine → Result Left FocalRefusal → Type 0
CarriesOut pages how (Module number entry) machine carried =
    carried ≡ Ok (record { machine = machine; answer = answers.Calls number entry })
CarriesOut pages how line machine carried =
    AppliesTo pages how line machine (meant_of machine.memory line) carried

-- A line that is not supported is refused as NotInProfile (13).
abbrev pub TakesLine : PageMap → Manner → Line → Machine → Result Left FocalRefusal → Type 0
TakesLine pages how line machine carried =
    MatchBool (is_left_out line) (carried ≡ Err NotInProfile)
    (CarriesOut pages how line machine carried)

-- A typed line is executed by itself. It is refused as MemoryLost (15) if memory is not sound.
abbrev pub TypesLine : PageMap → Line → Machine → Result Left FocalRefusal → Type 0
TypesLine pages line machine carried =
    MatchBool (is_sound machine.memory)
    (TakesLine pages Typed line machine carried) (carried ≡ Err MemoryLost)

-- The line at a position and the position of the next line, or a refusal: MemoryLost (15) if memory
-- is not sound, BrokenProgram (14) if no line can be read there.
abbrev pub StandsAt : PageMap → RegisterMap → Position → Result (Line × Position) FocalRefusal
    → Type 0
StandsAt pages memory at (Ok standing) =
    IsTrue (is_sound memory)
    × ((first : PlacedLine) × LineAt pages memory at (Ok first) × (first.line ≡ standing.0))
    × NextAt pages memory at (Ok standing.1)
StandsAt pages memory at (Err refusal) =
    MatchBool (is_sound memory)
    ((refusal ≡ BrokenProgram) × (why : ProgramRefusal) × LineAt pages memory at (Err why))
    (refusal ≡ MemoryLost)

-- The line at the machine's position.
abbrev pub Stands : PageMap → Machine → Result (Line × Position) FocalRefusal → Type 0
Stands pages machine standing = StandsAt pages machine.memory machine.focal.position standing

-- The line at the position is executed by itself, or refused.
abbrev pub StepsAs : PageMap → Machine → Result (Line × Position) FocalRefusal
    → Result Left FocalRefusal → Type 0
StepsAs pages machine (Ok standing) carried =
    TakesLine pages (Stepped standing.1) standing.0 machine carried
StepsAs pages machine (Err refusal) carried = carried ≡ Err refusal

-- The line at the position is executed by itself.
abbrev pub StepsLine : PageMap → Machine → Result Left FocalRefusal → Type 0
StepsLine pages machine carried =
    (standing : Result (Line × Position) FocalRefusal)
    × Stands pages machine standing
    × StepsAs pages machine standing carried

-- A typed line calls a program, which runs from a position on, without return addresses.
abbrev pub with_program_run : Position → Machine → Machine
with_program_run start machine = at_line start (with_returns [] machine)
