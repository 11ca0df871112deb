-- `GTO . .` shows line 00 of the last program, by the answers of program memory.
use Rattle.std.proofs.Common.{◌≡◌, ℕ, Bool, true, false, List, [], refl, ap, ◌∙◌, Result, Ok, Err}
use Rattle.std.specs.Result.{result_unwrap_or}
use Rattle.h41_editor.specs.Moves.{EndsBy, GoesToEnd, returns_kept}
use Rattle.h41_positions.specs.FocalState.{FocalState, Machine, at_line_00}
use Rattle.h41_positions.specs.declared.position.Position.{Position}
use Rattle.h41_positions.specs.declared.position.Position.TheVariants.{Memory}
use Rattle.h41_program.specs.Edits.{Closes}
use Rattle.h41_program.specs.LastProgram.{open_in}
use Rattle.h41_program.specs.ProgramBytes.{final_position}
use Rattle.h41_program.specs.ProgramLaws.{ListsAreDetermined}
use Rattle.h41_program.specs.ProgramLines.{AnswersOf}
use Rattle.h41_program.specs.Rewriting.{HasOutcome}
use Rattle.h41_program.specs.Searches.{start_in}
use Rattle.h41_program.specs.declared.listed_line.ListedLine.{ListedLine}
use Rattle.h41_program.specs.declared.refusal.ProgramRefusal.{ProgramRefusal}
use Rattle.h41_ram.specs.RegisterMap.{RegisterMap}

-- The outcome of closing the last program, and the return addresses after it.
by_outcome :
    (machine : Machine) (new : RegisterMap) (lines : List ListedLine) (start : ℕ) (left : FocalState)
    (outcome : Result (RegisterMap × Unit {0}) ProgramRefusal)
    → HasOutcome machine.memory new (Ok tt) outcome
    → AnswersOf (start_in (final_position new)) new 0 start
    → left ≡ record (at_line_00 (Memory start) machine.focal) { returns = returns_kept (open_in lines) machine.focal.returns }
    → EndsBy machine lines outcome (Ok (record { memory = new; focal = left }))
by_outcome machine new lines start left (Ok closed) has begins is = rw (is, ← has.1) (start, begins, refl)
by_outcome machine new lines start left (Err refusal) has begins is =
    let never : ◌≡◌ {A = Result (Unit {0}) ProgramRefusal} (Ok tt) (Err refusal) = has.0 in cc

pub ended :
    (machine : Machine) (new : RegisterMap) (last : Result Bool ProgramRefusal) (start : ℕ) (left : FocalState)
    → ListsAreDetermined
    → Closes machine.memory new (Ok tt)
    → AnswersOf open_in machine.memory 0 last
    → AnswersOf (start_in (final_position new)) new 0 start
    → left ≡ record (at_line_00 (Memory start) machine.focal) { returns = returns_kept last machine.focal.returns }
    → GoesToEnd machine (Ok (record { memory = new; focal = left }))
ended machine new last start left one closes opens begins is =
    let same = opens.2 ∙ ap open_in (one machine.memory 0 opens.0 closes.0 opens.1 closes.1) in
    (closes.0, closes.1, by_outcome machine new closes.0 start left _ closes.2 begins (rw (← same) is))

-- All return addresses are cleared if the program was open, and are kept otherwise.
pub none_kept : (last : Result Bool ProgramRefusal) (returns : List Position) → result_unwrap_or last false ≡ true
    → returns_kept last returns ≡ []
none_kept (Ok true) returns was = refl
none_kept (Ok false) returns was = cc
none_kept (Err refusal) returns was = cc

pub all_kept : (last : Result Bool ProgramRefusal) (returns : List Position) → result_unwrap_or last false ≡ false
    → returns_kept last returns ≡ returns
all_kept (Ok true) returns was = cc
all_kept (Ok false) returns was = refl
all_kept (Err refusal) returns was = refl
