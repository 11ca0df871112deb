-- Closing the last program.
use Rattle.std.proofs.Common.{◌≡◌, Bool, true, false, List, sym, ◌∙◌, ap, subst, Option, Some, None, Result, Ok, Err, rules}
use Rattle.std.specs.Prelude.{MatchOption, IsOkAnd, not, if◌then◌else◌}
use Rattle.std.specs.Option.{option_map_or}
use Rattle.h41_codes.specs.declared.line.Line.{Line}
use Rattle.h41_ram.specs.RegisterMap.{RegisterMap, is_sound}
use Rattle.h41_program.specs.declared.listed_line.ListedLine.{ListedLine}
use Rattle.h41_program.specs.declared.packer.Packer.{Packer}
use Rattle.h41_program.specs.declared.refusal.ProgramRefusal.{ProgramRefusal}
use Rattle.h41_program.specs.declared.refusal.ProgramRefusal.TheVariants.{BrokenProgram}
use Rattle.h41_program.specs.Edits.{lines_of, memory_with_answer, before_end, close_behind, close_outcome, with_last_end, is_open, Closes}
use Rattle.h41_program.specs.LastProgram.{open_before}
use Rattle.h41_program.specs.Lines.{is_end}
use Rattle.h41_program.specs.private.Packers.{Packs}
use Rattle.h41_program.specs.Rewriting.{with_program_lines, HasOutcome}
use Rattle.h41_program.proofs.Outcomes.{written_outcome}

-- Whether lines need an END.
pub open_test : (packer : Packer) (lines : List Line) (answer : Bool) → Packs packer lines
    → answer ≡ option_map_or (λ line. not (is_end line)) packer.last false → answer ≡ is_open lines
open_test packer lines answer packs is = is ∙ ap (λ (o : Option Line). option_map_or (λ line. not (is_end line)) o false) packs.last

-- Whether the last program is open, by its packed lines.
pub open_ok : (before : Option (List ListedLine)) (first : Result Packer ProgramRefusal) (packer : Packer) (answer : Bool)
    → MatchOption before (first ≡ Err BrokenProgram) (λ listed. IsOkAnd first (λ held. Packs held (lines_of listed))) → first ≡ Ok packer
    → answer ≡ option_map_or (λ line. not (is_end line)) packer.last false → Ok answer ≡ open_before before
open_ok before first packer answer matches ok is = search (rules, open_test)

pub open_err : (before : Option (List ListedLine)) (first : Result Packer ProgramRefusal) (refusal : ProgramRefusal)
    → MatchOption before (first ≡ Err BrokenProgram) (λ listed. IsOkAnd first (λ held. Packs held (lines_of listed))) → first ≡ Err refusal
    → Err refusal ≡ open_before before
open_err before first refusal matches err = search rules

pub closed_some : (old left : RegisterMap) (result : Result (Unit {0}) ProgramRefusal) (lines : List Line) → is_open lines ≡ true
    → HasOutcome old left result (memory_with_answer tt (with_program_lines old (with_last_end lines)))
    → HasOutcome old left result (close_outcome old lines)
closed_some old left result lines some has = search rules

pub close_ok : (old left : RegisterMap) (before : Option (List ListedLine))
    (first : Result Packer ProgramRefusal) (packer : Packer) (result : Result (Unit {0}) ProgramRefusal)
    → MatchOption before (first ≡ Err BrokenProgram) (λ listed. IsOkAnd first (λ held. Packs held (lines_of listed))) → first ≡ Ok packer
    → ((lines : List Line) → Packs packer lines → HasOutcome old left result (close_outcome old lines))
    → HasOutcome old left result (close_behind old before)
close_ok old left before first packer result matches ok closes = search rules

-- The memory after closing is sound.
outcome_sound : (b : Bool) (old left : RegisterMap) (result : Result (Unit {0}) ProgramRefusal) (lines : List Line) → is_sound old ≡ true
    → HasOutcome old left result (if b then memory_with_answer tt (with_program_lines old lines) else Ok (old, tt)) → is_sound left ≡ true
outcome_sound true old left result lines sound has = written_outcome old left result tt lines sound has
outcome_sound false old left result lines sound has = subst (λ (m : RegisterMap). is_sound m ≡ true) (sym has.1) sound

behind_sound : (old left : RegisterMap) (result : Result (Unit {0}) ProgramRefusal) (before : Option (List ListedLine))
    → is_sound old ≡ true → HasOutcome old left result (close_behind old before) → is_sound left ≡ true
behind_sound old left result None sound has = subst (λ (m : RegisterMap). is_sound m ≡ true) (sym has.1) sound
behind_sound old left result (Some lines) sound has =
    outcome_sound (is_open (lines_of lines)) old left result (with_last_end (lines_of lines)) sound has

pub close_sound : (old left : RegisterMap) (result : Result (Unit {0}) ProgramRefusal) → is_sound old ≡ true → Closes old left result
    → is_sound left ≡ true
close_sound old left result sound closes = behind_sound old left result (before_end closes.0) sound closes.2
