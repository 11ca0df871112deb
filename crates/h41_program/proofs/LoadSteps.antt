-- The steps of a load, one after another.
use Rattle.std.proofs.Common.{◌≡◌, ℕ, ◌+◌, ◌<◌, ◌≤◌, List, ◌++◌, length, refl, ap, Option, Some, None}
use Rattle.std.proofs.Common.{Result, Ok, Err, rules}
use Rattle.std.specs.Prelude.{MatchOption, IsOkAnd}
use Rattle.h41_codes.specs.declared.line.Line.{Line}
use Rattle.h41_ram.specs.RegisterMap.{RegisterMap, main_start, curtain_of}
use Rattle.h41_program.specs.declared.listed_line.ListedLine.{ListedLine}
use Rattle.h41_program.specs.declared.packer.Packer.{Packer}
use Rattle.h41_program.specs.declared.refusal.ProgramRefusal.{ProgramRefusal}
use Rattle.h41_program.specs.declared.refusal.ProgramRefusal.TheVariants.{BrokenProgram, NoRoom}
use Rattle.h41_program.specs.Edits.{lines_of, with_last_end, memory_with_answer, load_outcome, loaded_of, LoadsBehind}
use Rattle.h41_program.specs.private.Packers.{Packs}
use Rattle.h41_program.specs.Packing.{packed_lines}
use Rattle.h41_program.specs.ProgramLines.{Reads}
use Rattle.h41_program.specs.Rewriting.{with_program_lines, HasOutcome}
use Rattle.h41_program.proofs.Packings.{packed-less, length-packing, no_room}
use Rattle.h41_program.proofs.Rooms.{written-none}
use Rattle.h41_program.proofs.Cases.{not_both}

gives_err : {A : Type 0} (old new : RegisterMap) (result : Result (Unit {0}) ProgramRefusal) (refusal : ProgramRefusal)
    (given : Result A ProgramRefusal) (answer : A) (outcome : Result RegisterMap ProgramRefusal)
    → result ≡ Err refusal → given ≡ Err refusal → HasOutcome old new result (memory_with_answer tt outcome)
    → HasOutcome old new given (memory_with_answer answer outcome)
gives_err old new result refusal given answer outcome err same gives = search rules

-- Lines are refused if the first of them are too many already.
too_many : (memory : RegisterMap) (lines more : List Line) → curtain_of memory ≤ main_start + 320 → 2237 < length (packed_lines lines)
    → with_program_lines memory (lines ++ more) ≡ Err NoRoom
too_many memory lines more small many = search (rules, packed-less, no_room, length-packing, written-none)

-- The start of the lines that were loaded.
begins_there : (memory : RegisterMap) (packer : Packer) (lines more : List Line) (after : RegisterMap) (start : ℕ)
    → curtain_of memory ≤ main_start + 320 → Packs packer lines → start ≡ length packer.bytes.items
    → with_program_lines memory (lines ++ more) ≡ Ok after → start ≡ length (packed_lines lines)
begins_there memory packer lines more after start small packs is done = search (rules, too_many)

-- Lines that are written.
was_written : (old new : RegisterMap) (result : Result (Unit {0}) ProgramRefusal) (outcome : Result RegisterMap ProgramRefusal)
    → result ≡ Ok tt → HasOutcome old new result (memory_with_answer tt outcome) → (after : RegisterMap) × (outcome ≡ Ok after)
was_written old new result (Ok memory) ok gives = (memory, refl)
was_written old new result (Err refusal) ok gives = absurd (not_both result tt refusal ok gives.0)

gives_start : (old new : RegisterMap) (result : Result (Unit {0}) ProgramRefusal)
    (start place : ℕ) (outcome : Result RegisterMap ProgramRefusal)
    → result ≡ Ok tt → ((after : RegisterMap) → outcome ≡ Ok after → start ≡ place)
    → HasOutcome old new result (memory_with_answer tt outcome)
    → HasOutcome old new (Ok start) (memory_with_answer place outcome)
gives_start old new result start place (Ok memory) ok same gives = (ap (λ (n : ℕ). Ok n) (same memory refl), gives.1)
gives_start old new result start place (Err refusal) ok same gives = absurd (not_both result tt refusal ok gives.0)

-- The outcome of a load, given the lines before .END. and those of the bytes.
abbrev pub outcome_of : RegisterMap → Option (List ListedLine) → Option (List Line) → Result (RegisterMap × ℕ) ProgramRefusal
outcome_of memory None loaded = Err BrokenProgram
outcome_of memory (Some lines) loaded = load_outcome memory lines loaded

pub loads_behind : (memory : RegisterMap) (bytes : List ℕ) (before : Option (List ListedLine)) (given : List ListedLine)
    → Reads bytes (length bytes) 0 given → LoadsBehind memory bytes before (outcome_of memory before (loaded_of bytes given))
loads_behind memory bytes None given reads = refl
loads_behind memory bytes (Some lines) given reads = (given, reads, refl)

-- The list of memory does not reach .END.
pub load_broken : (memory : RegisterMap) (bytes : List ℕ) (first : Result Packer ProgramRefusal)
    (before : Option (List ListedLine)) (refusal : ProgramRefusal) (answer : Result ℕ ProgramRefusal)
    → MatchOption before (first ≡ Err BrokenProgram) (λ listed. IsOkAnd first (λ held. Packs held (lines_of listed))) → first ≡ Err refusal
    → answer ≡ Err refusal → LoadsBehind memory bytes before (Err BrokenProgram) × (answer ≡ Err BrokenProgram)
load_broken memory bytes first before refusal answer is err same = search rules

-- The facts about a load after the lines of memory are packed.
pub record Loading (before : Option (List ListedLine)) (loaded : Option (List Line)) (first : Result Packer ProgramRefusal)
    (packer closed_packer new : Packer) (put : Result (Unit {0}) ProgramRefusal) : Type 0 where
  pub program : MatchOption before (first ≡ Err BrokenProgram) (λ listed. IsOkAnd first (λ held. Packs held (lines_of listed)))
  pub begun : first ≡ Ok packer
  pub closes : (lines : List Line) → Packs packer lines → Packs closed_packer (with_last_end lines)
  pub puts : (front : List Line) → Packs closed_packer front
      → MatchOption loaded (put ≡ Err BrokenProgram) (λ lines. (put ≡ Ok tt) × Packs new (front ++ lines))

module _ (memory after : RegisterMap) (first : Result Packer ProgramRefusal)
    (packer closed_packer new : Packer) (put : Result (Unit {0}) ProgramRefusal) where
  packs_closed : (listed : List ListedLine) (loaded : Option (List Line)) → Loading (Some listed) loaded first packer closed_packer new put
      → Packs closed_packer (with_last_end (lines_of listed))
  packs_closed listed loaded is = search rules

  -- The given bytes are refused.
  pub load_refused : (before : Option (List ListedLine)) (loaded : Option (List Line))
      (refusal : ProgramRefusal) (answer : Result ℕ ProgramRefusal)
      → Loading before loaded first packer closed_packer new put → put ≡ Err refusal → answer ≡ Err refusal
      → HasOutcome memory memory answer (outcome_of memory before loaded)
  load_refused before loaded refusal answer is err same = search (rules, packs_closed)

  -- There is no room for the lines.
  pub load_unwritten : (before : Option (List ListedLine)) (loaded : Option (List Line))
      (wrote : Result (Unit {0}) ProgramRefusal) (refusal : ProgramRefusal) (answer : Result ℕ ProgramRefusal)
      → Loading before loaded first packer closed_packer new put → put ≡ Ok tt → wrote ≡ Err refusal → answer ≡ Err refusal
      → ((lines : List Line) → Packs new lines → HasOutcome memory after wrote (memory_with_answer tt (with_program_lines memory lines)))
      → HasOutcome memory after answer (outcome_of memory before loaded)
  load_unwritten before loaded wrote refusal answer is ok err same writes = search (rules, packs_closed, gives_err)

  -- The lines were written.
  pub load_written : (before : Option (List ListedLine)) (loaded : Option (List Line))
      (wrote : Result (Unit {0}) ProgramRefusal) (start : ℕ)
      → Loading before loaded first packer closed_packer new put → put ≡ Ok tt → wrote ≡ Ok tt → start ≡ length closed_packer.bytes.items
      → curtain_of memory ≤ main_start + 320
      → ((lines : List Line) → Packs new lines → HasOutcome memory after wrote (memory_with_answer tt (with_program_lines memory lines)))
      → HasOutcome memory after (Ok start) (outcome_of memory before loaded)
  load_written None loaded wrote start is ok done same small writes = absurd (not_both first packer BrokenProgram is.begun is.program)
  load_written (Some listed) None wrote start is ok done same small writes =
      absurd (not_both put tt BrokenProgram ok (is.puts (with_last_end (lines_of listed)) (packs_closed listed None is)))
  load_written (Some listed) (Some lines) wrote start is ok done same small writes =
      let all = with_last_end (lines_of listed) in
      gives_start memory after wrote start (length (packed_lines all)) (with_program_lines memory (all ++ lines)) done
      (λ memory_after room.
      begins_there memory closed_packer all lines memory_after start small (packs_closed listed (Some lines) is) same room)
      (writes (all ++ lines) (is.puts all (packs_closed listed (Some lines) is)).1)

  pub load_bound : (before : Option (List ListedLine)) (loaded : Option (List Line)) (wrote : Result (Unit {0}) ProgramRefusal) (start : ℕ)
      → Loading before loaded first packer closed_packer new put → put ≡ Ok tt → wrote ≡ Ok tt → start ≡ length closed_packer.bytes.items
      → curtain_of memory ≤ main_start + 320
      → ((lines : List Line) → Packs new lines → HasOutcome memory after wrote (memory_with_answer tt (with_program_lines memory lines)))
      → start ≤ 2237
  load_bound before loaded wrote start is ok done same small writes =
      search (rules, packs_closed, was_written, begins_there, too_many)
