-- A line of one or two bytes at a position is the first line from there on, and no END.
use Rattle.std.proofs.Common.{◌≡◌, ◌≢◌, ℕ, ◌+◌, ◌<◌, List, [], ◌∷◌, length, true, false, Ok, rules}
use Rattle.std.proofs.Common.{Result, refl, sym, subst, ap, ◌∙◌, arith}
use Rattle.h41_codes.specs.ByteGrammar.{spelling, Begins, Spells}
use Rattle.h41_codes.specs.ByteLaws.{NumberBegins, OneLine}
use Rattle.h41_codes.specs.Heads.{IsOneByte, IsTwoBytes}
use Rattle.h41_codes.specs.declared.faults.BrokenProgram.{BrokenProgram}
use Rattle.h41_codes.specs.declared.line.Line.{Line}
use Rattle.h41_codes.specs.declared.line.Line.TheVariants.{End, FinalEnd}
use Rattle.h41_program.specs.Lines.{is_end, is_final_end}
use Rattle.h41_program.specs.ProgramBytes.{byte_count, final_position, program_byte}
use Rattle.h41_program.specs.ProgramLines.{HasFirst}
use Rattle.h41_program.specs.private.Reading.{bytes_seen}
use Rattle.h41_program.proofs.Memory.{Looked, looked_first}
use Rattle.h41_program.proofs.ShortLines.{BeginsNoNumber, begins_by, no_number, seen_alone, seen_narrow, whole_narrow}
use Rattle.h41_ram.specs.RegisterMap.{RegisterMap, is_sound}

-- Lines of one byte end neither a program nor memory.
pub ends_no_program : (byte : ℕ) (line : Line) → byte ∷ [] ≡ spelling line → false ≡ is_end line
ends_no_program byte (End link marks) same = absurd (omega (arith, ap length same))
ends_no_program byte line same = refl

pub ends_no_memory : (byte : ℕ) (line : Line) → byte ∷ [] ≡ spelling line → false ≡ is_final_end line
ends_no_memory byte (FinalEnd link marks) same = absurd (omega (arith, ap length same))
ends_no_memory byte line same = refl

module _ (one : OneLine) (numbers : NumberBegins) (memory : RegisterMap) (sound : is_sound memory ≡ true) (at last byte : ℕ)
    (last_is : last ≡ final_position memory) (count : last + 3 ≡ byte_count memory) (before : at < last)
    (is : byte ≡ program_byte memory at) (other : byte ≢ 0) (alone : IsOneByte byte) (line : Line) (spells : Spells (byte ∷ []) line) where
  looked : Looked memory at at last last (bytes_seen memory at last)
  looked = search rules

  pub one_byte_first : HasFirst memory at (record { listed = record { position = at; line = line }; behind = at + 1 })
  one_byte_first =
      let begins = begins_by numbers byte [] line spells.valid spells.same (no_number byte alone) in
      let answer : Result (Line × ℕ) BrokenProgram = Ok (line, 1) in
      looked_first one memory sound at at last last (bytes_seen memory at last) looked answer
      (seen_alone one numbers memory at last byte line 1 before is (no_number byte alone) begins) line 1 (at + 1) refl refl

-- The bytes at two positions.
seen_pair : (memory : RegisterMap) (at : ℕ) → bytes_seen memory at (at + 2) ≡ program_byte memory at ∷ program_byte memory (at + 1) ∷ []
seen_pair memory at = search rules

-- A byte that begins a line of two bytes begins no null and no number.
two_not_null : (byte : ℕ) → IsTwoBytes byte → byte ≢ 0
two_not_null byte two = search rules

two_no_number : (byte : ℕ) → IsTwoBytes byte → BeginsNoNumber byte
two_no_number byte two = search rules

module _ (one : OneLine) (numbers : NumberBegins) (memory : RegisterMap) (sound : is_sound memory ≡ true) (at last first second : ℕ)
    (last_is : last ≡ final_position memory) (count : last + 3 ≡ byte_count memory) (before : at + 1 < last)
    (is : first ≡ program_byte memory at) (next : second ≡ program_byte memory (at + 1)) (two : IsTwoBytes first)
    (line : Line) (spells : Spells (first ∷ second ∷ []) line) where
  seen : first ∷ second ∷ [] ≡ bytes_seen memory at (at + 2)
  seen = ap (λ byte. byte ∷ second ∷ []) is ∙ ap (λ byte. program_byte memory at ∷ byte ∷ []) next ∙ sym (seen_pair memory at)

  looked_two : Looked memory at at last last (bytes_seen memory at last)
  looked_two = search (rules, two_not_null)

  pub two_bytes_first : HasFirst memory at (record { listed = record { position = at; line = line }; behind = at + 2 })
  two_bytes_first =
      let pair : Begins (first ∷ second ∷ []) line 2 = record {
        inside = omega arith;
        spells = spells;
        whole = whole_narrow numbers line first 1 (second ∷ []) [] spells.valid spells.same (two_no_number first two);
      } in
      let begins : Begins (bytes_seen memory at (at + 2)) line 2 = subst (λ (bytes : List ℕ). Begins bytes line 2) seen pair in
      let answer : Result (Line × ℕ) BrokenProgram = Ok (line, 2) in
      looked_first one memory sound at at last last (bytes_seen memory at last) looked_two answer
      (seen_narrow one numbers memory at (at + 2) last first line 2 (omega (arith, before))
      (omega (arith, before)) is (two_no_number first two) begins)
      line 2 (at + 2) refl refl
