-- Memory with lines that were written is sound, and the lines are read again.
use Rattle.std.proofs.Common.{refl, ◌≡◌, ℕ, ◌+◌, ◌-◌, ◌*◌, ◌/◌, ◌≤◌, true, List, ◌++◌, length, get_or, sym, ◌∙◌, ap, subst}
use Rattle.std.proofs.Common.{arith, All, Result, Ok, length-append, get_or-append-add, rules}
use Rattle.h41_codes.specs.ByteLaws.{ByteRoundTrip}
use Rattle.h41_codes.specs.declared.line.Line.{Line}
use Rattle.h41_ram.specs.RegisterMap.{RegisterMap, main_start, curtain_of, is_sound}
use Rattle.h41_program.specs.declared.listed_line.ListedLine.{ListedLine}
use Rattle.h41_program.specs.declared.refusal.ProgramRefusal.{ProgramRefusal}
use Rattle.h41_program.specs.Packing.{packed_lines, filler, packing, written_end}
use Rattle.h41_program.specs.ProgramBytes.{program_bytes, final_position}
use Rattle.h41_program.specs.ProgramLaws.{IsInner, HasLines, PackingFills, PackingHasFewNulls, WrittenIsRead}
use Rattle.h41_program.specs.ProgramLines.{Reads}
use Rattle.h41_program.specs.Rewriting.{with_program_bytes, with_program_lines}
use Rattle.h41_program.proofs.Packings.{length-packing}
use Rattle.h41_program.proofs.Rewritten.{program_new, final_new, sound_new}
use Rattle.h41_program.proofs.Rooms.{written-none, written-some}
use Rattle.h41_program.proofs.RoundTrips.{reads_behind, reads_packing}
use Rattle.h41_program.proofs.Walks.{from_reads}
use Rattle.std.proofs.lemmas.Grind.{common_steps}

-- A packing ends in .END.
final_bytes : (lines : List Line) (k : ℕ) → get_or (packing lines) (length (packing lines) - 3 + k) 0 ≡ get_or written_end k 0
final_bytes lines k = grind (arith, common_steps, length-append, get_or-append-add)

-- A packing fills whole registers.
pub registers_filled : (lines : List Line) → length (packing lines) ≡ 7 * (length (packing lines) / 7)
registers_filled lines = omega (arith, length-packing lines)

some_registers : (lines : List Line) → 1 ≤ length (packing lines) / 7
some_registers lines = omega (arith, length-packing lines)

pub fills : PackingFills
fills lines = (length (packing lines) / 7, registers_filled lines)

pub few_nulls : PackingHasFewNulls
few_nulls lines = (filler (length (packed_lines lines)), omega arith, refl)

same_memory : (one other : RegisterMap) → ◌≡◌ {A = Result RegisterMap ProgramRefusal} (Ok one) (Ok other) → one ≡ other
same_memory one other same = cc

-- There was room for lines that were written.
pub has_room : (memory new : RegisterMap) (lines : List Line) → with_program_lines memory lines ≡ Ok new
    → main_start + length (packing lines) / 7 ≤ curtain_of memory
has_room memory new lines done = search (rules, written-none)

pub is_rewritten : (memory new : RegisterMap) (lines : List Line) → with_program_lines memory lines ≡ Ok new
    → with_program_bytes memory (packing lines) ≡ new
is_rewritten memory new lines done =
    same_memory (with_program_bytes memory (packing lines)) new (sym (written-some memory lines (has_room memory new lines done)) ∙ done)

module _ (memory new : RegisterMap) (lines : List Line) (sound : is_sound memory ≡ true) (done : with_program_lines memory lines ≡ Ok new)
  where
    abbrev count : ℕ
    count = length (packing lines) / 7

    pub written_sound : is_sound new ≡ true
    written_sound =
        let first : get_or (packing lines) (length (packing lines) - 3) 0 ≡ 0xC0 =
        ap (λ n. get_or (packing lines) n 0) (omega arith) ∙ final_bytes lines 0 in
        let last : get_or (packing lines) (length (packing lines) - 1) 0 ≡ 0x20 =
        ap (λ n. get_or (packing lines) n 0) (omega (arith, length-packing lines)) ∙ final_bytes lines 2 in
        subst (λ (m : RegisterMap). is_sound m ≡ true) (is_rewritten memory new lines done)
        (sound_new memory sound (packing lines) count (registers_filled lines)
        (some_registers lines) (has_room memory new lines done) first last)

    pub written_bytes : program_bytes new ≡ packing lines
    written_bytes =
        ap program_bytes (sym (is_rewritten memory new lines done))
        ∙ program_new memory sound (packing lines) count (registers_filled lines) (some_registers lines) (has_room memory new lines done)

    pub written_final : final_position new ≡ length (packing lines) - 3
    written_final =
        ap final_position (sym (is_rewritten memory new lines done))
        ∙ final_new memory sound (packing lines) count (registers_filled lines) (some_registers lines) (has_room memory new lines done)

    pub written_reads : (at : ℕ) (listed : List ListedLine) → Reads (packing lines) (length (packing lines) - 3) at listed
        → Reads (program_bytes new) (final_position new) at listed
    written_reads at listed reads = search (rules, written_final, written_bytes)

-- Lines after others are read from the byte after these on.
pub written_behind : ByteRoundTrip → (memory new : RegisterMap) (lines rest : List Line) → is_sound memory ≡ true → All IsInner rest
    → with_program_lines memory (lines ++ rest) ≡ Ok new → HasLines new (length (packed_lines lines)) rest
written_behind again memory new lines rest sound inner done =
    let found = reads_behind again lines rest inner in
    let read = written_reads memory new (lines ++ rest) sound done (length (packed_lines lines)) found.0 found.1 in
    (found.0, from_reads new (length (packed_lines lines)) found.0 (written_sound memory new (lines ++ rest) sound done) read, found.2)

pub written_read : ByteRoundTrip → WrittenIsRead
written_read again memory new lines sound inner done =
    let found = reads_packing again lines inner in
    let read = written_reads memory new lines sound done 0 found.0 found.1.0 in
    (found.0, from_reads new 0 found.0 (written_sound memory new lines sound done) read, found.1.1)
