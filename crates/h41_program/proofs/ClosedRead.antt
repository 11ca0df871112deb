-- Memory after its last program is closed is read again.
use Rattle.std.proofs.Common.{◌≡◌, Bool, true, false, List, [], ◌∷◌, ◌++◌, refl, sym, ◌∙◌, ap, All, Option, Some, None}
use Rattle.std.proofs.Common.{Result, Ok, Err, rules}
use Rattle.std.specs.Prelude.{OnOk, not, if◌then◌else◌}
use Rattle.std.specs.Option.{option_map, option_map_or}
use Rattle.h41_codes.specs.ByteLaws.{ByteRoundTrip}
use Rattle.h41_codes.specs.declared.line.Line.{Line}
use Rattle.h41_codes.specs.declared.line.Line.TheVariants.{End, FinalEnd}
use Rattle.h41_ram.specs.RegisterMap.{RegisterMap, is_sound}
use Rattle.h41_program.specs.declared.listed_line.ListedLine.{ListedLine}
use Rattle.h41_program.specs.declared.refusal.ProgramRefusal.{ProgramRefusal}
use Rattle.h41_program.specs.declared.refusal.ProgramRefusal.TheVariants.{BrokenProgram}
use Rattle.h41_program.specs.Edits.{lines_of, memory_with_answer, before_end, close_behind, with_last_end, is_open, Closes}
use Rattle.h41_program.specs.LastProgram.{CloseIsRead, ClosedIsNotOpen, LeavesClosed}
use Rattle.h41_program.specs.Lines.{is_end, is_final_end}
use Rattle.h41_program.specs.ProgramBytes.{program_bytes, final_position}
use Rattle.h41_program.specs.ProgramLaws.{IsInner}
use Rattle.h41_program.specs.ProgramLines.{LinesFrom}
use Rattle.h41_program.specs.Rewriting.{with_program_lines, HasOutcome}
use Rattle.h41_program.proofs.Inner.{before_inner, closed_inner, not_final}
use Rattle.h41_program.proofs.Packings.{last_line-more}
use Rattle.h41_program.proofs.RoundTrips.{first_inner, others_inner}
use Rattle.h41_program.proofs.Written.{written_read}

no_lines : (line : Line) (lines : List Line) → ◌≡◌ {A = List Line} [] (line ∷ lines) → ⊥
no_lines line lines same = cc

same_first : (line other : Line) (lines others : List Line) → ◌≡◌ {A = List Line} (line ∷ lines) (other ∷ others) → line ≡ other
same_first line other lines others same = cc

same_rest : (line other : Line) (lines others : List Line) → ◌≡◌ {A = List Line} (line ∷ lines) (other ∷ others) → lines ≡ others
same_rest line other lines others same = cc

-- In a list that ends in .END., the other lines precede it.
ends_with : (lines : List Line) (listed : List ListedLine) → All IsInner lines → lines_of listed ≡ lines ++ FinalEnd 0 0 ∷ []
    → (after : List ListedLine) × (before_end listed ≡ Some after) × (lines_of after ≡ lines)
ends_with [] [] inner same = absurd (no_lines (FinalEnd 0 0) [] same)
ends_with (line ∷ lines) [] inner same = absurd (no_lines line (lines ++ FinalEnd 0 0 ∷ []) same)
ends_with [] (first ∷ rest) inner same = search (rules, no_lines, same_first, others_inner, same_rest, not_final, first_inner)
ends_with (line ∷ lines) (first ∷ rest) inner same =
    let here = same_first first.line line (lines_of rest) (lines ++ FinalEnd 0 0 ∷ []) same in
    let more =
    ends_with lines rest (others_inner line lines inner) (same_rest first.line line (lines_of rest) (lines ++ FinalEnd 0 0 ∷ []) same) in
    let running : is_final_end first.line ≡ false = ap is_final_end here ∙ not_final line (first_inner line lines inner).inner in (
      first ∷ more.0,
      rw running (ap (λ (o : Option (List ListedLine)). option_map (λ lines. first ∷ lines) o) more.1),
      ap (λ (l : List Line). first.line ∷ l) more.2 ∙ ap (λ (l : Line). l ∷ lines) here,
    )

-- Closed lines are not open.
closed_shut_by : (b : Bool) (lines : List Line) → is_open lines ≡ b → is_open (if b then lines ++ End 0 0 ∷ [] else lines) ≡ false
closed_shut_by true lines is = ap (λ (o : Option Line). option_map_or (λ line. not (is_end line)) o false) (last_line-more lines (End 0 0))
closed_shut_by false lines is = is

pub closed_shut : ClosedIsNotOpen
closed_shut lines = closed_shut_by (is_open lines) lines refl

refused_is_not_done : (refusal : ProgramRefusal) → ◌≡◌ {A = Result (Unit {0}) ProgramRefusal} (Ok tt) (Err refusal) → ⊥
refused_is_not_done refusal same = cc

was_written : (old left : RegisterMap) (outcome : Result RegisterMap ProgramRefusal)
    → HasOutcome {A = Unit {0}} old left (Ok tt) (memory_with_answer tt outcome) → outcome ≡ Ok left
was_written old left (Ok memory) has = ap (λ (m : RegisterMap). Ok m) (sym has.1)
was_written old left (Err refusal) has = absurd (refused_is_not_done refusal has.0)

module _ (again : ByteRoundTrip) (old left : RegisterMap) (lines before : List ListedLine)
    (sound : is_sound old ≡ true) (from : LinesFrom old 0 lines)
    (own : before_end lines ≡ Some before) where
  leaves_lines : (b : Bool) → is_open (lines_of before) ≡ b
      → HasOutcome {A = Unit {0}} old left (Ok tt) (if b then memory_with_answer tt
      (with_program_lines old (with_last_end (lines_of before))) else Ok (old, tt))
      → LeavesClosed old left
  leaves_lines true wants has =
      let all = with_last_end (lines_of before) in
      let inner =
      closed_inner (lines_of before) (before_inner (program_bytes old) (final_position old) 0 lines before (from.sound sound) own) in
      let read = written_read again old left all sound inner (was_written old left (with_program_lines old all) has) in
      let after = ends_with all read.0 inner read.2 in
      record {
        lines = lines;
        before = before;
        listed = read.0;
        after = after.0;
        from = from;
        own = own;
        read = read.1;
        all = after.1;
        same = after.2;
      }
  leaves_lines false stands has = search (rules, closed_inner, before_inner, written_read, was_written, ends_with)

leaves_behind : ByteRoundTrip → (old left : RegisterMap) (lines : List ListedLine) (before : Option (List ListedLine)) → is_sound old ≡ true
    → LinesFrom old 0 lines → before_end lines ≡ before → HasOutcome {A = Unit {0}} old left (Ok tt) (close_behind old before)
    → LeavesClosed old left
leaves_behind again old left lines None sound from own has = absurd (refused_is_not_done BrokenProgram has.0)
leaves_behind again old left lines (Some before) sound from own has = search (rules, leaves_lines)

-- In memory that is not sound the last program is never closed.
pub close_read : ByteRoundTrip → CloseIsRead
close_read again old left closes = search (rules, leaves_behind)

pub close_leaves : CloseIsRead → (old left : RegisterMap) (result : Result (Unit {0}) ProgramRefusal) → Closes old left result
    → OnOk result (LeavesClosed old left)
close_leaves read old left (Ok done) closes = read old left closes
close_leaves read old left (Err refusal) closes = tt
