-- What was loaded is a program.
use Rattle.std.proofs.Common.{◌≡◌, ℕ, ◌+◌, ◌≤◌, Bool, true, false, List, [], ◌∷◌, ◌++◌, Option, Some, None, Result, Ok, Err, length}
use Rattle.std.proofs.Common.{refl, sym, ap, ◌∙◌, subst, arith, append_assoc, append-nil, inl, inr}
use Rattle.std.specs.Prelude.{◌&&◌, nat_lt, not}
use Rattle.std.specs.Option.{option_map_or}
use Rattle.std.proofs.lemmas.Bool.{cases_Bool}
use Rattle.std.proofs.lemmas.Bool.{lt-ltb}
use Rattle.h41_codes.specs.declared.line.Line.{Line}
use Rattle.h41_codes.specs.declared.line.Line.TheVariants.{End, FinalEnd}
use Rattle.h41_program.specs.Edits.{LoadGives, LoadsBehind, before_end, is_open, lines_of, load_outcome, loaded_of}
use Rattle.h41_program.specs.Edits.{memory_with_answer, with_last_end}
use Rattle.h41_program.specs.LastProgram.{ClosedIsNotOpen}
use Rattle.h41_program.specs.Lines.{is_end, is_final_end}
use Rattle.h41_program.specs.Packing.{last_line}
use Rattle.h41_program.specs.ProgramBytes.{final_position, program_bytes}
use Rattle.h41_program.specs.ProgramLaws.{LeavesLoaded, ListsAreDetermined, LoadIsRead, ReadIsDetermined}
use Rattle.h41_program.specs.FirstLines.{behind}
use Rattle.h41_program.specs.ProgramLines.{LinesFrom, Reads}
use Rattle.h41_program.specs.Rewriting.{HasOutcome, with_program_lines}
use Rattle.h41_program.specs.Searches.{start_in}
use Rattle.h41_program.specs.declared.listed_line.ListedLine.{ListedLine}
use Rattle.h41_program.specs.declared.refusal.ProgramRefusal.{ProgramRefusal}
use Rattle.h41_program.proofs.SearchSteps.{start_in-behind, start_in-more}
use Rattle.h41_ram.specs.RegisterMap.{RegisterMap, is_sound}
use Rattle.h41_reasoning_lines.specs.Loads.{AreBytesOf, FirstLoadedIsProgram, LoadedIsProgram, PartsArePrograms}
use Rattle.h41_reasoning_lines.specs.ProgramLines.{IsProgram}
use Rattle.h41_reasoning_lines.proofs.Labels.{ends_before, find_none, none_late, reads_later}
use Rattle.h41_reasoning_lines.proofs.Listed.{lines_from}

no_lines : (line : Line) (lines : List Line) → ◌≡◌ {A = List Line} (line ∷ lines) [] → ⊥
no_lines line lines same = cc

some_lines : (front lines : List Line) → front ++ (lines ++ FinalEnd 0 0 ∷ []) ≡ [] → ⊥
some_lines [] [] nil = no_lines (FinalEnd 0 0) [] nil
some_lines [] (line ∷ lines) nil = no_lines line (lines ++ FinalEnd 0 0 ∷ []) nil
some_lines (line ∷ front) lines nil = no_lines line (front ++ (lines ++ FinalEnd 0 0 ∷ [])) nil

no_last : (front : List Line) → last_line front ≡ None → front ≡ []
no_last [] is = refl
no_last (line ∷ []) is = absurd (cc)
no_last (line ∷ next ∷ lines) is = absurd (no_lines next lines (no_last (next ∷ lines) is))

-- The last of some lines, and those before it.
split_last : (front : List Line) (line : Line) → last_line front ≡ Some line → (before : List Line) × (front ≡ before ++ line ∷ [])
split_last [] line is = absurd (cc)
split_last (first ∷ []) line is = let same : first ≡ line = cc in ([], ap (λ (l : Line). l ∷ []) same)
split_last (first ∷ next ∷ lines) line is =
    let more = split_last (next ∷ lines) line is in (first ∷ more.0, ap (λ (l : List Line). first ∷ l) more.1)

is_not_open : (end : Bool) → not end ≡ false → end ≡ true
is_not_open true fails = refl
is_not_open false fails = absurd (cc)

no_final : (line : Line) → is_end line ≡ true → is_final_end line ≡ false
no_final (End link marks) is = refl
no_final line is = absurd (cc)

-- A list of lines, in two parts.
record HasParts (listed : List ListedLine) (front rest : List Line) : Type 0 where
  early : List ListedLine
  late : List ListedLine
  parts : listed ≡ early ++ late
  front_is : lines_of early ≡ front
  rest_is : lines_of late ≡ rest

parts_of : (front : List Line) (listed : List ListedLine) (rest : List Line) → lines_of listed ≡ front ++ rest
    → HasParts listed front rest
parts_of [] listed rest are = record { early = []; late = listed; parts = refl; front_is = refl; rest_is = are }
parts_of (line ∷ front) [] rest are = absurd (cc)
parts_of (line ∷ front) (first ∷ more) rest are =
    let here : first.line ≡ line = cc in
    let others : lines_of more ≡ front ++ rest = cc in
    let found = parts_of front more rest others in
    record {
      early = first ∷ found.early;
      late = found.late;
      parts = ap (λ (l : List ListedLine). first ∷ l) found.parts;
      front_is = ap (λ (l : List Line). first.line ∷ l) found.front_is ∙ ap (λ (l : Line). l ∷ front) here;
      rest_is = found.rest_is;
    }

-- An END among lines is before the byte after it.
end_passed : (line : Line) (position : ℕ) → is_end line ≡ true
    → (is_end line && nat_lt position (behind (record { position = position; line = line }))) ≡ true
end_passed (End link marks) position is = lt-ltb position (position + 3) (omega arith)
end_passed line position is = absurd (cc)

module _ (memory : RegisterMap) (sound : is_sound memory ≡ true) where
  abbrev ReadsThere : ℕ → List ListedLine → Type 0
  ReadsThere at listed = Reads (program_bytes memory) (final_position memory) at listed

  -- The lines after an END begin a program.
  begins_behind : (early late : List ListedLine) (end : ListedLine) → is_end end.line ≡ true → ReadsThere (behind end) late
      → start_in (behind end) ((early ++ end ∷ []) ++ late) ≡ behind end
  begins_behind early [] end is reads =
      ap (start_in (behind end)) (append-nil (early ++ end ∷ [])) ∙ start_in-more (behind end) early end
      ∙ (rw (end_passed end.line end.position is) refl)
  begins_behind early (first ∷ rest) end is reads =
      let low : behind end ≤ first.position = reads.0.from in
      start_in-behind (behind end) (program_bytes memory) (final_position memory) (behind first) (early ++ end ∷ []) first rest low refl
      reads.1
      ∙ start_in-more (behind end) early end
      ∙ (rw (end_passed end.line end.position is) refl)

  -- The list from the start of memory on, in parts.
  program_behind : (all early late : List ListedLine) (end : ListedLine) (lines : List Line) → ReadsThere 0 all
      → all ≡ (early ++ end ∷ []) ++ late → is_end end.line ≡ true → is_final_end end.line ≡ false → lines_of late ≡ lines
      → IsProgram memory (behind end) lines
  program_behind all early late end lines reads parts is other are =
      let own : ReadsThere (behind end) late = reads_later memory sound 0 early end late other (subst (ReadsThere 0) parts reads) in
      record {
        has = record {
          listed = late;
          others = [];
          from = lines_from memory sound (behind end) late own;
          are = are ∙ sym (append-nil lines);
        };
        begins = (
          all,
          lines_from memory sound 0 all reads,
          sym (ap (start_in (behind end)) parts ∙ begins_behind early late end is own),
        );
      }

  -- The first program.
  program_first : (all : List ListedLine) (lines : List Line) → ReadsThere 0 all → lines_of all ≡ lines → IsProgram memory 0 lines
  program_first all lines reads are = record {
    has = record { listed = all; others = []; from = lines_from memory sound 0 all reads; are = are ∙ sym (append-nil lines) };
    begins = (
      all,
      lines_from memory sound 0 all reads,
      sym
          (ap (λ (found : Option ListedLine). option_map_or behind found 0)
          (find_none (ends_before 0) all (none_late memory sound 0 0 all (omega arith) reads))),
    );
  }

  from_end : (all early late : List ListedLine) (line : Line) (lines : List Line) → ReadsThere 0 all → is_end line ≡ true
      → all ≡ early ++ late → lines_of late ≡ line ∷ lines
      → (at : ℕ) × IsProgram memory at lines
  from_end all early [] line lines reads is parts rest = absurd (cc)
  from_end all early (end ∷ late) line lines reads is parts rest =
      let here : end.line ≡ line = cc in
      let others : lines_of late ≡ lines = cc in
      let is_one : is_end end.line ≡ true = ap is_end here ∙ is in (
        behind end,
        program_behind all early late end lines reads (parts ∙ sym (append_assoc early (end ∷ []) late)) is_one (no_final end.line is_one)
            others,
      )

  -- A program after other lines, which end in END if there are any.
  program_after : (all : List ListedLine) (front lines : List Line) (last : Option Line) → ReadsThere 0 all
      → lines_of all ≡ front ++ lines → last_line front ≡ last → option_map_or (λ line. not (is_end line)) last false ≡ false
      → (at : ℕ) × IsProgram memory at lines
  program_after all front lines None reads are is closed =
      (0, program_first all lines reads (are ∙ ap (λ (l : List Line). l ++ lines) (no_last front is)))
  program_after all front lines (Some line) reads are is closed =
      let last = split_last front line is in
      let found =
      parts_of last.0 all (line ∷ lines) (are ∙ ap (λ (l : List Line). l ++ lines) last.1 ∙ append_assoc last.0 (line ∷ []) lines) in
      from_end all found.early found.late line lines reads (is_not_open (is_end line) closed) found.parts found.rest_is

-- The first lines of a program.
first_part : (memory : RegisterMap) (at : ℕ) (lines more : List Line) → IsProgram memory at (lines ++ more) → IsProgram memory at lines
first_part memory at lines more program = record {
  has = record {
    listed = program.has.listed;
    others = more ++ program.has.others;
    from = program.has.from;
    are = program.has.are ∙ append_assoc lines more program.has.others;
  };
  begins = program.begins;
}

pub parts_are_programs : PartsArePrograms
parts_are_programs memory front lines others sound has shut =
    let more : List Line = others ++ FinalEnd 0 0 ∷ [] in
    let whole : lines_of has.0 ≡ front ++ (lines ++ more) =
    has.2 ∙ append_assoc front (lines ++ others) (FinalEnd 0 0 ∷ [])
    ∙ ap (λ (l : List Line). front ++ l) (append_assoc lines others (FinalEnd 0 0 ∷ [])) in
    let found = program_after memory sound has.0 front (lines ++ more) (last_line front) (has.1.sound sound) whole refl shut in
    (found.0, first_part memory found.0 lines more found.1)

-- The memory after a load.
done_gives : (memory new : RegisterMap) (bytes : List ℕ) (start : ℕ) (outcome : Result (RegisterMap × ℕ) ProgramRefusal)
    → LoadGives memory bytes outcome → HasOutcome memory new (Ok start) outcome → LoadGives memory bytes (Ok (new, start))
done_gives memory new bytes start (Ok (other, begin)) gives has =
    let same_start : begin ≡ start = cc in
    subst (λ (m : RegisterMap). LoadGives memory bytes (Ok (m, start))) (sym has.1)
    (subst (λ (n : ℕ). LoadGives memory bytes (Ok (other, n))) same_start gives)
done_gives memory new bytes start (Err refusal) gives has = absurd (cc)

-- The lines that a load has read are those of the bytes.
same_loaded : ReadIsDetermined → (memory new : RegisterMap) (bytes : List ℕ) (start : ℕ) (lines : List Line)
    → (loads : LeavesLoaded memory bytes new start) → AreBytesOf lines bytes → loads.loaded ≡ lines
same_loaded determined memory new bytes start lines loads are =
    let same : loads.given ≡ are.0 = determined is_final_end bytes (length bytes) 0 loads.given are.0 loads.read are.1 in
    let both : Some loads.loaded ≡ Some lines = sym loads.taken ∙ ap (loaded_of bytes) same ∙ are.2 in
    cc

pub loaded_is_program : LoadIsRead → ClosedIsNotOpen → ReadIsDetermined → LoadedIsProgram
loaded_is_program read closed determined memory new bytes start lines loads are =
    let left : LeavesLoaded memory bytes new start =
    read memory new bytes start (done_gives memory new bytes start loads.0 loads.1 loads.2) in
    let same : left.loaded ≡ lines = same_loaded determined memory new bytes start lines left are in
    let front : List Line = with_last_end (lines_of left.before) in
    let whole : lines_of left.all.0 ≡ front ++ (lines ++ FinalEnd 0 0 ∷ []) =
    left.all.2 ∙ append_assoc front left.loaded (FinalEnd 0 0 ∷ [])
    ∙ ap (λ (l : List Line). front ++ (l ++ FinalEnd 0 0 ∷ [])) same in
    by_soundness new left.all.0 front lines left.all.1 whole (closed (lines_of left.before))
  where
    nothing : (all : List ListedLine) (front lines : List Line) → all ≡ [] → lines_of all ≡ front ++ (lines ++ FinalEnd 0 0 ∷ []) → ⊥
    nothing all front lines none are = some_lines front lines (sym (sym (ap lines_of none) ∙ are))

    by_soundness : (new : RegisterMap) (all : List ListedLine) (front lines : List Line) → LinesFrom new 0 all
        → lines_of all ≡ front ++ (lines ++ FinalEnd 0 0 ∷ []) → is_open front ≡ false
        → (at : ℕ) × IsProgram new at (lines ++ FinalEnd 0 0 ∷ [])
    by_soundness new all front lines from whole shut = elim (cases_Bool (is_sound new)) [
      | inl sound ↦
          program_after new sound all front (lines ++ FinalEnd 0 0 ∷ []) (last_line front) (from.sound sound) whole refl shut
      | inr lost ↦ absurd (nothing all front lines (from.lost lost) whole)
    ]

-- A load into memory without programs.
nothing_before : (memory new : RegisterMap) (bytes : List ℕ) (start : ℕ) (loaded : Option (List Line))
    → Ok (new, start) ≡ load_outcome memory [] loaded → start ≡ 0
nothing_before memory new bytes start None same = absurd (cc)
nothing_before memory new bytes start (Some loaded) same =
    at_0 (with_program_lines memory (with_last_end [] ++ loaded)) same
  where
    at_0 : (outcome : Result RegisterMap ProgramRefusal) → Ok (new, start) ≡ memory_with_answer 0 outcome → start ≡ 0
    at_0 (Ok other) same =
        let pair : (other, 0) ≡ (new, start) = cc in sym (ap (λ (p : RegisterMap × ℕ). p.1) pair)
    at_0 (Err refusal) same = absurd (cc)

pub first_loaded_is_program : LoadIsRead → ReadIsDetermined → ListsAreDetermined → FirstLoadedIsProgram
first_loaded_is_program read determined one_list memory new bytes start lines none loads are =
    let gives : LoadGives memory bytes (Ok (new, start)) = done_gives memory new bytes start loads.0 loads.1 loads.2 in
    let left : LeavesLoaded memory bytes new start = read memory new bytes start gives in
    let given_before : before_end gives.0 ≡ Some [] = ap before_end (one_list memory 0 gives.0 none.0 gives.1 none.1) ∙ none.2 in
    let behind_none : LoadsBehind memory bytes (Some []) (Ok (new, start)) =
    subst (λ (before : Option (List ListedLine)). LoadsBehind memory bytes before (Ok (new, start))) given_before gives.2 in
    let start_is : start ≡ 0 = nothing_before memory new bytes start (loaded_of bytes behind_none.0) behind_none.2 in
    let own_before : Some left.before ≡ Some [] =
    sym left.own ∙ ap before_end (one_list memory 0 left.lines none.0 left.from none.1) ∙ none.2 in
    let before_is : left.before ≡ [] = cc in
    let same : left.loaded ≡ lines = same_loaded determined memory new bytes start lines left are in
    let whole : lines_of left.all.0 ≡ lines ++ FinalEnd 0 0 ∷ [] =
    left.all.2
    ∙ ap (λ (before : List ListedLine). (with_last_end (lines_of before) ++ left.loaded) ++ FinalEnd 0 0 ∷ []) before_is
    ∙ ap (λ (l : List Line). l ++ FinalEnd 0 0 ∷ []) same in
    (start_is, subst (λ (n : ℕ). IsProgram new n (lines ++ FinalEnd 0 0 ∷ [])) (sym start_is) (at_first left.all.0 left.all.1 whole))
  where
    at_first : (all : List ListedLine) → LinesFrom new 0 all → lines_of all ≡ lines ++ FinalEnd 0 0 ∷ []
        → IsProgram new 0 (lines ++ FinalEnd 0 0 ∷ [])
    at_first all from whole = elim (cases_Bool (is_sound new)) [
      | inl sound ↦ program_first new sound all (lines ++ FinalEnd 0 0 ∷ []) (from.sound sound) whole
      | inr lost ↦ absurd (some_lines [] lines (sym (sym (ap lines_of (from.lost lost)) ∙ whole)))
    ]
