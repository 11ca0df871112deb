-- What the walk finds in sound memory is what the lists of memory give.
use Rattle.std.proofs.Common.{◌≡◌, ℕ, Bool, true, false, List, [], ◌∷◌, Option, Some, None, refl, sym, ap, subst, ◌∙◌, inl, inr, rules}
use Rattle.std.specs.Prelude.{IsTrue, MatchBool}
use Rattle.std.specs.Option.{option_or}
use Rattle.std.proofs.lemmas.Bool.{cases_Bool}
use Rattle.h41_ram.specs.RegisterMap.{RegisterMap, is_sound}
use Rattle.h41_program.specs.Lines.{is_end, is_final_end}
use Rattle.h41_program.specs.ProgramBytes.{final_position, program_bytes}
use Rattle.h41_program.specs.ProgramLaws.{OneList, ReadIsDetermined}
use Rattle.h41_program.specs.FirstLines.{behind}
use Rattle.h41_program.specs.ProgramLines.{LinesFrom, Reads, memory_source}
use Rattle.h41_program.specs.Searches.{AnswersLocal, AnswersProgram, label_in, position_of, start_in, up_to_end}
use Rattle.h41_program.specs.declared.listed_line.ListedLine.{ListedLine}
use Rattle.h41_program.proofs.SearchSteps.{label_in-end, label_in-here, label_in-other, none_or}
use Rattle.h41_walk.specs.Searches.{MemoryStarts, Otherwise, label_position}
use Rattle.h41_program.specs.Sources.{ProgramFrom, is_program_end}
use Rattle.h41_walk.specs.Searches as walk
use Rattle.h41_walk.proofs.Walks.{ends_memory, ends_none, ends_program}

-- The lines up to an END.
up_to_end-other : (listed : ListedLine) (rest : List ListedLine) → is_end listed.line ≡ false
    → up_to_end (listed ∷ rest) ≡ listed ∷ up_to_end rest
up_to_end-other listed rest other = rw other refl

up_to_end-end : (listed : ListedLine) (rest : List ListedLine) → is_end listed.line ≡ true → up_to_end (listed ∷ rest) ≡ listed ∷ []
up_to_end-end listed rest end = rw end refl

-- The labels of a list are those up to its END.
pub label_up : (n : ℕ) (lines : List ListedLine) → label_in n (up_to_end lines) ≡ label_in n lines
label_up n [] = refl
label_up n (first ∷ rest) =
    search (rules, cases_Bool, up_to_end-end, label_in-end, up_to_end-other, label_in-here, label_in-other, label_up n rest)

module _ (memory : RegisterMap) where
  abbrev bytes : List ℕ
  bytes = program_bytes memory

  abbrev final : ℕ
  final = final_position memory

  -- The lines of a program are those of the list up to the first END.
  ends_there : (at : ℕ) (first : ListedLine) (rest : List ListedLine) → Reads bytes final at (first ∷ rest)
      → is_program_end first.line ≡ true → ProgramFrom (memory_source memory) at (first ∷ [])
  ends_there at first rest reads ends = search rules

  pub program_of : (at : ℕ) (lines : List ListedLine) → Reads bytes final at lines
      → ProgramFrom (memory_source memory) at (up_to_end lines)
  program_of at [] none = none
  program_of at (first ∷ rest) reads = elim (cases_Bool (is_end first.line)) [
    | inl end ↦
        subst (λ (l : List ListedLine). ProgramFrom (memory_source memory) at l) (sym (up_to_end-end first rest end))
        (ends_there at first rest reads (ends_program first.line end))
    | inr other ↦
        subst (λ (l : List ListedLine). ProgramFrom (memory_source memory) at l) (sym (up_to_end-other first rest other))
        (elim (cases_Bool (is_final_end first.line)) [
          | inl final_end ↦
              let none : rest ≡ [] =
              subst (λ (t : Bool). MatchBool t (rest ≡ []) (Reads bytes final (behind first) rest)) final_end reads.1 in
              subst (λ (l : List ListedLine). ProgramFrom (memory_source memory) at (first ∷ up_to_end l)) (sym none)
              (ends_there at first rest reads (ends_memory first.line final_end))
          | inr more ↦
              let onward : Reads bytes final (behind first) rest =
              subst (λ (t : Bool). MatchBool t (rest ≡ []) (Reads bytes final (behind first) rest)) more reads.1 in (
                reads.0,
                subst (λ (t : Bool).
                    MatchBool t (up_to_end rest ≡ []) (ProgramFrom (memory_source memory) (behind first) (up_to_end rest)))
                    (sym (ends_none first.line other more)) (program_of (behind first) rest onward),
              )
        ])
  ]

  module _ (sound : IsTrue (is_sound memory)) (lists : OneList) (read : ReadIsDetermined) where
    -- The lines that the walk reads are those of the list up to its END.
    same_lines : (at : ℕ) (own lines : List ListedLine) → ProgramFrom (memory_source memory) at own → LinesFrom memory at lines
        → own ≡ up_to_end lines
    same_lines at own lines walked from =
        read is_program_end bytes final at own (up_to_end lines) walked (program_of at lines (from.sound sound))

    pub program_here : {A : Type 0} (answer : List ListedLine → A) (at : ℕ) (result : A)
        → walk.AnswersProgram answer (memory_source memory) (MemoryStarts memory) at result → AnswersProgram answer memory at result
    program_here answer at result is =
        let own = lists memory is.start in
        let there = is.starts in
        record {
          lines = there.0;
          own = own.lines;
          all = there.1;
          program = subst (λ (n : ℕ). LinesFrom memory n own.lines) there.2 own.from;
          is = is.is ∙ ap answer (same_lines is.start is.own own.lines is.program own.from);
        }

    -- The first label from a position on, or else the first one of the program.
    module _ (at n : ℕ) (onward : List ListedLine) (from : ProgramFrom (memory_source memory) at onward) where
      on_label : label_in n onward ≡ label_in n (lists memory at).lines
      on_label =
          ap (label_in n) (same_lines at onward (lists memory at).lines from (lists memory at).from)
          ∙ label_up n (lists memory at).lines

      by_label : (first : Option ListedLine) → first ≡ label_in n onward → (result : Option ℕ)
          → Otherwise (position_of first) (walk.AnswersProgram (label_position n) (memory_source memory) (MemoryStarts memory) at) result
          → AnswersLocal memory at n result
      by_label (Some listed) here result is =
          let all = lists memory 0 in
          let own = lists memory (start_in at all.lines) in
          record {
            lines = all.lines;
            onward = (lists memory at).lines;
            own = own.lines;
            all = all.from;
            from = (lists memory at).from;
            program = own.from;
            is = is ∙ ap (λ (o : Option ListedLine). position_of (option_or o (label_in n own.lines))) (here ∙ on_label);
          }
      by_label None here result is =
          let found = program_here (label_position n) at result is in
          record {
            lines = found.lines;
            onward = (lists memory at).lines;
            own = found.own;
            all = found.all;
            from = (lists memory at).from;
            program = found.program;
            is =
                none_or (label_in n (lists memory at).lines) (label_in n found.own) result
                (ap position_of (sym (here ∙ on_label))) (found.is ∙ ap position_of (label_up n found.own));
          }

    pub local_here : (at n : ℕ) (result : Option ℕ) → walk.AnswersLabel n (memory_source memory) (MemoryStarts memory) at result
        → AnswersLocal memory at n result
    local_here at n result is = by_label at n is.0 is.1 (label_in n is.0) refl result is.2
