-- The program of a position.
use Rattle.std.proofs.Common.{ℕ, List, Option, Some, None, refl, subst}
use Rattle.h41_program.specs.ProgramLaws.{EachIsListed}
use Rattle.h41_program.specs.declared.listed_line.ListedLine.{ListedLine}
use Rattle.h41_program.specs.Sources.{Source, is_program_end}
use Rattle.h41_walk.specs.Searches.{AnswersAll, AnswersLabel, AnswersProgram, Otherwise, label_position}

module _ (lists : EachIsListed) (source : Source) (starts : ℕ → ℕ → Type 0) (at : ℕ) where
  -- An answer for the lines from the start of a program is one for the program.
  pub of_program : {A : Type 0} (answer : List ListedLine → A) (start : ℕ) (result : A) → starts at start
      → AnswersAll answer source start result → AnswersProgram answer source starts at result
  of_program answer start result there asked =
      let own = lists is_program_end source.bytes source.final start in
      record { start = start; own = own.0; starts = there; program = own.1; is = asked own.0 own.1 }

  module _ (n : ℕ) where
    -- The label is found from the position on.
    pub label_onward : (position : ℕ) → AnswersAll (label_position n) source at (Some position)
        → AnswersLabel n source starts at (Some position)
    label_onward position asked =
        let onward = lists is_program_end source.bytes source.final at in (
          onward.0,
          onward.1,
          subst (λ (o : Option ℕ). Otherwise o (AnswersProgram (label_position n) source starts at) (Some position))
              (asked onward.0 onward.1) refl,
        )

    -- It is not, and is searched from the start of the program.
    pub label_own : (start : ℕ) (result : Option ℕ) → AnswersAll (label_position n) source at None → starts at start
        → AnswersAll (label_position n) source start result → AnswersLabel n source starts at result
    label_own start result none there asked =
        let onward = lists is_program_end source.bytes source.final at in (
          onward.0,
          onward.1,
          subst (λ (o : Option ℕ). Otherwise o (AnswersProgram (label_position n) source starts at) result)
              (none onward.0 onward.1) (of_program (label_position n) start result there asked),
        )
