-- Where lines lead.
use Rattle.h41_laws_calculator.proofs.Chosen.{made_of, one_there}
use Rattle.std.proofs.Common.{◌⊎◌, ℕ, Bool, true, false, List, [], ◌∷◌, Option, Ok, Err, inl, inr, refl}
use Rattle.std.specs.Prelude.{reverse}
use Rattle.std.specs.Option.{option_map}
use Rattle.h41_focal.specs.Destinations.{Arrives, Asks, Goes, GoesBack, Halts, HasNoLabel, HasNoLine, Manner, Passes, Stays}
use Rattle.h41_focal.specs.Destinations.{Stepped, StepsFrom, Tells, Typed, TypedFrom, found_at, lost_name, typed_at}
use Rattle.h41_positions.specs.Positions.{LocalFrom, NextAt, StartOf}
use Rattle.h41_program.specs.Searches.{named_in, position_of}
use Rattle.h41_positions.specs.declared.position.Position.{Position}
use Rattle.h41_positions.specs.declared.position.Position.TheVariants.{Memory}
use Rattle.h41_program.specs.declared.refusal.ProgramRefusal.TheVariants.{BrokenProgram}
use Rattle.h41_ram.specs.RegisterMap.{RegisterMap}
use Rattle.h41_rows.specs.RowEffects.{holds_in}
use Rattle.h41_rows.specs.Rows as rows
use Rattle.h41_laws_words.proofs.Answering.{Has}
use Rattle.h41_laws_calculator.specs.ProgramAnswers.{MemoryHasOneAnswer, PositionHasOne, PositionHasOneEach}
use Rattle.h41_pages.specs.PageMap.{PageMap}

-- There is a next position, or none.
abbrev pub NextOrNone : Type 0
NextOrNone =
    (pages : PageMap) (memory : RegisterMap) (at : Position)
    → ((next : Position) × NextAt pages memory at (Ok next)) ⊎ NextAt pages memory at (Err BrokenProgram)

module _ (next_or_none : NextOrNone) (starts : PositionHasOne StartOf) (locals : PositionHasOneEach LocalFrom)
    (names : MemoryHasOneAnswer (Option ℕ)) where
  passes : (pages : PageMap) (memory : RegisterMap) (next : Position) (returns : List Position) → Has (Passes pages memory next returns)
  passes pages memory next returns = elim (next_or_none pages memory next) [
    | inl found ↦ record { answer = Arrives found.0 returns; right = inl (found.0, found.1, refl) }
    | inr none ↦ record { answer = HasNoLine; right = inr (none, refl) }
  ]

  asks : (pages : PageMap) (holds : Bool) (memory : RegisterMap) (next : Position) (returns : List Position)
      → Has (Asks pages holds memory next returns)
  asks pages true memory next returns = record { answer = Arrives next returns; right = refl }
  asks pages false memory next returns = passes pages memory next returns

  goes_back : (pages : PageMap) (memory : RegisterMap) (at : Position) (returns : List Position) → Has (GoesBack pages memory at returns)
  goes_back pages memory at [] = made_of Halts (one_there (starts pages memory at))
  goes_back pages memory at (latest ∷ others) = record { answer = Arrives latest (reverse others); right = refl }

  steps_from : (pages : PageMap) (going : rows.Going) (memory : RegisterMap) (named : ℕ) (at next : Position) (returns : List Position)
      → Has (StepsFrom pages going memory named at next returns)
  steps_from pages rows.Next memory named at next returns = record { answer = Arrives next returns; right = refl }
  steps_from pages (rows.Tests condition) memory named at next returns = asks pages (holds_in memory named condition) memory next returns
  steps_from pages (rows.Counts condition) memory named at next returns = asks pages (holds_in memory named condition) memory next returns
  steps_from pages (rows.ToLabel branch label) memory named at next returns =
      made_of (found_at branch next returns HasNoLabel) (one_there (locals label pages memory next))
  steps_from pages (rows.ToName branch name) memory named at next returns =
      made_of (λ found. found_at branch next returns (lost_name branch name) (option_map Memory found))
      (one_there (names (λ lines. position_of (named_in name lines)) memory 0))
  steps_from pages rows.Returns memory named at next returns = goes_back pages memory at (reverse returns)

  typed_from : (pages : PageMap) (going : rows.Going) (memory : RegisterMap) (named : ℕ) (at : Position) (returns : List Position)
      → Has (TypedFrom pages going memory named at returns)
  typed_from pages rows.Next memory named at returns = record { answer = Stays; right = refl }
  typed_from pages (rows.Tests condition) memory named at returns =
      record { answer = Tells (holds_in memory named condition); right = refl }
  typed_from pages (rows.Counts condition) memory named at returns = record { answer = Stays; right = refl }
  typed_from pages (rows.ToLabel branch label) memory named at returns =
      made_of (typed_at branch returns HasNoLabel) (one_there (locals label pages memory at))
  typed_from pages (rows.ToName branch name) memory named at returns =
      made_of (λ found. typed_at branch returns (lost_name branch name) (option_map Memory found))
      (one_there (names (λ lines. position_of (named_in name lines)) memory 0))
  typed_from pages rows.Returns memory named at returns = made_of Halts (one_there (starts pages memory at))

  pub goes : (pages : PageMap) (how : Manner) (going : rows.Going) (memory : RegisterMap) (named : ℕ) (at : Position)
      (returns : List Position)
      → Has (Goes pages how going memory named at returns)
  goes pages (Stepped next) going memory named at returns = steps_from pages going memory named at next returns
  goes pages Typed going memory named at returns = typed_from pages going memory named at returns
