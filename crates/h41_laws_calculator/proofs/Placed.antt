-- What is found from positions.
use Rattle.std.proofs.Common.{◌≡◌, ◌⊎◌, ℕ, List, length, Option, Ok, Err, inl, inr, refl}
use Rattle.std.specs.Option.{option_map, option_or}
use Rattle.h41_ram.specs.RegisterMap.{RegisterMap}
use Rattle.h41_pages.specs.Addresses.{offset_of, page_of}
use Rattle.h41_pages.specs.PageMap.{PageMap}
use Rattle.h41_positions.specs.PageLines.{AnswersLabel, AnswersOwn, is_page_end}
use Rattle.h41_positions.specs.PositionLaws.{Finding, HasOneAnswer}
use Rattle.h41_positions.specs.Positions.{EndOf, FindsInProgram, LineAt, LineBefore, LocalFrom, NextAt, NumberAt, StartOf, begins_at}
use Rattle.h41_positions.specs.Positions.{code_at, found_as, in_memory, in_page, placed_in}
use Rattle.h41_positions.specs.declared.position.Position.{Position}
use Rattle.h41_positions.specs.declared.position.Position.TheVariants.{Memory, Page}
use Rattle.h41_program.specs.Numbering.{before_in, number_in}
use Rattle.h41_program.specs.ProgramLaws.{EachHasFirst, EachIsListed, FirstIsDetermined, OneList, ReadIsDetermined}
use Rattle.h41_program.specs.FirstLines.{behind}
use Rattle.h41_program.specs.ProgramLines.{memory_source}
use Rattle.h41_program.specs.Searches.{AnswersLocal, AnswersProgram, end_in, start_in, label_in, position_of}
use Rattle.h41_program.specs.Sources.{AnswersLine, AnswersNext, PositionBehind, PositionFrom, Source, bytes_source, last_next}
use Rattle.h41_program.specs.declared.listed_line.ListedLine.{ListedLine}
use Rattle.h41_program.specs.declared.refusal.ProgramRefusal.TheVariants.{BrokenProgram}
use Rattle.h41_laws_words.proofs.Answering.{Has, has_one}
use Rattle.h41_positions.proofs.Begun.{start_some}
use Rattle.h41_laws_calculator.specs.ProgramAnswers.{PositionHasOne}
use Rattle.h41_laws_calculator.proofs.Chosen.{alone, either, made_of, right_answer}

-- If there is an answer and there are not two, there is exactly one.
pub one_of : {A : Type 0} (answers : Finding A) → HasOneAnswer answers
    → ((pages : PageMap) (memory : RegisterMap) (at : Position) → Has (answers pages memory at)) → PositionHasOne answers
one_of answers determined some pages memory at = has_one (some pages memory at) (determined pages memory at)

module _ (firsts : EachHasFirst) where
  line_from : (source : Source) (at : ℕ) → Has (AnswersLine source at)
  line_from source at = elim (firsts source.bytes source.final at) [
    | inl found ↦ record { answer = Ok found.0; right = found.1 }
    | inr none ↦ record { answer = Err BrokenProgram; right = (refl, none) }
  ]

  position_from : (source : Source) (at : ℕ) → Has (PositionFrom source at)
  position_from source at = elim (firsts source.bytes source.final at) [
    | inl found ↦ record { answer = found.0.position; right = inl (found.0, found.1, refl) }
    | inr none ↦ record { answer = at; right = inr (none, refl) }
  ]

  position_behind : (source : Source) (line : ListedLine) → Has (PositionBehind source line)
  position_behind source line =
      either (source.ends line.line) (λ position. position ≡ last_next source line) (PositionFrom source (behind line))
      (alone (last_next source line)) (position_from source (behind line))

  -- There is a next position, or none.
  next_either : (source : Source) (at : ℕ) → ((next : ℕ) × AnswersNext source at (Ok next)) ⊎ AnswersNext source at (Err BrokenProgram)
  next_either source at = elim (firsts source.bytes source.final at) [
    | inl found ↦ let next = position_behind source found.0 in inl (next.answer, (found.0, found.1, next.right))
    | inr none ↦ inr (refl, none)
  ]

  next_from : (source : Source) (at : ℕ) → Has (AnswersNext source at)
  next_from source at = elim (next_either source at) [
    | inl next ↦ record { answer = Ok next.0; right = next.1 }
    | inr none ↦ record { answer = Err BrokenProgram; right = none }
  ]

  pub line_at : (pages : PageMap) (memory : RegisterMap) (at : Position) → Has (LineAt pages memory at)
  line_at pages memory (Memory at) = made_of (found_as in_memory) (line_from (memory_source memory) at)
  line_at pages memory (Page address) =
      made_of (found_as (placed_in (page_of address))) (line_from (bytes_source (code_at pages address)) (offset_of address))

  pub next_at : (pages : PageMap) (memory : RegisterMap) (at : Position) → Has (NextAt pages memory at)
  next_at pages memory (Memory at) = made_of (found_as Memory) (next_from (memory_source memory) at)
  next_at pages memory (Page address) =
      made_of (found_as (in_page (page_of address))) (next_from (bytes_source (code_at pages address)) (offset_of address))

  pub next_or_none : (pages : PageMap) (memory : RegisterMap) (at : Position)
      → ((next : Position) × NextAt pages memory at (Ok next)) ⊎ NextAt pages memory at (Err BrokenProgram)
  next_or_none pages memory (Memory at) = elim (next_either (memory_source memory) at) [
    | inl next ↦ inl (Memory next.0, (Ok next.0, next.1, refl))
    | inr none ↦ inr (Err BrokenProgram, none, refl)
  ]
  next_or_none pages memory (Page address) = elim (next_either (bytes_source (code_at pages address)) (offset_of address)) [
    | inl next ↦ inl (in_page (page_of address) next.0, (Ok next.0, next.1, refl))
    | inr none ↦ inr (Err BrokenProgram, none, refl)
  ]

module _ (lists : OneList) where
  in_program : {A : Type 0} (answer : List ListedLine → A) (memory : RegisterMap) (at : ℕ) → Has (AnswersProgram answer memory at)
  in_program answer memory at =
      let all = lists memory 0 in
      let own = lists memory (start_in at all.lines) in
      record { answer = _; right = record { lines = all.lines; own = own.lines; all = all.from; program = own.from; is = refl } }

  local_in : (n : ℕ) (memory : RegisterMap) (at : ℕ) → Has (AnswersLocal memory at n)
  local_in n memory at =
      let all = lists memory 0 in
      let next = lists memory at in
      let own = lists memory (start_in at all.lines) in
      right_answer (position_of (option_or (label_in n next.lines) (label_in n own.lines)))
      (record { lines = all.lines; onward = next.lines; own = own.lines; all = all.from; from = next.from; program = own.from; is = refl })

  module _ (firsts : EachHasFirst) (each : EachIsListed) (determined : FirstIsDetermined) (read : ReadIsDetermined) where
    in_own : {A : Type 0} (answer : List ListedLine → A) (code begins : List ℕ) (at : ℕ) → Has (AnswersOwn answer code begins at)
    in_own answer code begins at =
        let start = start_some firsts each determined read code begins at in
        let own = each is_page_end code (length code) start.0 in
        record { answer = _; right = record { start = start.0; own = own.0; starts = start.1; program = own.1; is = refl } }

    label_of : (n : ℕ) (code begins : List ℕ) (at : ℕ) → Has (AnswersLabel code begins at n)
    label_of n code begins at =
        let start = start_some firsts each determined read code begins at in
        let onward = each is_page_end code (length code) at in
        let own = each is_page_end code (length code) start.0 in
        right_answer (position_of (option_or (label_in n onward.0) (label_in n own.0)))
        (record { start = start.0; onward = onward.0; own = own.0; starts = start.1; from = onward.1; program = own.1; is = refl })

    pub start_at : (pages : PageMap) (memory : RegisterMap) (at : Position) → Has (StartOf pages memory at)
    start_at pages memory (Memory at) =
        let all = lists memory 0 in record { answer = _; right = (start_in at all.lines, (all.lines, all.from, refl), refl) }
    start_at pages memory (Page address) =
        let start = start_some firsts each determined read (code_at pages address) (begins_at pages address) (offset_of address) in
        record { answer = _; right = (start.0, start.1, refl) }

    pub local_at : (n : ℕ) (pages : PageMap) (memory : RegisterMap) (at : Position) → Has (LocalFrom n pages memory at)
    local_at n pages memory (Memory at) = made_of (option_map Memory) (local_in n memory at)
    local_at n pages memory (Page address) =
        made_of (option_map (in_page (page_of address))) (label_of n (code_at pages address) (begins_at pages address) (offset_of address))

    finds : (found_in : ℕ → List ListedLine → Option ℕ) (pages : PageMap) (memory : RegisterMap) (at : Position)
        → Has (FindsInProgram found_in pages memory at)
    finds found_in pages memory (Memory at) = made_of (option_map Memory) (in_program (found_in at) memory at)
    finds found_in pages memory (Page address) =
        made_of (option_map (in_page (page_of address)))
        (in_own (found_in (offset_of address)) (code_at pages address) (begins_at pages address) (offset_of address))

    pub end_at : (pages : PageMap) (memory : RegisterMap) (at : Position) → Has (EndOf pages memory at)
    end_at pages memory at = finds (λ place. end_in) pages memory at

    pub before_at : (pages : PageMap) (memory : RegisterMap) (at : Position) → Has (LineBefore pages memory at)
    before_at pages memory at = finds before_in pages memory at

    pub number_at : (pages : PageMap) (memory : RegisterMap) (at : Position) → Has (NumberAt pages memory at)
    number_at pages memory (Memory at) = in_program (number_in at) memory at
    number_at pages memory (Page address) =
        in_own (number_in (offset_of address)) (code_at pages address) (begins_at pages address) (offset_of address)
