-- Each position has a line or a refusal, what is found from it is determined, and a line has a next position.
use Rattle.std.proofs.Common.{◌≡◌, ℕ, Bool, true, false, List, length, Option, Result, Ok, Err, MatchBool}
use Rattle.std.proofs.Common.{arith, inl, inr, refl, sym, ap, subst, ◌∙◌}
use Rattle.std.specs.Option.{option_map, option_or}
use Rattle.h41_pages.specs.Addresses.{offset_of, page_of}
use Rattle.h41_positions.specs.PageLines.{AnswersLabel, AnswersLine, AnswersOffset, AnswersOwn, LinesIn, OffsetBehind, OffsetFrom}
use Rattle.h41_positions.specs.PageLines.{StartsAt, is_page_end}
use Rattle.h41_positions.specs.PositionLaws.{EachIsRead, HasOneAnswer, HasOneAnswerEach, LinesHaveNext}
use Rattle.h41_positions.specs.Positions.{EndOf, FindsInProgram, LineAt, LineBefore, LocalFrom, NextAt, NumberAt, StartOf, begins_at}
use Rattle.h41_positions.specs.Positions.{code_at, found_as, in_memory, in_page, placed_in}
use Rattle.h41_positions.specs.declared.position.PlacedLine.{PlacedLine}
use Rattle.h41_positions.specs.declared.position.Position.{Position}
use Rattle.h41_positions.specs.declared.position.Position.TheVariants.{Memory, Page}
use Rattle.h41_program.specs.Numbering.{before_in, number_in}
use Rattle.h41_program.specs.ProgramBytes.{final_position, program_bytes}
use Rattle.h41_program.specs.ProgramLaws.{EachHasFirst, FirstIsDetermined, ReadIsDetermined}
use Rattle.h41_program.specs.FirstLines.{behind}
use Rattle.h41_program.specs.ProgramLines.{AnswersFirst, AnswersNext}
use Rattle.h41_program.specs.SearchLaws.{AnswersAreDetermined, LineIsDetermined, LocalIsDetermined, NextIsDetermined, ProgramIsDetermined}
use Rattle.h41_program.specs.Searches.{end_in, label_in, position_of, start_in}
use Rattle.h41_program.specs.declared.listed_line.ListedLine.{ListedLine}
use Rattle.h41_program.specs.declared.refusal.ProgramRefusal.{ProgramRefusal}
use Rattle.h41_program.specs.declared.refusal.ProgramRefusal.TheVariants.{BrokenProgram}
use Rattle.h41_ram.specs.RegisterMap.{RegisterMap}

-- What is found in the code of a page is determined.
module _ (first : FirstIsDetermined) (code : List ℕ) where
  same_first : (at : ℕ) (answer other : Result ListedLine ProgramRefusal) → AnswersLine code at answer → AnswersLine code at other
      → answer ≡ other
  same_first at (Ok found) (Ok other) is again = ap (λ (l : ListedLine). Ok l) (first code (length code) at found other is again)
  same_first at (Ok found) (Err refusal) is none = absurd (none.1 found is)
  same_first at (Err refusal) (Ok other) none is = absurd (none.1 other is)
  same_first at (Err refusal) (Err other) none again = ap (λ (why : ProgramRefusal). Err why) (none.0 ∙ sym again.0)

  same_from : (at offset other : ℕ) → OffsetFrom code at offset → OffsetFrom code at other → offset ≡ other
  same_from at offset other from again = elim from [
    | inl found ↦ elim again [
      | inl second ↦
          found.2 ∙ ap (λ (l : ListedLine). l.position) (first code (length code) at found.0 second.0 found.1 second.1) ∙ sym second.2
      | inr none ↦ absurd (none.0 found.0 found.1)
    ]
    | inr none ↦ elim again [
      | inl second ↦ absurd (none.0 second.0 second.1)
      | inr nothing ↦ none.1 ∙ sym nothing.1
    ]
  ]

  same_behind : (ends : Bool) (at offset other : ℕ) → MatchBool ends (offset ≡ at) (OffsetFrom code at offset)
      → MatchBool ends (other ≡ at) (OffsetFrom code at other) → offset ≡ other
  same_behind true at offset other is again = is ∙ sym again
  same_behind false at offset other from again = same_from at offset other from again

  same_offset : (at : ℕ) (answer other : Result ℕ ProgramRefusal) → AnswersOffset code at answer → AnswersOffset code at other
      → answer ≡ other
  same_offset at (Ok offset) (Ok other) is again =
      let same = first code (length code) at is.0 again.0 is.1 again.1 in
      let follows = subst (λ (l : ListedLine). OffsetBehind code l offset) same is.2 in
      ap (λ (n : ℕ). Ok n) (same_behind (is_page_end again.0.line) (behind again.0) offset other follows again.2)
  same_offset at (Ok offset) (Err refusal) is none = absurd (none.1 is.0 is.1)
  same_offset at (Err refusal) (Ok other) none is = absurd (none.1 is.0 is.1)
  same_offset at (Err refusal) (Err other) none again = ap (λ (why : ProgramRefusal). Err why) (none.0 ∙ sym again.0)

  module _ (read : ReadIsDetermined) (begins : List ℕ) (at : ℕ) where
    same_start : (start other : ℕ) → StartsAt code begins at start → StartsAt code begins at other → start ≡ other
    same_start start other starts again = elim starts [
      | inl least ↦ elim again [
        | inl others ↦
            let low = least.2 other others.0 others.1 in
            let high = others.2 start least.0 least.1 in
            omega (arith, low, high)
        | inr none ↦ absurd (none.0 start least.0 least.1)
      ]
      | inr none ↦ elim again [
        | inl others ↦ absurd (none.0 other others.0 others.1)
        | inr nothing ↦ none.1 ∙ sym nothing.1
      ]
    ]

    same_lines : (start other : ℕ) (lines others : List ListedLine) → start ≡ other → LinesIn code start lines → LinesIn code other others
        → lines ≡ others
    same_lines start other lines others same is again =
        read is_page_end code (length code) other lines others (subst (λ (n : ℕ). LinesIn code n lines) same is) again

    same_own : {A : Type 0} (answer : List ListedLine → A) (result other : A) → AnswersOwn answer code begins at result
        → AnswersOwn answer code begins at other → result ≡ other
    same_own answer result other is again =
        let start = same_start is.start again.start is.starts again.starts in
        is.is ∙ ap answer (same_lines is.start again.start is.own again.own start is.program again.program) ∙ sym again.is

    same_label : (n : ℕ) (result other : Option ℕ) → AnswersLabel code begins at n result → AnswersLabel code begins at n other
        → result ≡ other
    same_label n result other is again =
        let start = same_start is.start again.start is.starts again.starts in
        let own = same_lines is.start again.start is.own again.own start is.program again.program in
        let onward = same_lines at at is.onward again.onward refl is.from again.from in
        is.is ∙ ap (λ (l : List ListedLine). position_of (option_or (label_in n l) (label_in n is.own))) onward
        ∙ ap (λ (l : List ListedLine). position_of (option_or (label_in n again.onward) (label_in n l))) own ∙ sym again.is

-- What is found from a position is determined.
module _ (first : FirstIsDetermined) (read : ReadIsDetermined) where
  pub line : LineIsDetermined → HasOneAnswer LineAt
  line lines pages memory (Memory at) result other p q =
      p.2 ∙ ap (found_as in_memory) (lines memory at p.0 q.0 p.1 q.1) ∙ sym q.2
  line lines pages memory (Page address) result other p q =
      p.2 ∙ ap (found_as (placed_in (page_of address)))
      (same_first first (code_at pages address) (offset_of address) p.0 q.0 p.1 q.1) ∙ sym q.2

  pub next : NextIsDetermined → HasOneAnswer NextAt
  next nexts pages memory (Memory at) result other p q =
      p.2 ∙ ap (found_as Memory) (nexts memory at p.0 q.0 p.1 q.1) ∙ sym q.2
  next nexts pages memory (Page address) result other p q =
      p.2 ∙ ap (found_as (in_page (page_of address)))
      (same_offset first (code_at pages address) (offset_of address) p.0 q.0 p.1 q.1) ∙ sym q.2

  pub start : AnswersAreDetermined ℕ → HasOneAnswer StartOf
  start starts pages memory (Memory at) result other p q =
      p.2 ∙ ap (λ (byte : ℕ). Memory byte) (starts memory (start_in at) 0 p.0 q.0 p.1 q.1) ∙ sym q.2
  start starts pages memory (Page address) result other p q =
      p.2 ∙ ap (in_page (page_of address))
      (same_start first (code_at pages address) read (begins_at pages address) (offset_of address) p.0 q.0 p.1 q.1) ∙ sym q.2

  pub local : LocalIsDetermined → HasOneAnswerEach LocalFrom
  local labels n pages memory (Memory at) result other p q =
      p.2 ∙ ap (option_map Memory) (labels memory at n p.0 q.0 p.1 q.1) ∙ sym q.2
  local labels n pages memory (Page address) result other p q =
      p.2 ∙ ap (option_map (in_page (page_of address)))
      (same_label first (code_at pages address) read (begins_at pages address) (offset_of address) n p.0 q.0 p.1 q.1) ∙ sym q.2

  finds : (found_in : ℕ → List ListedLine → Option ℕ) → ProgramIsDetermined (Option ℕ) → HasOneAnswer (FindsInProgram found_in)
  finds found_in programs pages memory (Memory at) result other p q =
      p.2 ∙ ap (option_map Memory) (programs memory (found_in at) at p.0 q.0 p.1 q.1) ∙ sym q.2
  finds found_in programs pages memory (Page address) result other p q =
      p.2 ∙ ap (option_map (in_page (page_of address)))
      (same_own first (code_at pages address) read (begins_at pages address) (offset_of address) (found_in (offset_of address)) p.0 q.0
      p.1 q.1) ∙ sym q.2

  pub end : ProgramIsDetermined (Option ℕ) → HasOneAnswer EndOf
  end programs = finds (λ place. end_in) programs

  pub before : ProgramIsDetermined (Option ℕ) → HasOneAnswer LineBefore
  before programs = finds before_in programs

  pub number : ProgramIsDetermined (Option ℕ) → HasOneAnswer NumberAt
  number programs pages memory (Memory at) result other p q = programs memory (number_in at) at result other p q
  number programs pages memory (Page address) result other p q =
      same_own first (code_at pages address) read (begins_at pages address) (offset_of address) (number_in (offset_of address)) result
      other p q

pub each : EachHasFirst → EachIsRead
each firsts pages memory (Memory at) = elim (firsts (program_bytes memory) (final_position memory) at) [
  | inl found ↦ (Ok (in_memory found.0), (Ok found.0, found.1, refl))
  | inr none ↦ (Err BrokenProgram, (Err BrokenProgram, (refl, none), refl))
]
each firsts pages memory (Page address) =
    let code = code_at pages address in
    elim (firsts code (length code) (offset_of address)) [
      | inl found ↦ (Ok (placed_in (page_of address) found.0), (Ok found.0, found.1, refl))
      | inr none ↦ (Err BrokenProgram, (Err BrokenProgram, (refl, none), refl))
    ]

-- If there is a first line, there is a next position.
next_refused :
    (memory : RegisterMap) (at : ℕ) (first : Result ListedLine ProgramRefusal) (found : PlacedLine)
    (next : Result ℕ ProgramRefusal) (refusal : ProgramRefusal)
    → AnswersFirst memory at first → ◌≡◌ {A = Result PlacedLine ProgramRefusal} (Ok found) (found_as in_memory first)
    → AnswersNext memory at next → ◌≡◌ {A = Result Position ProgramRefusal} (Err refusal) (found_as Memory next) → ⊥
next_refused memory at (Ok first) found (Err why) refusal stands same none again = none.1 first stands
next_refused memory at (Ok first) found (Ok next) refusal stands same goes again =
    let never : ◌≡◌ {A = Result Position ProgramRefusal} (Err refusal) (Ok (Memory next)) = again in cc
next_refused memory at (Err why) found next refusal stands same goes again =
    let never : ◌≡◌ {A = Result PlacedLine ProgramRefusal} (Ok found) (Err why) = same in cc

offset_refused :
    (code : List ℕ) (page at : ℕ) (first : Result ListedLine ProgramRefusal) (found : PlacedLine)
    (next : Result ℕ ProgramRefusal) (refusal : ProgramRefusal)
    → AnswersLine code at first → ◌≡◌ {A = Result PlacedLine ProgramRefusal} (Ok found) (found_as (placed_in page) first)
    → AnswersOffset code at next → ◌≡◌ {A = Result Position ProgramRefusal} (Err refusal) (found_as (in_page page) next) → ⊥
offset_refused code page at (Ok first) found (Err why) refusal stands same none again = none.1 first stands
offset_refused code page at (Ok first) found (Ok next) refusal stands same goes again =
    let never : ◌≡◌ {A = Result Position ProgramRefusal} (Err refusal) (Ok (in_page page next)) = again in cc
offset_refused code page at (Err why) found next refusal stands same goes again =
    let never : ◌≡◌ {A = Result PlacedLine ProgramRefusal} (Ok found) (Err why) = same in cc

pub lines_have_next : LinesHaveNext
lines_have_next pages memory (Memory at) first refusal p q =
    next_refused memory at p.0 first q.0 refusal p.1 p.2 q.1 q.2
lines_have_next pages memory (Page address) first refusal p q =
    offset_refused (code_at pages address) (page_of address) (offset_of address) p.0 first q.0 refusal p.1 p.2 q.1 q.2
