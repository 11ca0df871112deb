-- The answers of searches are determined, and are those of the list.
use Rattle.std.proofs.Common.{◌≡◌, ℕ, Bool, true, false, List, [], ◌∷◌, sym, ◌∙◌, ap, subst, inl, inr, Ok, Err, rules}
use Rattle.std.specs.Prelude.{MatchBool}
use Rattle.std.proofs.lemmas.Bool.{cases_Bool}
use Rattle.h41_codes.specs.ByteLaws.{OneLine}
use Rattle.h41_ram.specs.RegisterMap.{RegisterMap}
use Rattle.h41_program.specs.declared.listed_line.ListedLine.{ListedLine}
use Rattle.h41_program.specs.declared.refusal.ProgramRefusal.{ProgramRefusal}
use Rattle.h41_program.specs.Lines.{is_final_end}
use Rattle.h41_program.specs.ProgramBytes.{program_bytes, final_position}
use Rattle.h41_program.specs.FirstLines.{FirstFrom, behind}
use Rattle.h41_program.specs.ProgramLines.{PositionBehind, PositionFrom, Reads, line_of, next_of}
use Rattle.h41_program.specs.SearchLaws.{AnswersAreDetermined, LineIsDetermined, LineIsOfList, LocalIsDetermined, NextIsDetermined}
use Rattle.h41_program.specs.SearchLaws.{NextIsOfList, ProgramIsDetermined}
use Rattle.h41_program.proofs.Determined.{first_determined, lists_determined}
use Rattle.h41_program.proofs.Walks.{last_rest, more_rest, no_rest}

pub answers : {A : Type 0} → OneLine → AnswersAreDetermined A
answers one memory answer at result other is again =
    is.2 ∙ ap answer (lists_determined one memory at is.0 again.0 is.1 again.1) ∙ sym again.2

pub program : {A : Type 0} → OneLine → ProgramIsDetermined A
program one memory answer at result other is again = search (rules, lists_determined)

pub local : OneLine → LocalIsDetermined
local one memory at n found other is again = search (rules, lists_determined, program)

-- The line at a position is determined.
pub one_line : OneLine → LineIsDetermined
one_line one memory at (Ok first) (Ok other) is again = search (rules, first_determined)
one_line one memory at (Ok first) (Err refusal) is none = absurd (none.1 first is)
one_line one memory at (Err refusal) (Ok other) none is = absurd (none.1 other is)
one_line one memory at (Err refusal) (Err other) none again = ap (λ (why : ProgramRefusal). Err why) (none.0 ∙ sym again.0)

-- The next position is determined.
same_from : OneLine → (memory : RegisterMap) (at position other : ℕ) → PositionFrom memory at position → PositionFrom memory at other
    → position ≡ other
same_from one memory at position other from again = elim from [
  | inl first ↦ elim again [
    | inl second ↦
        let same = first_determined one (program_bytes memory) (final_position memory) at first.0 second.0 first.1 second.1 in
        first.2 ∙ ap (λ (line : ListedLine). line.position) same ∙ sym second.2
    | inr none ↦ absurd (none.0 first.0 first.1)
  ]
  | inr none ↦ elim again [
    | inl second ↦ absurd (none.0 second.0 second.1)
    | inr nothing ↦ none.1 ∙ sym nothing.1
  ]
]

same_behind : OneLine → (last : Bool) (memory : RegisterMap) (first : ListedLine) (position other : ℕ)
    → MatchBool last (position ≡ first.position) (PositionFrom memory (behind first) position)
    → MatchBool last (other ≡ first.position) (PositionFrom memory (behind first) other) → position ≡ other
same_behind one true memory first position other is again = is ∙ sym again
same_behind one false memory first position other from again = same_from one memory (behind first) position other from again

pub one_next : OneLine → NextIsDetermined
one_next one memory at (Ok position) (Ok other) is again =
    let same = first_determined one (program_bytes memory) (final_position memory) at is.0 again.0 is.1 again.1 in
    let follows = subst (λ (line : ListedLine). PositionBehind memory line position) same is.2 in
    ap (λ (n : ℕ). Ok n) (same_behind one (is_final_end again.0.line) memory again.0 position other follows again.2)
one_next one memory at (Ok position) (Err refusal) is none = absurd (none.1 is.0 is.1)
one_next one memory at (Err refusal) (Ok other) none is = absurd (none.1 is.0 is.1)
one_next one memory at (Err refusal) (Err other) none again = ap (λ (why : ProgramRefusal). Err why) (none.0 ∙ sym again.0)

-- The line at a position is the first of the list.
module _ (one : OneLine) (memory : RegisterMap) (at : ℕ) where
  abbrev bytes : List ℕ
  bytes = program_bytes memory

  abbrev final : ℕ
  final = final_position memory

  ok_line : (first : ListedLine) (lines : List ListedLine) → FirstFrom bytes final at first → Reads bytes final at lines
      → Ok first ≡ line_of lines
  ok_line first [] is reads = absurd (reads first is)
  ok_line first (other ∷ rest) is reads = ap (λ (l : ListedLine). Ok l) (first_determined one bytes final at first other is reads.0)

  -- The next position is that of the second line of the list.
  behind_final : (first : ListedLine) (rest : List ListedLine) (position : ℕ) → is_final_end first.line ≡ true → rest ≡ []
      → position ≡ first.position → Ok position ≡ next_of (first ∷ rest)
  behind_final first rest position last none same = rw (none, last) (ap (λ (n : ℕ). Ok n) same)

  behind_other : (first : ListedLine) (rest : List ListedLine) (position : ℕ) → is_final_end first.line ≡ false
      → Reads bytes final (behind first) rest → PositionFrom memory (behind first) position → Ok position ≡ next_of (first ∷ rest)
  behind_other first [] position other reads from = search (rules, first_determined)
  behind_other first (next ∷ rest) position other reads from = elim from [
    | inl second ↦
        let same = first_determined one bytes final (behind first) second.0 next second.1 reads.0 in
        ap (λ (n : ℕ). Ok n) (second.2 ∙ ap (λ (l : ListedLine). l.position) same)
    | inr none ↦ absurd (none.0 next reads.0)
  ]

  ok_next : (first : ListedLine) (position : ℕ) (lines : List ListedLine) → FirstFrom bytes final at first
      → PositionBehind memory first position → Reads bytes final at lines → Ok position ≡ next_of lines
  ok_next first position [] is follows reads = absurd (reads first is)
  ok_next first position (other ∷ rest) is follows reads =
      let same = first_determined one bytes final at first other is reads.0 in
      let own = subst (λ (l : ListedLine). PositionBehind memory l position) same follows in
      elim (cases_Bool (is_final_end other.line)) [
        | inl last ↦
            behind_final other rest position last (last_rest bytes final (behind other) (is_final_end other.line) rest last reads.1)
            (subst (λ b. MatchBool b (position ≡ other.position) (PositionFrom memory (behind other) position)) last own)
        | inr running ↦
            behind_other other rest position running (more_rest bytes final (behind other) (is_final_end other.line) rest running reads.1)
            (subst (λ b. MatchBool b (position ≡ other.position) (PositionFrom memory (behind other) position)) running own)
      ]

pub line : OneLine → LineIsOfList
line one memory at (Ok first) lines sound answers from = ok_line one memory at first lines answers (from.sound sound)
line one memory at (Err refusal) lines sound answers from = search (rules, answers, ok_line, no_rest)

pub next : OneLine → NextIsOfList
next one memory at (Ok position) lines sound answers from = search (rules, answers, ok_next, no_rest)
next one memory at (Err refusal) lines sound answers from = search (rules, answers, ok_next, no_rest)
