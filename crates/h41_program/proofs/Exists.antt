-- There is a list of lines from each position on.
use Rattle.std.proofs.Common.{◌≡◌, ◌⊎◌, ℕ, zero, suc, ◌+◌, ◌<◌, ◌≤◌, Bool, List, [], ◌∷◌, length, get_or, refl, sym, ◌∙◌}
use Rattle.std.proofs.Common.{subst, arith, inl, inr, length-take, length-drop, rules}
use Rattle.std.specs.Prelude.{MatchBool}
use Rattle.std.proofs.lemmas.Bool.{cases_lt, cases_Bool, true≢false}
use Rattle.h41_codes.specs.ByteGrammar.{spelling, Begins}
use Rattle.h41_codes.specs.ByteLaws.{LineOrNone, OneLine}
use Rattle.h41_codes.specs.declared.line.Line.{Line}
use Rattle.h41_codes.specs.declared.line.Line.TheVariants.{Null}
use Rattle.h41_ram.specs.RegisterMap.{is_sound}
use Rattle.h41_program.specs.declared.listed_line.ListedLine.{ListedLine}
use Rattle.h41_program.specs.Lines.{is_final_end}
use Rattle.h41_program.specs.ProgramBytes.{program_bytes, final_position}
use Rattle.h41_program.specs.ProgramLaws.{OneList}
use Rattle.h41_program.specs.FirstLines.{line_bytes, FirstFrom, NoneFrom, ReadsTo, behind}
use Rattle.h41_program.specs.ProgramLines.{LinesFrom}
use Rattle.h41_program.proofs.Determined.{lists_determined}
use Rattle.h41_program.proofs.FirstLines.{line_bytes-at, line_bytes-below, first_inside, first_byte, null_begins, null_byte}
use Rattle.h41_program.proofs.Windows.{begins_count, begins_least}
use Rattle.h41_program.proofs.Walks.{from_reads}
use Rattle.std.proofs.lemmas.Grind.{common_steps}

-- A line is the null or not.
null_or : (line : Line) → (line ≡ Null) ⊎ (line ≡ Null → ⊥)
null_or Null = inl refl
null_or line = inr (λ same. cc)

-- There are no bytes after the last.
no_more : (bytes : List ℕ) (final position : ℕ) → position ≤ final → length bytes ≤ position → length (line_bytes bytes final position) ≡ 0
no_more bytes final position inside above = search (rules, line_bytes-below, length-take, length-drop, line_bytes-at)

-- If a line begins further on, there is a byte to read.
byte_to_take : (bytes : List ℕ) (final at from : ℕ) (first : ListedLine) → FirstFrom bytes final from first → at < first.position
    → 1 ≤ length (line_bytes bytes final at)
byte_to_take bytes final at from first is before =
    search (rules, first_inside, begins_least, no_more, line_bytes-below, length-take, length-drop)

module _ (one : OneLine) (tells : LineOrNone) (bytes : List ℕ) (final : ℕ) where
  -- If the first line begins further on, there is a null at the position.
  at_null : (at : ℕ) (first : ListedLine) → FirstFrom bytes final at first → at < first.position → Begins (line_bytes bytes final at) Null 1
  at_null at first is before =
      let inside = first_inside bytes final at first is in
      null_begins (line_bytes bytes final at) (byte_to_take bytes final at at first is before)
      (first_byte bytes final at (omega (arith, inside, before)) ∙ is.nulls at (omega arith) before)

  further : (at : ℕ) (first : ListedLine) → FirstFrom bytes final at first → at < first.position → FirstFrom bytes final (at + 1) first
  further at first is before = search rules

  back : (at : ℕ) (first : ListedLine) → get_or bytes at 0 ≡ 0 → FirstFrom bytes final (at + 1) first → FirstFrom bytes final at first
  back at first null is = search rules

  -- The first line begins at the position or further on.
  here_or_further : (at : ℕ) (first : ListedLine) → FirstFrom bytes final at first → (first.position ≡ at) ⊎ (at < first.position)
  here_or_further at first is = search rules

  abbrev taken : ℕ → List ℕ
  taken at = line_bytes bytes final at

  begins_here : (at : ℕ) (first : ListedLine) → FirstFrom bytes final at first → first.position ≡ at
      → Begins (taken at) first.line (length (spelling first.line))
  begins_here at first is here = subst (λ (n : ℕ). Begins (taken n) first.line (length (spelling first.line))) here is.begins

  -- A line begins at the position.
  line_here : (at count : ℕ) (line : Line) → Begins (taken at) line count → (line ≡ Null → ⊥)
      → FirstFrom bytes final at (record { position = at; line = line })
  line_here at count line begins other = search (rules, begins_count)

  -- A null begins at the position.
  null_here : (at count : ℕ) (line : Line) → Begins (taken at) line count → line ≡ Null → (first : ListedLine)
      → FirstFrom bytes final at first → at < first.position
  null_here at count line begins null first is = search (rules, here_or_further, begins_here)

  none_here : (at : ℕ) → ((line : Line) (count : ℕ) → Begins (taken at) line count → ⊥) → NoneFrom bytes final at
  none_here at none first is = elim (here_or_further at first is) [
    | inl here ↦ none first.line (length (spelling first.line)) (begins_here at first is here)
    | inr before ↦ none Null 1 (at_null at first is before)
  ]

  null_at : (at count : ℕ) (line : Line) → at ≤ final → Begins (taken at) line count → line ≡ Null → get_or bytes at 0 ≡ 0
  null_at at count line inside begins null = sym (first_byte bytes final at inside) ∙ null_byte (taken at) line count begins null

  -- There is a first line from a position on, or none.
  pub first_or_none : (n at : ℕ) → final < at + n → ((first : ListedLine) × FirstFrom bytes final at first) ⊎ NoneFrom bytes final at
  first_or_none zero at past = grind (arith, common_steps, first_inside, none_here, line_here, null_at, further)
  first_or_none (suc n) at past = elim (tells (taken at)) [
    | inr none ↦ inr (none_here at none)
    | inl found ↦ elim (null_or found.0) [
      | inr other ↦ inl (record { position = at; line = found.0 }, line_here at found.1 found.0 found.2 other)
      | inl null ↦ elim (first_or_none n (at + 1) (omega (arith, past))) [
        | inl more ↦ elim (cases_lt final at) [
          | inl beyond ↦
              let inside = first_inside bytes final (at + 1) more.0 more.1 in
              let from = more.1.from in
              absurd (omega (arith, beyond, inside, from))
          | inr inside ↦ inl (more.0, back at more.0 (null_at at found.1 found.0 inside found.2 null) more.1)
        ]
        | inr none ↦ inr (λ first is. none first (further at first is (null_here at found.1 found.0 found.2 null first is)))
      ]
    ]
  ]

  -- The lines from a position on.
  pub reads_some : (ends : Line → Bool) (n at : ℕ) → final < at + n → (lines : List ListedLine) × ReadsTo ends bytes final at lines
  reads_some ends zero at past = search (rules, first_inside, first_or_none, begins_least)
  reads_some ends (suc n) at past = elim (first_or_none (suc n) at past) [
    | inr none ↦ ([], none)
    | inl first ↦ elim (cases_Bool (ends first.0.line)) [
      | inl last ↦
          let none : ◌≡◌ {A = List ListedLine} [] [] = refl in (
            first.0 ∷ [],
            (
              first.1,
              subst (λ (b : Bool). MatchBool b (◌≡◌ {A = List ListedLine} [] []) (ReadsTo ends bytes final (behind first.0) []))
                  (sym last) none,
            ),
          )
      | inr running ↦
          let least = begins_least (taken first.0.position) first.0.line (length (spelling first.0.line)) first.1.begins in
          let from = first.1.from in
          let rest = reads_some ends n (behind first.0) (omega (arith, past, least, from)) in (
            first.0 ∷ rest.0,
            (
              first.1,
              subst (λ (b : Bool). MatchBool b (rest.0 ≡ []) (ReadsTo ends bytes final (behind first.0) rest.0)) (sym running) rest.1,
            ),
          )
    ]
  ]

pub one_list : OneLine → LineOrNone → OneList
one_list one tells memory at = elim (cases_Bool (is_sound memory)) [
  | inl sound ↦
      let final = final_position memory in
      let found = reads_some one tells (program_bytes memory) final is_final_end (final + 1) at (omega arith) in
      let from = from_reads memory at found.0 sound found.1 in
      record { lines = found.0; from = from; one = λ others again. lists_determined one memory at others found.0 again from }
  | inr lost ↦
      let from : LinesFrom memory at [] = record { sound = λ sound. absurd (true≢false (sym sound ∙ lost)); lost = λ _. refl } in
      record { lines = []; from = from; one = λ others again. lists_determined one memory at others [] again from }
]
