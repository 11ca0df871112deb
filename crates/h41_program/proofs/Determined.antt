-- The first line, the list of lines, outcomes and answers are determined.
use Rattle.std.proofs.Common.{◌≡◌, ℕ, ◌<◌, Bool, List, [], ◌∷◌, length, refl, sym, ◌∙◌, ap, subst, arith, inl, inr, Option}
use Rattle.std.proofs.Common.{Result, rules}
use Rattle.std.specs.Prelude.{MatchBool}
use Rattle.std.proofs.lemmas.Bool.{cases_lt, cases_Bool}
use Rattle.h41_codes.specs.ByteGrammar.{spelling, Begins}
use Rattle.h41_codes.specs.ByteLaws.{OneLine}
use Rattle.h41_codes.specs.declared.line.Line.{Line}
use Rattle.h41_ram.specs.RegisterMap.{RegisterMap}
use Rattle.h41_program.specs.declared.listed_line.ListedLine.{ListedLine}
use Rattle.h41_program.specs.declared.refusal.ProgramRefusal.{ProgramRefusal}
use Rattle.h41_program.specs.Edits.{count_before, PlacesAreDetermined, ChangeGives}
use Rattle.h41_program.specs.Edits.{LoadsBehind}
use Rattle.h41_program.specs.ProgramBytes.{program_bytes, final_position}
use Rattle.h41_program.specs.ProgramLaws.{EditsAreDetermined, FirstIsDetermined, ListsAreDetermined, LoadsAreDetermined}
use Rattle.h41_program.specs.FirstLines.{line_bytes, FirstFrom, ReadsTo, behind}
use Rattle.h41_program.proofs.FirstLines.{first_inside, first_byte, only_null}
use Rattle.h41_program.proofs.Windows.{begins_least}

-- A first line is never among the nulls that precede another one.
not_before : OneLine → (bytes : List ℕ) (final at : ℕ) (first other : ListedLine) → FirstFrom bytes final at first
    → FirstFrom bytes final at other → first.position < other.position → ⊥
not_before one bytes final at first other is is_other before = search (rules, begins_least, first_byte, first_inside, only_null)

same_position : OneLine → (bytes : List ℕ) (final at : ℕ) (first other : ListedLine) → FirstFrom bytes final at first
    → FirstFrom bytes final at other → first.position ≡ other.position
same_position one bytes final at first other is is_other = elim (cases_lt first.position other.position) [
  | inl before ↦ absurd (not_before one bytes final at first other is is_other before)
  | inr rest ↦ elim (cases_lt other.position first.position) [
    | inl behind ↦ absurd (not_before one bytes final at other first is_other is behind)
    | inr same ↦ omega (arith, rest, same)
  ]
]

pub first_determined : OneLine → FirstIsDetermined
first_determined one bytes final at first other is is_other =
    let here = same_position one bytes final at first other is is_other in
    let begins : Begins (line_bytes bytes final first.position) other.line (length (spelling other.line)) =
    subst (λ (n : ℕ). Begins (line_bytes bytes final n) other.line (length (spelling other.line))) (sym here) is_other.begins in
    let line =
    (one (line_bytes bytes final first.position) first.line other.line
    (length (spelling first.line)) (length (spelling other.line)) is.begins begins).0 in
    (λ i. record { position = here i; line = line i })

module _ (one : OneLine) (ends : Line → Bool) (bytes : List ℕ) (final : ℕ) where
  pub read_determined : (at : ℕ) (lines others : List ListedLine) → ReadsTo ends bytes final at lines → ReadsTo ends bytes final at others
      → lines ≡ others
  read_determined at [] [] reads again = refl
  read_determined at [] (other ∷ others) reads again = absurd (reads other again.0)
  read_determined at (first ∷ rest) [] reads again = absurd (again first reads.0)
  read_determined at (first ∷ rest) (other ∷ others) reads again =
      let same = first_determined one bytes final at first other reads.0 again.0 in
      let rests : rest ≡ others = elim (cases_Bool (ends first.line)) [
        | inl last ↦
            let final_rest : rest ≡ [] =
            subst (λ (b : Bool). MatchBool b (rest ≡ []) (ReadsTo ends bytes final (behind first) rest)) last reads.1 in
            let final_others : others ≡ [] =
            subst (λ (b : Bool). MatchBool b (others ≡ []) (ReadsTo ends bytes final (behind other) others))
            (ap (λ (l : ListedLine). ends l.line) (sym same) ∙ last) again.1 in
            final_rest ∙ sym final_others
        | inr running ↦
            let more : ReadsTo ends bytes final (behind first) rest =
            subst (λ (b : Bool). MatchBool b (rest ≡ []) (ReadsTo ends bytes final (behind first) rest)) running reads.1 in
            let others_more : ReadsTo ends bytes final (behind other) others =
            subst (λ (b : Bool). MatchBool b (others ≡ []) (ReadsTo ends bytes final (behind other) others))
            (ap (λ (l : ListedLine). ends l.line) (sym same) ∙ running) again.1 in
            read_determined (behind first) rest others more
            (subst (λ (l : ListedLine). ReadsTo ends bytes final (behind l) others) (sym same) others_more)
      ] in
      ap (λ (l : ListedLine). l ∷ rest) same ∙ ap (λ (l : List ListedLine). other ∷ l) rests

pub lists_determined : OneLine → ListsAreDetermined
lists_determined one memory at lines others from again = search (rules, read_determined)

loads_behind_determined : OneLine
    → (memory : RegisterMap) (bytes : List ℕ) (before : Option (List ListedLine)) (outcome other : Result (RegisterMap × ℕ) ProgramRefusal)
    → LoadsBehind memory bytes before outcome → LoadsBehind memory bytes before other → outcome ≡ other
loads_behind_determined one memory bytes before outcome other loads again = search (rules, read_determined)

pub loads_determined : OneLine → LoadsAreDetermined
loads_determined one memory bytes outcome other loads again = search (rules, lists_determined, loads_behind_determined)

changes_determined : OneLine
    → (memory : RegisterMap) (change : ListedLine → List Line) (position : ℕ)
    (outcome other : Result (RegisterMap × Unit {0}) ProgramRefusal)
    → ChangeGives memory change position outcome → ChangeGives memory change position other → outcome ≡ other
changes_determined one memory change position outcome other gives again = search (rules, lists_determined)

pub edits_determined : OneLine → EditsAreDetermined
edits_determined one memory change at outcome other gives again = elim gives [
  | inl edit ↦ elim again [
    | inl second ↦
        let same = first_determined one (program_bytes memory) (final_position memory) at edit.0 second.0 edit.1 second.1 in
        changes_determined one memory (change second.0.position) second.0.position outcome other
        (subst (λ (first : ListedLine). ChangeGives memory (change first.position) first.position outcome) same edit.2) second.2
    | inr none ↦ absurd (none.0 edit.0 edit.1)
  ]
  | inr none ↦ elim again [
    | inl second ↦ absurd (none.0 second.0 second.1)
    | inr nothing ↦ none.1 ∙ sym nothing.1
  ]
]

pub answers_determined : {A : Type 0} → OneLine → PlacesAreDetermined A
answers_determined one answer memory at new result other is again =
    let first = first_determined one (program_bytes memory) (final_position memory) at is.first again.first is.stands again.stands in
    let lines = lists_determined one memory 0 is.lines again.lines is.from again.from in
    let listed = lists_determined one new 0 is.listed again.listed is.read again.read in
    is.is ∙ ap (λ (l : ListedLine). answer (count_before l.position is.lines) is.listed) first
    ∙ ap (λ (l : List ListedLine). answer (count_before again.first.position l) is.listed) lines
    ∙ ap (answer (count_before again.first.position again.lines)) listed ∙ sym again.is
