-- What is stored of the lines that have words: the errors and the words of these lines are those of all lines.
use Rattle.std.proofs.Common.{◌≡◌, ℕ, suc, ◌+◌, ◌≤◌, true, false, ◌==◌, List, [], ◌∷◌, ◌++◌, length, drop, refl, sym, ap, ◌∙◌, subst}
use Rattle.std.proofs.Common.{append_assoc, arith, add-one, IsOk, None, Option, Ok, Err, Result, inl, inr}
use Rattle.std.specs.Borrow.{Bor}
use Rattle.std.specs.Option.{option_or}
use Rattle.std.proofs.lemmas.Bool.{cases_Bool, eqb-true}
use Rattle.h41_asm.specs.declared.fault.SourceFault.{SourceFault}
use Rattle.h41_asm.specs.declared.fault.SpellError.{SpellError}
use Rattle.h41_asm.specs.declared.fault.SpellError.TheVariants as spell_errors
use Rattle.h41_asm.specs.declared.kept.KeptLine.{KeptLine}
use Rattle.h41_asm.specs.declared.statement.Statement as code
use Rattle.h41_asm.specs.Assembly.{address_count}
use Rattle.h41_asm.specs.private.CodeStatements.{in_code, in_form}
use Rattle.h41_asm.specs.Faults.{FaultOnLine, at_line, read_fault, read_length, reference_fault}
use Rattle.h41_asm.specs.private.KeptLines.{AreReady, Said, SaidSpell, kept_lines, kept_names, kept_said, said_faults, said_from}
use Rattle.h41_asm.specs.private.KeptLines.{with_words}
use Rattle.h41_asm.specs.private.LabelTable.{IsReady, SpellsNext}
use Rattle.h41_asm.specs.Placing.{Labels, LinesSpell, SpellsRead}
use Rattle.h41_asm.specs.Refusals.{IsFault, IsRefusal, refusal_of}
use Rattle.h41_asm.specs.SourceLines.{SourceLine}
use Rattle.h41_asm.specs.Statements.{Statement, Words, OutOfReach, LongJumpTo, ShortJumpTo, EntryAt, reading_of, statement_length}
use Rattle.h41_asm.proofs.Determined.{length-line}
use Rattle.h41_asm.proofs.Walks.{reference_faults}

-- A statement without words has no error of a reference, and spells nothing.
no_words-no_fault : (labels : Labels) (address : ℕ) (said : Result Statement SourceFault) → read_length said ≡ 0
    → read_fault labels address said ≡ None
no_words-no_fault labels address (Ok (Words words)) none = refl
no_words-no_fault labels address (Ok OutOfReach) none = absurd (omega (arith, none))
no_words-no_fault labels address (Ok (LongJumpTo condition kind name)) none = absurd (omega (arith, none))
no_words-no_fault labels address (Ok (ShortJumpTo condition name)) none = absurd (omega (arith, none))
no_words-no_fault labels address (Ok (EntryAt bits name)) none = absurd (omega (arith, none))
no_words-no_fault labels address (Err fault) none = refl

is_empty : (words : List ℕ) → length words ≡ 0 → [] ≡ words
is_empty [] none = refl
is_empty (word ∷ words) none = absurd (omega (arith, none))

no_words-spells_none : (labels : Labels) (address : ℕ) (said : Result Statement SourceFault) → IsOk said → read_length said ≡ 0
    → SpellsRead labels address said []
no_words-spells_none labels address (Ok (Words words)) ok none = is_empty words none
no_words-spells_none labels address (Ok OutOfReach) ok none = absurd (omega (arith, none))
no_words-spells_none labels address (Ok (LongJumpTo condition kind name)) ok none = absurd (omega (arith, none))
no_words-spells_none labels address (Ok (ShortJumpTo condition name)) ok none = absurd (omega (arith, none))
no_words-spells_none labels address (Ok (EntryAt bits name)) ok none = absurd (omega (arith, none))
no_words-spells_none labels address (Err fault) ok none = let no : false ≡ true = ok in cc

-- The errors of lines.
faults_with : (labels : Labels) (number address : ℕ) (said : Result Statement SourceFault) (rest : List Said)
    → said_faults labels address (with_words number said ++ rest)
    ≡ option_or (at_line number (read_fault labels address said)) (said_faults labels (address + read_length said) rest)
faults_with labels number address said rest =
    elim (cases_Bool (read_length said == 0)) [
      | inl none ↦
          let empty : read_length said ≡ 0 = eqb-true (read_length said) 0 none in
          let same : address ≡ address + read_length said = omega (arith, empty) in
          rw (none, no_words-no_fault labels address said empty) (ap (λ (n : ℕ). said_faults labels n rest) same)
      | inr some ↦ rw some refl
    ]

pub faults_said : (labels : Labels) (number address : ℕ) (lines : List SourceLine)
    → reference_faults labels number address lines ≡ said_faults labels address (said_from number lines)
faults_said labels number address [] = refl
faults_said labels number address (line ∷ rest) =
    let said = reading_of line.code in
    ap (option_or (at_line number (read_fault labels address said))) (faults_said labels (suc number) (address + read_length said) rest)
    ∙ sym (faults_with labels number address said (said_from (suc number) rest))

-- Whether lines are ready.
ready_with : (number address : ℕ) (said : Result Statement SourceFault) (rest : List Said) → IsOk said
    → address + read_length said ≤ address_count → AreReady (address + read_length said) rest
    → AreReady address (with_words number said ++ rest)
ready_with number address said rest ok within ready =
    elim (cases_Bool (read_length said == 0)) [
      | inl none ↦
          let empty : read_length said ≡ 0 = eqb-true (read_length said) 0 none in
          let same : address + read_length said ≡ address = omega (arith, empty) in
          rw none (subst (λ (n : ℕ). AreReady n rest) same ready)
      | inr some ↦ rw some (ok, within, ready)
    ]

pub ready_said : (labels : Labels) (number address : ℕ) (lines : List SourceLine) → IsReady labels address lines
    → AreReady address (said_from number lines)
ready_said labels number address [] ready = tt
ready_said labels number address (line ∷ rest) ready =
    let said = reading_of line.code in
    ready_with number address said (said_from (suc number) rest) ready.0 ready.1
    (ready_said labels (suc number) (address + read_length said) rest ready.3)

-- The words of lines.
spelled_with : (labels : Labels) (number address : ℕ) (said : Result Statement SourceFault) (rest : List Said) (words : List ℕ) → IsOk said
    → SaidSpell labels address (with_words number said ++ rest) words → SaidSpell labels address ((number, said) ∷ rest) words
spelled_with labels number address said rest words ok spelled =
    elim (cases_Bool (read_length said == 0)) [
      | inl none ↦
          let empty : read_length said ≡ 0 = eqb-true (read_length said) 0 none in
          let same : address ≡ address + read_length said = omega (arith, empty) in
          let others : SaidSpell labels address rest words = rw none at spelled in
          ([], words, refl, no_words-spells_none labels address said ok empty, subst (λ (n : ℕ). SaidSpell labels n rest words) same others)
      | inr some ↦ rw some at spelled
    ]

pub spelled_said : (labels : Labels) (number address : ℕ) (lines : List SourceLine) (words : List ℕ) → IsReady labels address lines
    → SaidSpell labels address (said_from number lines) words → LinesSpell labels address lines words
spelled_said labels number address [] words ready spelled = spelled
spelled_said labels number address (line ∷ rest) words ready spelled =
    let said = reading_of line.code in
    let apart = spelled_with labels number address said (said_from (suc number) rest) words ready.0 spelled in
    let long = length-line labels address said apart.0 apart.3 in
    let others = spelled_said labels (suc number) (address + read_length said) rest apart.1 ready.3 apart.4 in (
      apart.0,
      apart.1,
      apart.2,
      record { label = ready.2; words = apart.3 },
      subst (λ (n : ℕ). LinesSpell labels (address + n) rest apart.1) (sym long) others,
    )

-- The words after those of one more statement.
pub spelled_next : (labels : Labels) (address : ℕ) (said : Said) (statement : Statement) (rest : List Said) (before after others : List ℕ)
    → Ok statement ≡ said.1 → SpellsNext labels address statement before after → SaidSpell labels (address + read_length said.1) rest others
    → (more : List ℕ) × (after ++ others ≡ before ++ more) × SaidSpell labels address (said ∷ rest) more
spelled_next labels address said statement rest before after others read next spelled =
    let own = next.own in (
      own ++ others,
      ap (λ words. words ++ others) next.added ∙ append_assoc before own others,
      (own, others, refl, subst (λ r. SpellsRead labels address r own) read next.spelled, spelled),
    )

-- The errors after a line that has none.
pub faults_next : (labels : Labels) (address : ℕ) (said : Said) (statement : Statement) (rest : List Said) → Ok statement ≡ said.1
    → reference_fault labels address statement ≡ None
    → said_faults labels (address + read_length said.1) rest ≡ said_faults labels address (said ∷ rest)
faults_next labels address said statement rest read none =
    let own : read_fault labels address said.1 ≡ None = sym (ap (read_fault labels address) read) ∙ none in
    sym (ap (λ fault. option_or (at_line said.0 fault) (said_faults labels (address + read_length said.1) rest)) own)

-- What was stored of lines and of more lines.
said_of_both : (lines more : List KeptLine) (names others : List (Bor (List ℕ))) → length names ≡ length lines
    → kept_said (lines ++ more) (names ++ others) ≡ kept_said lines names ++ kept_said more others
said_of_both [] more [] others same = refl
said_of_both [] more (name ∷ names) others same = absurd (omega (arith, same))
said_of_both (line ∷ lines) more [] others same = absurd (omega (arith, same))
said_of_both (line ∷ lines) more (name ∷ names) others same =
    ap (λ said. (line.number, Ok (in_form line.form name.now)) ∷ said) (said_of_both lines more names others (omega (arith, same)))

-- What is stored of a line is its meaning.
said_of_line : (number : ℕ) (statement : code.Statement)
    → kept_said (kept_lines number statement) (kept_names statement) ≡ with_words number (Ok (in_code statement))
said_of_line number statement =
    elim (cases_Bool (statement_length (in_code statement) == 0)) [
      | inl none ↦ rw none refl
      | inr some ↦ rw some refl
    ]

pub length_of_line : (number : ℕ) (statement : code.Statement) → length (kept_names statement) ≡ length (kept_lines number statement)
length_of_line number statement =
    elim (cases_Bool (statement_length (in_code statement) == 0)) [
      | inl none ↦ rw none refl
      | inr some ↦ rw some refl
    ]

-- What is stored after one more line.
pub kept_next : (number : ℕ) (statement : code.Statement) (line : SourceLine) (rest : List SourceLine) (lines : List KeptLine)
    (names : List (Bor (List ℕ))) → length names ≡ length lines → Ok (in_code statement) ≡ reading_of line.code
    → kept_said (lines ++ kept_lines number statement) (names ++ kept_names statement) ++ said_from (number + 1) rest
    ≡ kept_said lines names ++ said_from number (line ∷ rest)
kept_next number statement line rest lines names same read =
    let own = said_of_line number statement ∙ ap (with_words number) read in
    let more = said_of_both lines (kept_lines number statement) names (kept_names statement) same
    ∙ ap (λ others. kept_said lines names ++ others) own in
    ap (λ others. others ++ said_from (number + 1) rest) more
    ∙ append_assoc (kept_said lines names) (with_words number (reading_of line.code)) (said_from (number + 1) rest)
    ∙ rw add-one refl

-- The line at an index is the first of the remaining lines.
pub said_at : (lines : List KeptLine) (names : List (Bor (List ℕ))) (i : ℕ) (line : KeptLine) (name : Bor (List ℕ))
    → drop i lines ≡ line ∷ drop (i + 1) lines → drop i names ≡ name ∷ drop (i + 1) names
    → kept_said (drop i lines) (drop i names)
    ≡ (line.number, Ok (in_form line.form name.now)) ∷ kept_said (drop (i + 1) lines) (drop (i + 1) names)
said_at lines names i line name first_line first_name = rw (first_line, first_name) refl

-- An error of the first line is the first error of all.
pub refused_first : (found : Option SourceFault) (error : SpellError) (number : ℕ) (others : FaultOnLine) → IsFault found error
    → IsRefusal (option_or (at_line number found) others) (refusal_of error number)
refused_first found (spell_errors.Fault fault) number others is = rw is refl
refused_first found spell_errors.OutOfMemory number others is = tt
