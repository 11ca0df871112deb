-- The code's table of first words is right: what each of them begins, and that every mnemonic's first word is in its place.
use Rattle.std.proofs.Common.{◌≡◌, ℕ, Bool, true, false, List, [], ◌∷◌, length, Some, None, Ok, Err, refl, ◌∙◌, inl, inr, ap, sym, subst}
use Rattle.std.proofs.Common.{bytes_eq, if◌then◌else◌}
use Rattle.std.specs.Prelude.{codes, cond, ◌&&◌, ◌||◌, ◌==◌, Option, Result, option_map}
use Rattle.std.proofs.Math.Dec.{eqb-suc-zero}
use Rattle.std.proofs.lemmas.Bool.{cases_Bool}
use Rattle.std.proofs.lemmas.Slice.Eq.{bytes_eq-Decides}
use Rattle.h41_words.specs.declared.rows.Condition.{Condition}
use Rattle.h41_words.specs.declared.second_word.LongJumpKind.TheVariants.{Execute, Go}
use Rattle.h41_fields.specs.declared.field.Pointer.TheVariants.{P, Q}
use Rattle.h41_words.specs.declared.rows.Row.{Row}
use Rattle.h41_words.specs.declared.rows.Row.TheVariants.{And, GoToAddress, GoToKey, Or, ReadData, ReturnIf, SelectPointer, WriteData}
use Rattle.h41_words.specs.WordTable.{number_of}
use Rattle.h41_asm.specs.declared.fault.SourceFault.{SourceFault}
use Rattle.h41_asm.specs.declared.fault.SourceFault.TheVariants.{BadLine, BadOperand}
use Rattle.h41_asm.specs.declared.table.Opening.TheVariants.{Data, GoTo, If, Logic, Select, Single}
use Rattle.h41_asm.specs.declared.table.Numbered.TheVariants as numbers
use Rattle.h41_asm.specs.private.CodeStatements.{takes_numbered}
use Rattle.h41_asm.specs.Statements.{Statement, Taking, Words, words_behind, is_begun, one_word, reading_of, single_among, singles}
use Rattle.h41_asm.specs.Statements.{statement_by, taken_among, takers, takes_address}
use Rattle.h41_asm.specs.private.Openings.{OpensAs, at_carry, by_second, pair, without_operand}

-- The meaning of words by the mnemonic without operand that they are, by the mnemonic with which they begin, and by whether they begin with
-- one without operand.
abbrev answer : Option Row → Option (Result Statement SourceFault) → Bool → Result Statement SourceFault
answer (Some row) statement_by begun = Ok (one_word row)
answer None (Some read) begun = read
answer None None begun = Err (if begun then BadOperand else BadLine)

answered : (first : List ℕ) (others : List (List ℕ)) (found : Option Row) (statement_by : Option (Result Statement SourceFault))
    (begun : Bool)
    → single_among singles (first ∷ others) ≡ found → taken_among takers (first ∷ others) ≡ statement_by
    → is_begun singles (first ∷ others) ≡ begun → reading_of (first ∷ others) ≡ answer found statement_by begun
answered first others (Some row) statement_by begun found_is taken_is begun_is = rw found_is refl
answered first others None (Some read) begun found_is taken_is begun_is = rw (found_is, taken_is) refl
answered first others None None begun found_is taken_is begun_is = rw (found_is, taken_is, begun_is) refl

-- An entry that is found if a test passes, otherwise the entry that is found after it.
abbrev if_found : {T : Type 0} → Bool → List ℕ → T → Option (List ℕ × T) → Option (List ℕ × T)
if_found test name value other = cond test (Some (name, value)) other

abbrev row_of : Option (List ℕ × Row) → Option Row
row_of found = option_map (λ single. single.1) found

-- The words after an instruction without an operand, by whether there are any.
abbrev alone_if : ℕ → Bool → Result Statement SourceFault
alone_if number none = if none then Ok (Words (number ∷ [])) else Err BadOperand

alone_is : (number : ℕ) (others : List (List ℕ)) → alone_if number (length others == 0) ≡ without_operand number others
alone_is number [] = refl
alone_is number (word ∷ others) = rw (eqb-suc-zero (length others)) refl

-- An instruction that is its first word alone.
single_answer : (none : Bool) (name : List ℕ) (row : Row)
    → answer (row_of (if_found none name row None)) None true ≡ alone_if (number_of row) none
single_answer true name row = refl
single_answer false name row = refl

pub single : (name : List ℕ) (row : Row) (number : ℕ)
    → ((others : List (List ℕ)) → single_among singles (name ∷ others) ≡ row_of (if_found (length others == 0) name row None))
    → ((others : List (List ℕ)) → taken_among takers (name ∷ others) ≡ None)
    → ((others : List (List ℕ)) → is_begun singles (name ∷ others) ≡ true) → number_of row ≡ number → OpensAs name (Some (Single number))
single name row number found statement_by begun numbered others =
    answered name others _ _ _ (found others) (statement_by others) (begun others) ∙ single_answer (length others == 0) name row
    ∙ ap (λ (n : ℕ). alone_if n (length others == 0)) numbered ∙ alone_is number others

-- An instruction of two words.
pair_answer : (same none : Bool) (name : List ℕ) (row : Row)
    → answer (row_of (if_found ((same && true) && none) name row None)) None ((same && true) || false)
    ≡ (if same then alone_if (number_of row) none else Err BadLine)
pair_answer true true name row = refl
pair_answer true false name row = refl
pair_answer false none name row = refl

abbrev is_pair : List ℕ → List ℕ → List ℕ → Row → Type 0
is_pair first second_name name row = (second : List ℕ) (others : List (List ℕ))
    → (single_among singles (first ∷ second ∷ others)
    ≡ row_of (if_found ((bytes_eq second second_name && true) && (length others == 0)) name row None))
    × (taken_among takers (first ∷ second ∷ others) ≡ None)
    × (is_begun singles (first ∷ second ∷ others) ≡ ((bytes_eq second second_name && true) || false))

pub pair_reads : (first second_name name : List ℕ) (row : Row) → reading_of (first ∷ []) ≡ Err BadLine
    → is_pair first second_name name row → (others : List (List ℕ))
    → reading_of (first ∷ others) ≡ by_second (pair second_name (number_of row)) others
pair_reads first second_name name row none facts [] = none
pair_reads first second_name name row none facts (second ∷ others) =
    let given = facts second others in
    answered first (second ∷ others) _ _ _ given.0 given.1 given.2 ∙ pair_answer (bytes_eq second second_name) (length others == 0) name row
    ∙ ap (λ (said : Result Statement SourceFault). if bytes_eq second second_name then said else Err BadLine)
    (alone_is (number_of row) others)

-- One of two instructions of two words.
either_answer : (same next none : Bool) (name next_name : List ℕ) (row next_row : Row)
    → answer (row_of (if_found ((same && true) && none) name row (if_found ((next && true) && none) next_name next_row None)))
    None ((same && true) || ((next && true) || false))
    ≡ (if same then alone_if (number_of row) none else (if next then alone_if (number_of next_row) none else Err BadLine))
either_answer true true true name next_name row next_row = refl
either_answer true false true name next_name row next_row = refl
either_answer false true true name next_name row next_row = refl
either_answer same next none name next_name row next_row = refl

abbrev both_alone : Bool → Bool → Result Statement SourceFault → Result Statement SourceFault → Result Statement SourceFault
both_alone same next said next_said = if same then said else (if next then next_said else Err BadLine)

both_alone_is : (same next : Bool) (number next_number : ℕ) (others : List (List ℕ))
    → both_alone same next (alone_if number (length others == 0)) (alone_if next_number (length others == 0))
    ≡ both_alone same next (without_operand number others) (without_operand next_number others)
both_alone_is same next number next_number others =
    ap (λ (said : Result Statement SourceFault). both_alone same next said (alone_if next_number (length others == 0)))
    (alone_is number others)
    ∙ ap (λ (said : Result Statement SourceFault). both_alone same next (without_operand number others) said) (alone_is next_number others)

pub select_sound : OpensAs (codes "SLCT") (Some Select)
unfolding singles takers
select_sound [] = refl
select_sound (second ∷ others) =
    let p : Bool = bytes_eq second (codes "P") in
    let q : Bool = bytes_eq second (codes "Q") in
    answered (codes "SLCT") (second ∷ others) (row_of (if_found ((p && true) && (length others == 0)) (codes "SLCT P")
    (SelectPointer P) (if_found ((q && true) && (length others == 0)) (codes "SLCT Q") (SelectPointer Q) None)))
    None ((p && true) || ((q && true) || false)) refl refl refl
    ∙ either_answer p q (length others == 0) (codes "SLCT P") (codes "SLCT Q") (SelectPointer P) (SelectPointer Q)
    ∙ both_alone_is p q (number_of (SelectPointer P)) (number_of (SelectPointer Q)) others

pub goto_sound : OpensAs (codes "GOTO") (Some GoTo)
unfolding singles takers
goto_sound [] = refl
goto_sound (second ∷ others) =
    let address : Bool = bytes_eq second (codes "ADR") in
    let key : Bool = bytes_eq second (codes "KEY") in
    answered (codes "GOTO") (second ∷ others) (row_of (if_found ((address && true) && (length others == 0))
    (codes "GOTO ADR") GoToAddress (if_found ((key && true) && (length others == 0)) (codes "GOTO KEY") GoToKey None)))
    None ((address && true) || ((key && true) || false)) refl refl refl
    ∙ either_answer address key (length others == 0) (codes "GOTO ADR") (codes "GOTO KEY") GoToAddress GoToKey
    ∙ both_alone_is address key (number_of GoToAddress) (number_of GoToKey) others

-- C=C OR A and C=C AND A.
logic_none : (same next : Bool) (name next_name : List ℕ) (row next_row : Row)
    → answer (row_of (if_found ((same && false) && true) name row (if_found ((next && false) && true) next_name next_row None)))
    None ((same && false) || ((next && false) || false))
    ≡ both_alone same next (Err BadLine) (Err BadLine)
logic_none true true name next_name row next_row = refl
logic_none false true name next_name row next_row = refl
logic_none same next name next_name row next_row = refl

abbrev with_a : Bool → Result Statement SourceFault → Result Statement SourceFault
with_a a said = if a then said else Err BadLine

logic_answer : (same next a none : Bool) (name next_name : List ℕ) (row next_row : Row)
    → answer (row_of (if_found ((same && (a && true)) && none) name row (if_found ((next && (a && true)) && none) next_name next_row None)))
    None ((same && (a && true)) || ((next && (a && true)) || false))
    ≡ both_alone same next (with_a a (alone_if (number_of row) none)) (with_a a (alone_if (number_of next_row) none))
logic_answer true true true true name next_name row next_row = refl
logic_answer true false true true name next_name row next_row = refl
logic_answer false true true true name next_name row next_row = refl
logic_answer same next a none name next_name row next_row = refl

logic_alone : (same next a : Bool) (number next_number : ℕ) (others : List (List ℕ))
    → both_alone same next (with_a a (alone_if number (length others == 0))) (with_a a (alone_if next_number (length others == 0)))
    ≡ both_alone same next (with_a a (without_operand number others)) (with_a a (without_operand next_number others))
logic_alone same next a number next_number others =
    ap
    (λ (said : Result Statement SourceFault). both_alone same next (with_a a said) (with_a a (alone_if next_number (length others == 0))))
    (alone_is number others)
    ∙ ap (λ (said : Result Statement SourceFault). both_alone same next (with_a a (without_operand number others)) (with_a a said))
    (alone_is next_number others)

pub logic_sound : OpensAs (codes "C=C") (Some Logic)
unfolding singles takers
logic_sound [] = refl
logic_sound (second ∷ []) =
    let o : Bool = bytes_eq second (codes "OR") in
    let n : Bool = bytes_eq second (codes "AND") in
    answered (codes "C=C") (second ∷ [])
    (row_of (if_found ((o && false) && true) (codes "C=C OR A") Or (if_found ((n && false) && true) (codes "C=C AND A") And None)))
    None ((o && false) || ((n && false) || false)) refl refl refl
    ∙ logic_none o n (codes "C=C OR A") (codes "C=C AND A") Or And
logic_sound (second ∷ third ∷ others) =
    let o : Bool = bytes_eq second (codes "OR") in
    let n : Bool = bytes_eq second (codes "AND") in
    let a : Bool = bytes_eq third (codes "A") in
    let none : Bool = length others == 0 in
    answered (codes "C=C") (second ∷ third ∷ others) (row_of
    (if_found ((o && (a && true)) && none) (codes "C=C OR A") Or (if_found ((n && (a && true)) && none) (codes "C=C AND A") And None)))
    None ((o && (a && true)) || ((n && (a && true)) || false)) refl refl refl
    ∙ logic_answer o n a none (codes "C=C OR A") (codes "C=C AND A") Or And
    ∙ logic_alone o n a (number_of Or) (number_of And) others

-- READ and WRIT.
data_answer : (whole : Bool) (name : List ℕ) (row : Row) (read : Result Statement SourceFault) (begun : Bool)
    → answer (row_of (if_found whole name row None)) (Some read) begun ≡ (if whole then Ok (Words (number_of row ∷ [])) else read)
data_answer true name row read begun = refl
data_answer false name row read begun = refl

pub read_sound : OpensAs (codes "READ") (Some (Data 0x038 numbers.Read))
unfolding singles takers number_of
read_sound [] = refl
read_sound (second ∷ others) =
    let whole : Bool = (bytes_eq second (codes "DATA") && true) && (length others == 0) in
    answered (codes "READ") (second ∷ others) (row_of (if_found whole (codes "READ DATA") ReadData None))
    (Some (statement_by (takes_numbered numbers.Read) (second ∷ others))) _ refl refl refl
    ∙ data_answer whole (codes "READ DATA") ReadData (statement_by (takes_numbered numbers.Read) (second ∷ others))
    (is_begun singles (codes "READ" ∷ second ∷ others))

pub write_sound : OpensAs (codes "WRIT") (Some (Data 0x2F0 numbers.Write))
unfolding singles takers number_of
write_sound [] = refl
write_sound (second ∷ others) =
    let whole : Bool = (bytes_eq second (codes "DATA") && true) && (length others == 0) in
    answered (codes "WRIT") (second ∷ others) (row_of (if_found whole (codes "WRIT DATA") WriteData None))
    (Some (statement_by (takes_numbered numbers.Write) (second ∷ others))) _ refl refl refl
    ∙ data_answer whole (codes "WRIT DATA") WriteData (statement_by (takes_numbered numbers.Write) (second ∷ others))
    (is_begun singles (codes "WRIT" ∷ second ∷ others))

-- Returns and jumps by address.
jump_answer : (execute go : Bool) (says : List ℕ × Taking → Result Statement SourceFault) (name next_name : List ℕ) (takes next : Taking)
    → answer None (option_map says (if_found (execute && true) name takes (if_found (go && true) next_name next None))) false
    ≡ both_alone execute go (says (name, takes)) (says (next_name, next))
jump_answer true go says name next_name takes next = refl
jump_answer false true says name next_name takes next = refl
jump_answer false false says name next_name takes next = refl

abbrev is_condition : Condition → List ℕ → List ℕ → List ℕ → List ℕ → Type 0
is_condition condition first returns calls goes = (second : List ℕ) (others : List (List ℕ))
    → (single_among singles (first ∷ second ∷ others)
    ≡ row_of (if_found ((bytes_eq second (codes "RTN") && true) && (length others == 0)) returns (ReturnIf condition) None))
    × (taken_among takers (first ∷ second ∷ others)
    ≡ option_map (λ taker. statement_by taker.1 (words_behind taker.0 (first ∷ second ∷ others)))
    (if_found (bytes_eq second (codes "XQ") && true) calls (takes_address condition Execute)
    (if_found (bytes_eq second (codes "GO") && true) goes (takes_address condition Go) None)))
    × (is_begun singles (first ∷ second ∷ others) ≡ ((bytes_eq second (codes "RTN") && true) || false))
    × (words_behind calls (first ∷ second ∷ others) ≡ others)
    × (words_behind goes (first ∷ second ∷ others) ≡ others)

pub condition_reads : (condition : Condition) (first returns calls goes : List ℕ) → reading_of (first ∷ []) ≡ Err BadLine
    → is_condition condition first returns calls goes → OpensAs first (Some (If condition))
condition_reads condition first returns calls goes none facts [] = none
condition_reads condition first returns calls goes none facts (second ∷ others) = elim (cases_Bool (bytes_eq second (codes "RTN"))) [
  | inl same ↦
      let word : second ≡ codes "RTN" = (bytes_eq-Decides second (codes "RTN")).0 same in
      let given = facts (codes "RTN") others in
      subst (λ (w : List ℕ). reading_of (first ∷ w ∷ others) ≡ at_carry condition w others) (sym word)
      (answered first (codes "RTN" ∷ others) _ _ _ given.0 given.1 given.2
      ∙ single_answer (length others == 0) returns (ReturnIf condition) ∙ alone_is (number_of (ReturnIf condition)) others)
  | inr other ↦
      let given = facts second others in
      let says : List ℕ × Taking → Result Statement SourceFault =
      λ taker. statement_by taker.1 (words_behind taker.0 (first ∷ second ∷ others)) in
      answered first (second ∷ others) None _ false (rw other at given.0) given.1 (rw other at given.2)
      ∙ jump_answer (bytes_eq second (codes "XQ")) (bytes_eq second (codes "GO")) says calls goes
      (takes_address condition Execute) (takes_address condition Go)
      ∙ rw (given.3, given.4, other) refl
]
