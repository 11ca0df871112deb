-- The lines of words are read as these words: instruction by instruction, with one word or two.
use Rattle.std.proofs.Common.{◌≡◌, ℕ, ◌+◌, ◌*◌, ◌/◌, ◌%◌, ◌<◌, true, false, ◌||◌, ◌==◌, List, [], ◌∷◌, ◌++◌, Option, Some, None, flat_map}
use Rattle.std.proofs.Common.{refl, sym, ap, ◌∙◌, subst, arith, append_assoc, inl, inr}
use Rattle.std.specs.Prelude.{codes}
use Rattle.std.specs.List.{AllByRecursion}
use Rattle.std.proofs.lemmas.Bool.{cases_Bool, cond_both, eqb-true, or_cases}
use Rattle.h41_digits.specs.Register.{hexadecimal_text}
use Rattle.h41_words.specs.declared.rows.Row.TheVariants.{LongJump, LoadImmediate}
use Rattle.h41_words.specs.declared.second_word.SecondWord.{SecondWord}
use Rattle.h41_words.specs.Mnemonics.{address_text, instruction_text, long_jump_text}
use Rattle.h41_words.specs.SecondWord.{second_of, second_number_of, SaidByWord}
use Rattle.h41_words.specs.WordTable.{length_of, number_of, row_of, OneWordOfRow, WordOfRow}
use Rattle.h41_dis.specs.declared.cut.Piece.{Piece}
use Rattle.h41_dis.specs.Spelling.{piece_of_one, with_second, pieces, piece_text}
use Rattle.h41_asm.specs.Statements.{long_jump_words}
use Rattle.h41_laws_words.proofs.ListingRows.{reads_immediate, reads_long_jump}
use Rattle.h41_laws_words.proofs.ListingTable.{reads_word}
use Rattle.h41_laws_words.proofs.ListingTexts.{Reads}

-- The words of an instruction after its first.
abbrev pub behind_first : Option ℕ → List ℕ
behind_first None = []
behind_first (Some second) = second ∷ []

abbrev pub piece_words : Piece → List ℕ
piece_words piece = piece.first ∷ behind_first piece.second

-- The text of an instruction is read as its words.
abbrev pub ReadsPiece : Piece → Type 0
ReadsPiece piece = Reads (piece_text piece.first piece.second) (piece_words piece)

-- The words of a jump to an address that was combined from its bytes.
jump_words : (low : ℕ) (second : SecondWord) → low < 256
    → long_jump_words second.condition second.kind (second.high_byte * 256 + low) ≡ number_of (LongJump low) ∷ second_number_of second ∷ []
jump_words low second inside =
    let low_byte : (second.high_byte * 256 + low) % 256 ≡ low = omega arith in
    let high_byte : (second.high_byte * 256 + low) / 256 ≡ second.high_byte = omega arith in
    rw (low_byte, high_byte) refl

reads_jump : (low : ℕ) (second : SecondWord) → low < 256 → second.high_byte < 256
    → Reads (address_text low second) (number_of (LongJump low) ∷ second_number_of second ∷ [])
reads_jump low second inside high =
    let address = second.high_byte * 256 + low in
    let name = long_jump_text second.condition second.kind in
    let digits = hexadecimal_text 4 address in
    let text : name ++ 32 ∷ digits ≡ (name ++ codes " ") ++ digits = sym (append_assoc name (codes " ") digits) in
    let line = reads_long_jump second.condition second.kind address (omega arith) in
    subst (λ (t : List ℕ). Reads t (number_of (LongJump low) ∷ second_number_of second ∷ [])) text
    (subst (λ (words : List ℕ). Reads (name ++ 32 ∷ digits) words) (jump_words low second inside) line)

-- The words that begin an instruction of two words: those of jumps by address, and LDI.
begins_two : (first : ℕ) → (length_of first == 2) ≡ true → (first % 4 == 1 || first == 0x130) ≡ true
unfolding length_of
begins_two first two = elim (cases_Bool (first % 4 == 1 || first == 0x130)) [
  | inl begins ↦ begins
  | inr other ↦ let one : (1 == 2) ≡ true = rw other at two in let no : false ≡ true = one in absurd (cc)
]

module _ (word_of_row : WordOfRow) (one_word_of_row : OneWordOfRow) (said_by_word : SaidByWord) where
  reads_jump_pair : (first second : ℕ) → first < 1024 → second < 1024 → first % 4 ≡ 1
      → Reads (instruction_text (row_of first) second) (first ∷ second ∷ [])
  unfolding number_of
  reads_jump_pair first second first_fits second_fits jump =
      let low_fits : first / 4 < 256 = omega arith in
      let number : first / 4 * 4 + 1 ≡ first = omega arith in
      let row : row_of first ≡ LongJump (first / 4) = (one_word_of_row (LongJump (first / 4)) low_fits first).1 (sym number) in
      let high_fits : second / 4 < 256 = omega arith in
      let said : (first / 4 * 4 + 1) ∷ second_number_of (second_of second) ∷ [] ≡ first ∷ second ∷ [] =
      ap (λ (n : ℕ). n ∷ second_number_of (second_of second) ∷ []) number ∙ ap (λ (n : ℕ). first ∷ n ∷ []) (said_by_word second) in
      subst (λ r. Reads (instruction_text r second) (first ∷ second ∷ [])) (sym row)
      (subst (λ (words : List ℕ). Reads (instruction_text (LongJump (first / 4)) second) words) said
      (reads_jump (first / 4) (second_of second) low_fits high_fits))

  reads_immediate_pair : (first second : ℕ) → second < 1024 → first ≡ 0x130
      → Reads (instruction_text (row_of first) second) (first ∷ second ∷ [])
  unfolding number_of
  reads_immediate_pair first second second_fits immediate =
      let row : row_of first ≡ LoadImmediate = (one_word_of_row LoadImmediate tt first).1 immediate in
      subst (λ r. Reads (instruction_text r second) (first ∷ second ∷ [])) (sym row)
      (subst (λ (n : ℕ). Reads (instruction_text LoadImmediate second) (n ∷ second ∷ []))
      (sym immediate) (reads_immediate second second_fits))

  reads_pair : (first second : ℕ) → first < 1024 → second < 1024 → (length_of first == 2) ≡ true
      → Reads (instruction_text (row_of first) second) (first ∷ second ∷ [])
  reads_pair first second first_fits second_fits two = elim (or_cases (first % 4 == 1) (first == 0x130) (begins_two first two)) [
    | inl jump ↦ reads_jump_pair first second first_fits second_fits (eqb-true (first % 4) 1 jump)
    | inr immediate ↦ reads_immediate_pair first second second_fits (eqb-true first 0x130 immediate)
  ]

  -- Each instruction is read as its own words.
  pub reads_pieces : (words : List ℕ) → AllByRecursion (λ word. word < 1024) words → AllByRecursion ReadsPiece (pieces words)
  reads_pieces [] each = tt
  reads_pieces (first ∷ []) each = (reads_word word_of_row first each.0, tt)
  reads_pieces (first ∷ second ∷ rest) each =
      cond_both (length_of first == 2) (with_second first second ∷ pieces rest)
      (piece_of_one first ∷ pieces (second ∷ rest)) (AllByRecursion ReadsPiece)
      (λ two. (reads_pair first second each.0 each.1.0 two, reads_pieces rest each.1.1))
      (λ one. (reads_word word_of_row first each.0, reads_pieces (second ∷ rest) each.1))

-- The instructions have all the words.
pub words_of_pieces : (words : List ℕ) → flat_map piece_words (pieces words) ≡ words
words_of_pieces [] = refl
words_of_pieces (first ∷ []) = refl
words_of_pieces (first ∷ second ∷ rest) =
    cond_both (length_of first == 2) (with_second first second ∷ pieces rest)
    (piece_of_one first ∷ pieces (second ∷ rest)) (λ some. flat_map piece_words some ≡ first ∷ second ∷ rest)
    (λ two. ap (λ words. first ∷ second ∷ words) (words_of_pieces rest))
    (λ one. ap (λ words. first ∷ words) (words_of_pieces (second ∷ rest)))
