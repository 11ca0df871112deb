-- The meaning of a line that is a mnemonic and an operand.
use Rattle.std.proofs.Common.{◌≡◌, ℕ, ◌<◌, true, List, [], ◌∷◌, ◌++◌, length, Some, None, Ok, refl, ap, ◌∙◌}
use Rattle.std.specs.Prelude.{codes}
use Rattle.std.specs.List.{list_all}
use Rattle.std.specs.Option.{ok_or}
use Rattle.std.proofs.lemmas.Bool.{and_parts, and_from}
use Rattle.std.proofs.lemmas.List.Folds.{list_all-append}
use Rattle.h41_words.specs.declared.operation.Operation.{Operation}
use Rattle.h41_words.specs.declared.operation.Operation.TheVariants.{ClearA}
use Rattle.h41_words.specs.declared.rows.Condition.{Condition}
use Rattle.h41_words.specs.declared.rows.Condition.TheVariants.{NoCarry, Carry}
use Rattle.h41_words.specs.declared.second_word.LongJumpKind.{LongJumpKind}
use Rattle.h41_words.specs.declared.second_word.LongJumpKind.TheVariants.{Execute}
use Rattle.h41_words.specs.Mnemonics.{operation_text, long_jump_text, short_jump_text}
use Rattle.h41_asm.specs.declared.fault.SourceFault.TheVariants.{BadOperand}
use Rattle.h41_asm.specs.SourceLines.{line_of, words_of}
use Rattle.h41_asm.specs.Statements.{Words, Taking, reading_of, singles, takers, takes_field}
use Rattle.h41_asm.specs.Statements.{takes_address, takes_displacement, takes_immediate, takes_constant}
use Rattle.h41_laws_words.proofs.ListingLines.{is_plain}
use Rattle.h41_laws_words.proofs.ListingWords.{is_solid, words_of-operand}

-- A line that has no label and is read as these words.
pub record Reads (text own : List ℕ) : Type 0 where
  pub plain : list_all is_plain text ≡ true
  pub unlabelled : (line_of (words_of text)).label ≡ None
  pub said : reading_of (line_of (words_of text)).code ≡ Ok (Words own)

-- A mnemonic that takes a word as its operand.
pub record IsTaken (name : List ℕ) (takes : Taking) (word : List ℕ) : Type 0 where
  pub plain : list_all is_plain name ≡ true
  pub unlabelled : (line_of (words_of name ++ word ∷ [])).label ≡ None
  pub said : reading_of (line_of (words_of name ++ word ∷ [])).code ≡ ok_or (takes word) BadOperand

-- A word that can be an operand.
pub record IsOperand (word : List ℕ) : Type 0 where
  pub some : 0 < length word
  pub solid : list_all is_solid word ≡ true

plain_from_solid : (word : List ℕ) → list_all is_solid word ≡ true → list_all is_plain word ≡ true
plain_from_solid [] solid = refl
plain_from_solid (byte ∷ word) solid =
    let both = and_parts (is_solid byte) (list_all is_solid word) solid in
    and_from _ _ (and_parts (is_plain byte) _ both.0).0 (plain_from_solid word both.1)

pub reads_operand : (name word own : List ℕ) (takes : Taking) → IsTaken name takes word → IsOperand word → takes word ≡ Some (Words own)
    → Reads (name ++ 32 ∷ word) own
reads_operand name word own takes taken operand gives =
    let words = words_of-operand name word taken.plain operand.some operand.solid in
    record {
      plain = list_all-append is_plain name (32 ∷ word) ∙ and_from _ _ taken.plain (plain_from_solid word operand.solid);
      unlabelled = ap (λ parts. (line_of parts).label) words ∙ taken.unlabelled;
      said = ap (λ parts. reading_of (line_of parts).code) words ∙ taken.said ∙ ap (λ statement. ok_or statement BadOperand) gives;
    }

pub constant_taken : (word : List ℕ) → IsTaken (codes "CON") takes_constant word
unfolding singles takers
constant_taken word = assumption

pub immediate_taken : (word : List ℕ) → IsTaken (codes "LDI") takes_immediate word
unfolding singles takers
immediate_taken word = assumption

pub long_jump_taken : (condition : Condition) (kind : LongJumpKind) (word : List ℕ)
    → IsTaken (long_jump_text condition kind) (takes_address condition kind) word
unfolding singles takers
long_jump_taken NoCarry Execute word = assumption
long_jump_taken Carry Execute word = assumption
long_jump_taken condition kind word = assumption

pub short_jump_taken : (condition : Condition) (word : List ℕ) → IsTaken (short_jump_text condition) (takes_displacement condition) word
unfolding singles takers
short_jump_taken NoCarry word = assumption
short_jump_taken Carry word = assumption

pub operation_taken : (operation : Operation) (word : List ℕ) → IsTaken (operation_text operation) (takes_field operation) word
unfolding singles takers
operation_taken ClearA word = assumption
operation_taken operation word = assumption
