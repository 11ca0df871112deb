-- The meaning of the lines of a program's block.
use Rattle.h41_laws_calculator.proofs.Chosen.{one_made}
use Rattle.std.proofs.Common.{◌≡◌, ◌≢◌, ℕ, suc, List, [], ◌∷◌, Option, Some, None, Result, Ok, Err, inl, inr, refl, sym, ap, ◌∙◌, rules}
use Rattle.std.specs.Option.{option_map}
use Rattle.std.proofs.lemmas.Option.{none-some, same_Some}
use Rattle.h41_codes.specs.ByteLaws.{CanonicalOnce}
use Rattle.h41_codes.specs.Canon.{canonical_line}
use Rattle.h41_codes.specs.declared.line.Line.{Line}
use Rattle.h41_codes.specs.declared.line.Line.TheVariants.{Null}
use Rattle.h41_codes.proofs.Deciding.{Either, both, bytes_either, valid_either}
use Rattle.h41_commands.specs.Commands.{and_then}
use Rattle.h41_commands.specs.ProgramBlocks.{SayLines, texts_of, with_more}
use Rattle.h41_commands.specs.declared.commands.ProgramKind.TheVariants as kinds
use Rattle.h41_commands.specs.declared.refusal.LineRefusal.{LineRefusal}
use Rattle.h41_commands.specs.declared.refusal.LineRefusal.TheVariants.{BadText}
use Rattle.h41_program.specs.Packing.{packed_lines}
use Rattle.h41_text.proofs.Reading.{reading_again}
use Rattle.h41_text.specs.LineReading.{HasText, IsTextOf}
use Rattle.h41_text.specs.TextLaws.{OneLineOfText}
use Rattle.h41_text.specs.private.TextParts.{candidate_line}
use Rattle.h41_laws_words.specs.HasOne.{HasOne}
use Rattle.h41_laws_decks.specs.DeckAnswers.{ProgramBlockMeansOne}
use Rattle.h41_laws_decks.proofs.Said.{given}
use Rattle.h41_text.specs.LineText.{line_text}

-- Whether a line has a text.
null_either : (line : Line) → Either (line ≢ Null)
null_either Null = inr (λ differs. differs refl)
null_either line = inl (λ same. cc)

has_either : (line : Line) → Either (HasText line)
has_either line = search (rules, both, valid_either, null_either)

module _ (once : CanonicalOnce) where
  -- Whether a text is that of the only line that can have it.
  of_either : (text : List ℕ) (line : Line) → Either (IsTextOf text (canonical_line line))
  of_either text line = elim (both (has_either (canonical_line line)) (bytes_either (line_text (canonical_line line)) text)) [
    | inl of ↦ inl (record { has = of.0; shortest = once line; same = of.1 })
    | inr lacks ↦ inr (λ of. lacks (of.has, of.same))
  ]

  -- Whether a text is that of any line.
  abbrev HasLine : List ℕ → Type 0
  HasLine text = (line : Line) × IsTextOf text line

  read_as : (text : List ℕ) (line : Line) → IsTextOf text line → option_map canonical_line (candidate_line text) ≡ Some line
  read_as text line of = search (rules, reading_again)

  found_either : (text : List ℕ) (found : Option Line) → candidate_line text ≡ found → Either (HasLine text)
  found_either text None is = inr (λ has. none-some has.0 (ap (option_map canonical_line) (sym is) ∙ read_as text has.0 has.1))
  found_either text (Some line) is = elim (of_either text line) [
    | inl of ↦ inl (canonical_line line, of)
    | inr lacks ↦ inr (λ has.
        let same = same_Some (canonical_line line) has.0 (ap (option_map canonical_line) (sym is) ∙ read_as text has.0 has.1) in
        lacks (rw same has.1))
  ]

  line_either : (text : List ℕ) → Either (HasLine text)
  line_either text = found_either text (candidate_line text) refl

  -- The lines that texts define in turn, or the first text that defines none.
  abbrev Lines : Type 0
  Lines = Result (List Line) LineRefusal

  module _ (one : OneLineOfText) where
    none_said : (number byte : ℕ) (rest : List ℕ) (texts : List (List ℕ)) → (HasLine (byte ∷ rest) → ⊥) → (other : Lines)
        → SayLines number ((byte ∷ rest) ∷ texts) other → other ≡ Err (BadText number)
    none_said number byte rest texts lacks other (inl bad) = bad.1
    none_said number byte rest texts lacks other (inr said) = absurd (lacks (said.1.0, said.1.1))

    only_said : (number byte : ℕ) (rest : List ℕ) (texts : List (List ℕ)) (line : Line) → IsTextOf (byte ∷ rest) line
        → (more : HasOne (SayLines (suc number) texts)) → (other : Lines) → SayLines number ((byte ∷ rest) ∷ texts) other
        → other ≡ with_more (line ∷ []) more.answer
    only_said number byte rest texts line of more other (inl bad) = absurd (bad.0 line of)
    only_said number byte rest texts line of more other (inr said) =
        let same = one (byte ∷ rest) said.1.0 line said.1.1 of in let others = more.only said.2 said.3 in cc (said.4, said.1.2)

    only_empty : (number : ℕ) (texts : List (List ℕ)) (more : HasOne (SayLines (suc number) texts)) (other : Lines)
        → SayLines number ([] ∷ texts) other → other ≡ with_more [] more.answer
    only_empty number texts more other (inl bad) = absurd bad.0
    only_empty number texts more other (inr said) = let others = more.only said.2 said.3 in cc (said.4, said.1)

    one_said : (number byte : ℕ) (rest : List ℕ) (texts : List (List ℕ)) → Either (HasLine (byte ∷ rest))
        → HasOne (SayLines (suc number) texts) → HasOne (SayLines number ((byte ∷ rest) ∷ texts))
    one_said number byte rest texts (inl found) more = record {
      answer = with_more (found.0 ∷ []) more.answer;
      right = inr (found.0 ∷ [], (found.0, found.1, refl), more.answer, more.right, refl);
      only = only_said number byte rest texts found.0 found.1 more;
    }
    one_said number byte rest texts (inr lacks) more = record {
      answer = Err (BadText number);
      right = inl (λ line of. lacks (line, of), refl);
      only = none_said number byte rest texts lacks;
    }

    all_said : (number : ℕ) (texts : List (List ℕ)) → HasOne (SayLines number texts)
    all_said number [] = given (Ok [])
    all_said number ([] ∷ texts) =
        let more = all_said (suc number) texts in
        record {
          answer = with_more [] more.answer;
          right = inr ([], refl, more.answer, more.right, refl);
          only = only_empty number texts more;
        }
    all_said number ((byte ∷ rest) ∷ texts) = one_said number byte rest texts (line_either (byte ∷ rest)) (all_said (suc number) texts)

    -- The meaning of a block.
    pub one_meaning : ProgramBlockMeansOne
    one_meaning kinds.Bytes values = given (Ok values)
    one_meaning kinds.Text source =
        one_made (λ (lines : Lines). and_then lines (λ lines. Ok (packed_lines lines))) (all_said 1 (texts_of source))
