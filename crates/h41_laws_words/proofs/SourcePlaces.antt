-- The place of a line of a source among its words, and its meaning.
use Rattle.std.proofs.Common.{◌≡◌, ℕ, ◌+◌, ◌-◌, true, ◌&&◌, ◌==◌, List, [], ◌∷◌, ◌++◌, length, take, Some, None, Result, Ok, Err}
use Rattle.std.proofs.Common.{if◌then◌else◌, refl, sym, ap, subst, ◌∙◌, arith, append_assoc, length-append}
use Rattle.std.specs.Prelude.{codes, slice_index}
use Rattle.std.specs.Option.{ok_or}
use Rattle.std.proofs.lemmas.List.{take_at, get_or_at}
use Rattle.h41_asm.specs.declared.fault.SourceFault.{SourceFault}
use Rattle.h41_asm.specs.declared.fault.SourceFault.TheVariants.{BadOperand}
use Rattle.h41_asm.specs.Faults.{line_length, read_length}
use Rattle.h41_asm.specs.Operands.{is_text, text_in}
use Rattle.h41_asm.specs.Placing.{Labels, LineSpells, LinesSpell, SpellsRead, StatementSpells}
use Rattle.h41_asm.specs.SourceLines.{SourceLine, is_name}
use Rattle.h41_asm.specs.Statements.{Statement, Words, OutOfReach, LongJumpTo, ShortJumpTo, EntryAt, name_words, reading_of}
use Rattle.h41_asm.specs.Statements.{value_statement, singles, statement_length, takers}
use Rattle.h41_laws_words.specs.DirectivesRead.{lines_length}

-- The number of a line's own words is the length of the line.
length_said : (labels : Labels) (address : ℕ) (value_statement : Statement) (own : List ℕ)
    → StatementSpells labels address value_statement own
    → length own ≡ statement_length value_statement
length_said labels address (Words words) own spells = ap length spells
length_said labels address OutOfReach own spells = absurd spells
length_said labels address (LongJumpTo condition kind name) own spells = ap length spells.2
length_said labels address (ShortJumpTo condition name) own spells = ap length spells.4
length_said labels address (EntryAt bits name) own spells = ap length spells.2

length_read : (labels : Labels) (address : ℕ) (read : Result Statement SourceFault) (own : List ℕ) → SpellsRead labels address read own
    → length own ≡ read_length read
length_read labels address (Ok statement) own spells = length_said labels address statement own spells
length_read labels address (Err fault) own spells = absurd spells

-- The words of a line, those before it and those after it.
pub record IsPlaced (labels : Labels) (origin : ℕ) (before : List SourceLine)
    (line : SourceLine) (behind : List SourceLine) (words : List ℕ) : Type 0 where
  pub front : List ℕ
  pub own : List ℕ
  pub others : List ℕ
  pub parts : words ≡ front ++ (own ++ others)
  pub size : length front ≡ lines_length before
  pub spells : LineSpells labels (origin + length front) line own
  pub rest : LinesSpell labels (origin + length front + length own) behind others

pub placed : (labels : Labels) (origin : ℕ) (before : List SourceLine) (line : SourceLine) (behind : List SourceLine) (words : List ℕ)
    → LinesSpell labels origin (before ++ line ∷ behind) words → IsPlaced labels origin before line behind words
placed labels origin [] line behind words spelled =
    let here : origin ≡ origin + 0 = omega arith in
    record {
      front = [];
      own = spelled.0;
      others = spelled.1;
      parts = spelled.2;
      size = refl;
      spells = subst (λ a. LineSpells labels a line spelled.0) here spelled.3;
      rest = subst (λ a. LinesSpell labels (a + length spelled.0) behind spelled.1) here spelled.4;
    }
placed labels origin (first ∷ before) line behind words spelled =
    let next = placed labels (origin + length spelled.0) before line behind spelled.1 spelled.4 in
    let here : origin + length spelled.0 + length next.front ≡ origin + length (spelled.0 ++ next.front) =
    omega (arith, length-append spelled.0 next.front) in
    let own : length spelled.0 ≡ line_length first = length_read labels origin (reading_of first.code) spelled.0 spelled.3.words in
    record {
      front = spelled.0 ++ next.front;
      own = next.own;
      others = next.others;
      parts =
          spelled.2 ∙ ap (λ (behind : List ℕ). spelled.0 ++ behind) next.parts
          ∙ sym (append_assoc spelled.0 next.front (next.own ++ next.others));
      size = omega (arith, length-append spelled.0 next.front, own, next.size);
      spells = subst (λ a. LineSpells labels a line next.own) here next.spells;
      rest = subst (λ a. LinesSpell labels (a + length next.own) behind next.others) here next.rest;
    }

-- The meaning of the directives.
quoted_is : (first last : ℕ) (inner text : List ℕ) → first ≡ 34 → last ≡ 34 → inner ≡ text → is_text text ≡ true
    → (if first == 34 && last == 34 && is_text inner then Some inner else None) ≡ Some text
quoted_is first last inner text e f g good = rw (e, f, g, good) refl

text_quoted : (text : List ℕ) → is_text text ≡ true → text_in (34 ∷ text ++ 34 ∷ []) ≡ Some text
text_quoted text good =
    let word = 34 ∷ text ++ 34 ∷ [] in
    let size : length word ≡ length text + 2 = omega (arith, length-append (34 ∷ text) (34 ∷ [])) in
    quoted_is 34 (slice_index word (length word - 1)) (take (length word - 2) (text ++ 34 ∷ [])) text refl
    (get_or_at (34 ∷ text) 34 [] 0 (length word - 1) (omega (arith, size)))
    (take_at text (34 ∷ []) (length word - 2) (omega (arith, size))) good

pub name_reading : (text : List ℕ) → is_text text ≡ true
    → reading_of (codes "NAME" ∷ (34 ∷ text ++ 34 ∷ []) ∷ []) ≡ Ok (Words (name_words text))
unfolding singles takers
name_reading text good = ap (λ found. ok_or (value_statement (λ t. Words (name_words t)) found) BadOperand) (text_quoted text good)

pub entry_reading : (name : List ℕ) → is_name name ≡ true → reading_of (codes "ENTRY" ∷ (58 ∷ name) ∷ []) ≡ Ok (EntryAt 0 name)
unfolding singles takers
entry_reading name good = rw good refl

pub focal_reading : (name : List ℕ) → is_name name ≡ true → reading_of (codes "FOCAL" ∷ (58 ∷ name) ∷ []) ≡ Ok (EntryAt 0x200 name)
unfolding singles takers
focal_reading name good = rw good refl
