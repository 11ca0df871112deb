-- The number line that was read in one pass is that of memory.
use Rattle.std.proofs.Common.{◌≡◌, ℕ, ◌+◌, ◌-◌, ◌≤◌, true, suc, List, [], ◌∷◌, ◌++◌, map, min, length, take, Ok, Result}
use Rattle.std.proofs.Common.{inl, inr, refl, sym, ap, ◌∙◌, subst, arith, IsTrue, Bool, false, ◌&&◌, ◌<◌}
use Rattle.std.proofs.lemmas.List.{length-map}
use Rattle.std.specs.List.{list_all, range_with_len}
use Rattle.std.proofs.lemmas.Bool.{cases_lt}
use Rattle.std.proofs.lemmas.List.FromFn.{length-map-range_with_len, map-range_with_len_more, take-map-range_with_len}
use Rattle.h41_codes.specs.ByteGrammar.{spelling, Begins, GoesOn}
use Rattle.h41_codes.specs.ByteLaws.{IsNumber, NumberBegins, OneLine}
use Rattle.h41_codes.specs.Codes.{character_code}
use Rattle.h41_codes.specs.Heads.{IsIn}
use Rattle.h41_codes.specs.declared.characters.Character.{Character}
use Rattle.h41_codes.specs.declared.line.Line.{Line}
use Rattle.h41_codes.specs.declared.line.Line.TheVariants.{Number}
use Rattle.h41_decimal.specs.declared.ten.Ten.{Ten}
use Rattle.h41_plain_numbers.specs.MemoryNumbers.{HasNoNumber, HasNumber, StandsPlain}
use Rattle.h41_numbers.specs.NumberLaws.{PlainTextsAreTyped, is_plain}
use Rattle.h41_plain_numbers.specs.declared.plain.PlainDigits.{PlainDigits}
use Rattle.h41_plain_numbers.specs.private.PlainReading.{EndsNowhere, EndsPlain, IsTypedPlain, bytes_from, no_digits, with_code, with_codes}
use Rattle.h41_plain_numbers.proofs.PlainTexts.{codes_more, count_taken, digit_more, digits_counted, places_most, plain_code}
use Rattle.h41_plain_numbers.proofs.PlainTexts.{plain_number_is}
use Rattle.h41_program.specs.ProgramBytes.{byte_count, final_position, program_byte, program_bytes}
use Rattle.h41_program.specs.FirstLines.{line_bytes}
use Rattle.h41_program.specs.ProgramLines.{HasFirst, PositionFrom}
use Rattle.h41_program.specs.private.Reading.{BeginsSized, bytes_seen}
use Rattle.h41_program.proofs.FirstLines.{line_bytes-below}
use Rattle.h41_program.proofs.Memory.{Looked, looked_first}
use Rattle.h41_program.proofs.Places.{number_there}
use Rattle.h41_program.proofs.ShortLines.{answers_alone}
use Rattle.h41_program.proofs.Windows.{drop-map-range}
use Rattle.h41_ram.specs.RegisterMap.{RegisterMap, is_sound}

-- A number line consists of its characters.
characters_of : (line : Line) → IsNumber line → (text : List Character) × (line ≡ Number text)
characters_of (Number characters) is = (characters, refl)
characters_of line is = absurd is

-- Bytes whose first one continues a number.
goes : (bytes : List ℕ) (first : ℕ) (rest : List ℕ) → first ∷ rest ≡ bytes → 0x10 ≤ first → first ≤ 0x1C → GoesOn (bytes ++ [])
goes bytes first rest same from to = subst (λ (all : List ℕ). GoesOn (all ++ [])) same (from, to)

parts : (a b : Bool) → IsTrue (a && b) → IsTrue a × IsTrue b
parts true true is = (refl, refl)
parts true false is = absurd (cc is)
parts false b is = absurd (cc is)

joined : (a b : Bool) → IsTrue a → IsTrue b → IsTrue (a && b)
joined a b first second = rw (first, second) refl

-- Bytes that encode a text of digits and radix marks are bytes of these.
each_plain : (f : ℕ → ℕ) (at : ℕ) (text : List Character) → map f (range_with_len at (length text)) ≡ map character_code text
    → IsTrue (list_all is_plain text)
    → (k : ℕ) → at ≤ k → k < at + length text → IsIn 0x10 0x1B (f k)
each_plain f at [] same plain k from below = absurd (omega (arith, from, below))
each_plain f at (character ∷ text) same plain k from below =
    let first : f at ≡ character_code character = cc in
    let others : map f (range_with_len (at + 1) (length text)) ≡ map character_code text = cc in
    let both = parts (is_plain character) (list_all is_plain text) plain in
    elim (cases_lt at k) [
      | inl further ↦ each_plain f (at + 1) text others both.1 k (omega (arith, further)) (omega (arith, below))
      | inr here ↦
          let same_place : k ≡ at = omega (arith, here, from) in
          subst (λ (b : ℕ). IsIn 0x10 0x1B b) (sym (ap f same_place ∙ first)) ((plain_code character).0 both.0)
    ]

-- Such bytes encode such a text.
all_plain : (f : ℕ → ℕ) (at : ℕ) (text : List Character) → map f (range_with_len at (length text)) ≡ map character_code text
    → ((k : ℕ) → at ≤ k → k < at + length text → f k < 0x1B)
    → IsTrue (list_all is_plain text)
all_plain f at [] same each = refl
all_plain f at (character ∷ text) same each =
    let first : f at ≡ character_code character = cc in
    let others : map f (range_with_len (at + 1) (length text)) ≡ map character_code text = cc in
    joined (is_plain character) (list_all is_plain text)
    ((plain_code character).1 (subst (λ (b : ℕ). b < 0x1B) first (each at (omega arith) (omega arith))))
    (all_plain f (at + 1) text others (λ k from below. each k (omega (arith, from)) (omega (arith, below))))

module _ (one : OneLine) (numbers : NumberBegins) (plain_texts : PlainTextsAreTyped) (memory : RegisterMap)
    (at last behind byte : ℕ) (digits : PlainDigits)
    (sound : is_sound memory ≡ true) (last_is : last ≡ final_position memory) (count : last + 3 ≡ byte_count memory)
    (ends : EndsPlain memory at last digits behind byte) where
  abbrev size : ℕ
  size = behind - at

  there : BeginsSized memory at last size
  there =
      let some = ends.some in
      let most = ends.most in
      let inside = ends.inside in
      let here : at + size ≡ behind = omega (arith, some) in
      number_there memory at last size (omega (arith, some)) (omega (arith, most)) (omega (arith, some, inside))
      (λ k from below.
      let each = ends.each k from (omega (arith, below, some)) in (each.0, omega (arith, each.1)))
      (λ below on.
      absurd (ends.other (subst (λ (b : ℕ). IsIn 0x10 0x1D b) (ap (program_byte memory) here ∙ sym ends.own) on)))

  abbrev line : Line
  line = there.0

  -- The bytes of the line.
  own : bytes_from memory at size ≡ spelling line
  own =
      let some = ends.some in
      let most = ends.most in
      let inside = ends.inside in
      sym (take-map-range_with_len (program_byte memory) at (min 18 (last - at)) size (omega (arith, some, most, inside)))
      ∙ there.1.spells.same

  number : (text : List Character) × (line ≡ Number text)
  number =
      let some = ends.some in
      let first = ends.each at (omega arith) some in
      let more : size ≡ suc (size - 1) = omega (arith, some) in
      let spelled : program_byte memory at ∷ bytes_from memory (at + 1) (size - 1) ≡ spelling line =
      sym (ap (bytes_from memory at) more) ∙ own in
      characters_of line
      ((numbers line [] there.1.spells.valid).0
      (goes (spelling line) (program_byte memory at) (bytes_from memory (at + 1) (size - 1)) spelled first.0 (omega (arith, first.1))))

  abbrev text : List Character
  text = number.0

  spelled_text : bytes_from memory at size ≡ map character_code text
  spelled_text = own ∙ ap spelling number.1

  first : HasFirst memory at (record { listed = record { position = at; line = Number text }; behind = behind })
  first =
      let some = ends.some in
      let inside = ends.inside in
      let begun = ends.each at (omega arith) some in
      let looked : Looked memory at at last last (bytes_seen memory at last) = record {
        last_is = last_is;
        count = count;
        from = omega arith;
        to = omega (arith, some, inside);
        nulls = λ k low high. absurd (omega (arith, low, high));
        stop = λ below null. absurd (omega (arith, null, begun.0));
        before = λ below. refl;
        behind = λ here. absurd (omega (arith, here, some, inside));
        bytes = refl;
      } in
      let answer : Result (Line × ℕ) (Unit {0}) = Ok (Number text, size) in
      let begins : Begins (bytes_seen memory at last) (Number text) size =
      subst (λ (l : Line). Begins (bytes_seen memory at last) l size) number.1 there.1 in
      looked_first one memory sound at at last last (bytes_seen memory at last) looked answer
      (answers_alone one (bytes_seen memory at last) (Number text) size begins) (Number text) size behind refl (omega (arith, some))

  length_is : length text ≡ size
  length_is = sym (length-map text character_code) ∙ ap length (sym spelled_text) ∙ length-map-range_with_len (program_byte memory) at size

  pub plain_found : (next : ℕ) (value : Ten) → PositionFrom memory behind next
      → IsTypedPlain digits.number digits.places value
      → HasNumber memory at value next
  plain_found next value follows typed =
      let some = ends.some in
      let spelled : map (program_byte memory) (range_with_len at (length text)) ≡ map character_code text =
      ap (λ (n : ℕ). bytes_from memory at n) length_is ∙ spelled_text in
      let plain : IsTrue (list_all is_plain text) =
      all_plain (program_byte memory) at text spelled (λ k from below. (ends.each k from (omega (arith, below, some, length_is))).1) in
      let reads = ends.reads ∙ ap (with_codes no_digits) spelled_text in
      let count = digits_counted text digits plain reads in (
        text,
        behind,
        record {
          first = first;
          plain = plain;
          some = omega (arith, count, ends.some_digit);
          few = omega (arith, count, ends.few);
          inside = subst (λ (n : ℕ). behind < n) last_is ends.inside;
          other = λ on. ends.other (subst (λ (b : ℕ). IsIn 0x10 0x1D b) (sym ends.own) on);
        },
        follows,
        plain_number_is plain_texts text digits value plain reads ends.few typed,
      )

-- Reading such a number line gives its digits.
plain_ends : (memory : RegisterMap) (at last : ℕ) (text : List Character) (behind : ℕ)
    → last ≡ final_position memory → last + 3 ≡ byte_count memory → StandsPlain memory at text behind
    → EndsPlain memory at last (with_codes no_digits (bytes_from memory at (behind - at))) behind (program_byte memory behind)
plain_ends memory at last text behind last_is count stands =
    let f = program_byte memory in
    let n = byte_count memory in
    let all = program_bytes memory in
    let final = final_position memory in
    let begins = stands.first.first.begins in
    let long : length (map character_code text) ≡ length text = length-map text character_code in
    let size : behind ≡ at + length text = stands.first.behind ∙ ap (λ (m : ℕ). at + m) long in
    let inside = stands.inside in
    let valid = begins.spells.valid in
    let taken : bytes_from memory at (length text) ≡ map character_code text =
    sym (ap (take (length text)) (line_bytes-below all final at (omega (arith, size, inside))
    ∙ ap (take (final - at)) (drop-map-range f n at (omega (arith, size, inside, last_is, count)))
    ∙ take-map-range_with_len f at (n - at) (final - at) (omega (arith, last_is, count)))
    ∙ take-map-range_with_len f at (final - at) (length text) (omega (arith, size, inside)))
    ∙ ap (λ (m : ℕ). take m (line_bytes all final at)) (sym long) ∙ begins.spells.same in
    let whole : bytes_from memory at (behind - at) ≡ map character_code text =
    ap (bytes_from memory at) (omega (arith, size)) ∙ taken in
    let digits = with_codes no_digits (bytes_from memory at (behind - at)) in
    let counted = digits_counted text digits stands.plain (ap (with_codes no_digits) whole) in
    record {
      some = omega (arith, size, valid.0);
      most = omega (arith, size, valid.1);
      inside = subst (λ (m : ℕ). behind < m) (sym last_is) inside;
      each = λ k from below. each_plain f at text taken stands.plain k from (omega (arith, below, size));
      reads = refl;
      some_digit = omega (arith, counted, stands.some);
      few = omega (arith, counted, stands.few);
      places = places_most no_digits (bytes_from memory at (behind - at)) (omega arith);
      own = refl;
      other = stands.other;
    }

pub none_found : (memory : RegisterMap) (at last : ℕ) → last ≡ final_position memory → last + 3 ≡ byte_count memory
    → EndsNowhere memory at last → HasNoNumber memory at
none_found memory at last last_is count none text behind stands =
    none _ behind _ (plain_ends memory at last text behind last_is count stands)

-- If all bytes so far are those of digits and radix marks, and form these digits, no such number ends here.
module _ (memory : RegisterMap) (at last position : ℕ) (so_far : PlainDigits) (from : at ≤ position)
    (each : (k : ℕ) → at ≤ k → k < position → IsIn 0x10 0x1B (program_byte memory k))
    (reads : so_far ≡ with_codes no_digits (bytes_from memory at (position - at))) where
  -- Such a number does not end before these bytes do.
  ends_from : (digits : PlainDigits) (behind byte : ℕ) → EndsPlain memory at last digits behind byte → position ≤ behind
  ends_from digits behind byte ends = elim (cases_lt behind position) [
    | inl sooner ↦
        let some = ends.some in
        let here = each behind (omega (arith, some)) sooner in
        absurd (ends.other (subst (λ (b : ℕ). IsIn 0x10 0x1D b) (sym ends.own) (here.0, omega (arith, here.1))))
    | inr later ↦ later
  ]

  -- No such number ends at a byte that is part of no number, if there is no digit before it.
  pub none_here : so_far.count ≡ 0 → (IsIn 0x10 0x1B (program_byte memory position) → ⊥) → EndsNowhere memory at last
  none_here none other digits behind byte ends = elim (cases_lt position behind) [
    | inl further ↦ other (ends.each position from further)
    | inr here ↦
        let same : behind ≡ position = omega (arith, here, ends_from digits behind byte ends) in
        let count = ap (λ (d : PlainDigits). d.count)
        (ends.reads ∙ ap (λ (n : ℕ). with_codes no_digits (bytes_from memory at (n - at))) same ∙ sym reads) in
        let some = ends.some_digit in
        omega (arith, count, none, some)
  ]

  -- No such number ends at a byte that continues a number: a sign, an exponent, or an eleventh digit.
  pub none_on : IsIn 0x10 0x1D (program_byte memory position)
      → (program_byte memory position < 0x1B → (program_byte memory position < 0x1A) × (so_far.count ≡ 10))
      → EndsNowhere memory at last
  none_on on full digits behind byte ends = elim (cases_lt position behind) [
    | inl further ↦
        let f = program_byte memory in
        let low = full (ends.each position from further).1 in
        let here : at + (position - at) ≡ position = omega (arith, from) in
        let more : bytes_from memory at (position - at + 1) ≡ bytes_from memory at (position - at) ++ f position ∷ [] =
        map-range_with_len_more f at (position - at) position here in
        let eleven = ap (λ (d : PlainDigits). d.count)
        (ap (with_codes no_digits) more ∙ codes_more no_digits (bytes_from memory at (position - at)) (f position)
        ∙ ap (λ (d : PlainDigits). with_code d (f position)) (sym reads)) ∙ digit_more so_far (f position) low.0 in
        let fewer = ap (λ (codes : List ℕ). (with_codes no_digits codes).count)
        (take-map-range_with_len f at (behind - at) (position - at + 1) (omega (arith, from, further))) in
        let most = count_taken no_digits (position - at + 1) (bytes_from memory at (behind - at)) in
        let count = ap (λ (d : PlainDigits). d.count) ends.reads in
        let few = ends.few in
        omega (arith, eleven, fewer, most, count, few, low.1)
    | inr here ↦
        let same : behind ≡ position = omega (arith, here, ends_from digits behind byte ends) in
        ends.other (subst (λ (b : ℕ). IsIn 0x10 0x1D b) (sym (ends.own ∙ ap (program_byte memory) same)) on)
  ]
