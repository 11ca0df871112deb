-- Why the lines of words are read as these words.
use Rattle.std.proofs.Common.{◌≡◌, ℕ, ◌/◌, ◌%◌, ◌<◌, ◌==◌, ◌&&◌, true, false, not, nat_le, List, [], ◌∷◌, ◌++◌, length, filter, map}
use Rattle.std.proofs.Common.{Some, None, inl, inr, refl, sym, ap, ◌∙◌, arith}
use Rattle.std.specs.Fmt.{digit_glyph}
use Rattle.std.specs.List.{onto_first, slice_split}
use Rattle.std.specs.Str.Parse.{digits_value}
use Rattle.std.proofs.lemmas.Bool.{agree_below_at, and_from, and_parts, cases_Bool, cond-true, cond-false, le-leb}
use Rattle.std.proofs.lemmas.List.Elements.{All-head, All-tail}
use Rattle.std.proofs.lemmas.List.Splits.{slice_split-cons_no}
use Rattle.h41_digits.specs.Register.{hexadecimal_text}
use Rattle.h41_lines.specs.Laws.{HexadecimalRoundTrip}
use Rattle.h41_lines.specs.Numbers.{hexadecimal, is_hexadecimal, is_numeral}
use Rattle.h41_words.specs.Counts.{word_count}
use Rattle.h41_jobs.specs.JobLaws.{PrintedWordsAreRead}
use Rattle.h41_jobs.specs.WordTexts.{is_white_space, parts_of, word_line, word_lines, word_value}

-- No digit is white space.
is_black : (digit : ℕ) → digit < 16 → is_white_space (digit_glyph true digit) ≡ false
is_black digit inside = agree_below_at (λ d. is_white_space (digit_glyph true d)) (λ _. false) 16 digit refl inside

-- Three bytes that are not white space, and an LF.
three_and_end : (a b c : ℕ) (rest : List ℕ) → is_white_space a ≡ false → is_white_space b ≡ false → is_white_space c ≡ false
    → slice_split is_white_space (a ∷ b ∷ c ∷ 10 ∷ rest) ≡ (a ∷ b ∷ c ∷ []) ∷ slice_split is_white_space rest
three_and_end a b c rest first second third =
    slice_split-cons_no is_white_space a (b ∷ c ∷ 10 ∷ rest) first
    ∙ ap (onto_first a)
    (slice_split-cons_no is_white_space b (c ∷ 10 ∷ rest) second
    ∙ ap (onto_first b) (slice_split-cons_no is_white_space c (10 ∷ rest) third))

-- The parts of a word's line and of what follows it.
line_parts : (word : ℕ) (rest : List ℕ) → parts_of (word_line word ++ rest) ≡ hexadecimal_text 3 word ∷ parts_of rest
line_parts word rest =
    ap (filter (λ part. not (length part == 0)))
    (three_and_end (digit_glyph true (word / 16 / 16 % 16)) (digit_glyph true (word / 16 % 16)) (digit_glyph true (word % 16)) rest
    (is_black (word / 16 / 16 % 16) (omega arith)) (is_black (word / 16 % 16) (omega arith)) (is_black (word % 16) (omega arith)))

-- The digits of a word write the word.
value_of : (text : List ℕ) (word : ℕ) → hexadecimal 3 3 text ≡ Some word → word < word_count → word_value text ≡ Some word
value_of text word is small = elim (cases_Bool (is_hexadecimal 3 3 text)) [
  | inl good ↦
      let numeral : is_numeral 16 text ≡ true = (and_parts (is_numeral 16 text) _ good).0 in
      let value : Some (digits_value 16 text) ≡ Some word = sym (cond-true (is_hexadecimal 3 3 text) _ _ good) ∙ is in
      let same : digits_value 16 text ≡ word = cc in
      cond-true (is_numeral 16 text && nat_le (digits_value 16 text) 0x3FF) _ _
      (and_from _ _ numeral (le-leb (digits_value 16 text) 0x3FF (omega (arith, same, small))))
      ∙ ap (λ (n : ℕ). Some n) same
  | inr other ↦ let value : None ≡ Some word = sym (cond-false (is_hexadecimal 3 3 text) _ _ other) ∙ is in cc
]

module _ (trip : HexadecimalRoundTrip) where
  pub printed_read : PrintedWordsAreRead
  printed_read [] small = refl
  printed_read (word ∷ words) small =
      let low : word < word_count = All-head (λ w. w < word_count) word words small in
      let own : word_value (hexadecimal_text 3 word) ≡ Some word =
      value_of (hexadecimal_text 3 word) word (trip 3 word (omega arith) (omega (arith, low))) low in
      let rest = printed_read words (All-tail (λ w. w < word_count) word words small) in
      ap (map word_value) (line_parts word (word_lines words)) ∙ (λ i. own i ∷ rest i)
