-- The first word of a line, and the words after it.
use Rattle.std.proofs.Common.{inl, inr, not, suc, length-take, ◌≡◌, ℕ, ◌<◌, ◌≤◌, ◌||◌, ◌&&◌, Bool, true, false, nat_lt, List, [], ◌∷◌}
use Rattle.std.proofs.Common.{length, take, drop, get_or, Some, None, refl, sym, ◌∙◌, ap, arith, filter, if◌then◌else◌, ◌==◌}
use Rattle.std.specs.List.{position, position_or_len, onto_first}
use Rattle.std.proofs.lemmas.Bool.{cases_Bool, lt-ltb, cond-true, or_cases, eqb-true}
use Rattle.std.proofs.lemmas.List.{drop_more, drop_all}
use Rattle.std.proofs.lemmas.List.Sums.{passes_at_first}
use Rattle.h41_lines.proofs.FirstWord.{on_start-blank, on_start-other}
use Rattle.h41_lines.proofs.Positions.{position_some, position_none}
use Rattle.h41_asm.proofs.Found.{both_false}
use Rattle.h41_asm.specs.SourceLines.{is_blank, part_length, parts_from, quoted_after, words_of}

abbrev is_word : List ℕ → Bool
is_word word = nat_lt 0 (length word)

abbrev words_of_parts : List (List ℕ) → List (List ℕ)
words_of_parts parts = filter is_word parts

-- A space or tab at the start separates nothing.
words_of-blank : (byte : ℕ) (line : List ℕ) → is_blank byte ≡ true → words_of (byte ∷ line) ≡ words_of line
words_of-blank byte line blank = elim (or_cases (byte == 32) (byte == 9) blank) [
  | inl space ↦ rw (eqb-true byte 32 space) refl
  | inr tab ↦ rw (eqb-true byte 9 tab) refl
]

-- A comment at the start leaves no words.
words_of-comment : (byte : ℕ) (line : List ℕ) → (byte == 59) ≡ true → words_of (byte ∷ line) ≡ []
words_of-comment byte line comment = rw (eqb-true byte 59 comment) refl

-- The words begin at the first byte that is no separator.
words_of-from_start : (line : List ℕ) → words_of line ≡ words_of (drop (position_or_len (λ byte. not (is_blank byte)) line) line)
words_of-from_start [] = refl
words_of-from_start (byte ∷ line) = elim (cases_Bool (is_blank byte)) [
  | inl blank ↦ words_of-blank byte line blank ∙ words_of-from_start line ∙ ap words_of (on_start-blank byte line blank)
  | inr other ↦ ap words_of (on_start-other byte line other)
]

pub words_of-none : (line : List ℕ) → None ≡ position (λ byte. not (is_blank byte)) line → words_of line ≡ []
words_of-none line e =
    let end = position_none (λ byte. not (is_blank byte)) line e in
    words_of-from_start line ∙ ap words_of (drop_all _ line (omega arith))

-- What a part ends before, and whether a byte is such a byte.
abbrev ends : Bool → ℕ → Bool
ends quoted byte = not quoted && (is_blank byte || byte == 59)

-- The parts after the first.
abbrev parts_behind : List ℕ → List (List ℕ)
parts_behind [] = []
parts_behind (byte ∷ rest) = if byte == 59 then [] else parts_from false rest

parts_end : (byte : ℕ) (rest : List ℕ) → (is_blank byte || byte == 59) ≡ true
    → parts_from false (byte ∷ rest) ≡ [] ∷ parts_behind (byte ∷ rest)
parts_end byte rest stop = elim (or_cases (is_blank byte) (byte == 59) stop) [
  | inl blank ↦ elim (or_cases (byte == 32) (byte == 9) blank) [
    | inl space ↦ rw (eqb-true byte 32 space) refl
    | inr tab ↦ rw (eqb-true byte 9 tab) refl
  ]
  | inr comment ↦ rw (eqb-true byte 59 comment) refl
]

-- The length of the first part is the number of its bytes.
parts_from-first : (quoted : Bool) (line : List ℕ)
    → parts_from quoted line ≡ take (part_length quoted line) line ∷ parts_behind (drop (part_length quoted line) line)
parts_from-first quoted [] = refl
parts_from-first true (byte ∷ rest) = ap (onto_first byte) (parts_from-first (quoted_after true byte) rest)
parts_from-first false (byte ∷ rest) = elim (cases_Bool (is_blank byte || byte == 59)) [
  | inl stop ↦ parts_end byte rest stop ∙ rw stop refl
  | inr goes ↦
      let neither = both_false (is_blank byte) (byte == 59) goes in
      rw (goes, neither.1, neither.0) (ap (onto_first byte) (parts_from-first (quoted_after false byte) rest))
]

-- Nothing of a part is left after its length.
part_length-behind : (quoted : Bool) (line : List ℕ) → part_length false (drop (part_length quoted line) line) ≡ 0
part_length-behind quoted [] = refl
part_length-behind true (byte ∷ rest) = part_length-behind (quoted_after true byte) rest
part_length-behind false (byte ∷ rest) = elim (cases_Bool (is_blank byte || byte == 59)) [
  | inl stop ↦ rw (stop, stop) refl
  | inr goes ↦ rw goes (part_length-behind (quoted_after false byte) rest)
]

-- If no part begins, the words are those of the parts after it.
words_behind : (line : List ℕ) → part_length false line ≡ 0 → words_of_parts (parts_behind line) ≡ words_of line
words_behind [] none = refl
words_behind (byte ∷ rest) none = elim (cases_Bool (is_blank byte || byte == 59)) [
  | inl stop ↦ sym (ap words_of_parts (parts_end byte rest stop))
  | inr goes ↦ let one : suc (part_length (quoted_after false byte) rest) ≡ 0 = rw goes at none in absurd (omega (arith, one))
]

-- A line that begins with a word.
words_of-front : (line : List ℕ) (n : ℕ) → n ≡ part_length false line → n ≤ length line → 0 < n
    → words_of line ≡ take n line ∷ words_of (drop n line)
words_of-front line n here within some =
    let word : is_word (take n line) ≡ true = lt-ltb 0 (length (take n line)) (omega (arith, length-take {A = ℕ})) in
    let parts : parts_from false line ≡ take n line ∷ parts_behind (drop n line) = rw here (parts_from-first false line) in
    let none : part_length false (drop n line) ≡ 0 = rw here (part_length-behind false line) in
    ap words_of_parts parts
    ∙ cond-true (is_word (take n line)) (take n line ∷ words_of_parts (parts_behind (drop n line)))
    (words_of_parts (parts_behind (drop n line))) word
    ∙ ap (λ words. take n line ∷ words) (words_behind (drop n line) none)

-- The first word, and the words after it.
pub words_of-first : (line : List ℕ) (start n : ℕ) → Some start ≡ position (λ byte. not (is_blank byte)) line
    → n ≡ part_length false (drop start line) → n ≤ length (drop start line) → 0 < n
    → words_of line ≡ take n (drop start line) ∷ words_of (drop n (drop start line))
words_of-first line start n e here within some =
    let at = position_some (λ byte. not (is_blank byte)) line start e in
    words_of-from_start line ∙ ap (λ (k : ℕ). words_of (drop k line)) (sym at.0) ∙ words_of-front (drop start line) n here within some

-- If the first byte that is no separator begins no word, it begins a comment.
only_comment : (line : List ℕ) → 0 < length line → not (is_blank (get_or line 0 0)) ≡ true → part_length false line ≡ 0 → words_of line ≡ []
only_comment [] some first none = absurd (omega arith)
only_comment (byte ∷ rest) some first none = elim (cases_Bool (is_blank byte || byte == 59)) [
  | inl stop ↦ elim (or_cases (is_blank byte) (byte == 59) stop) [
    | inl blank ↦ let no : false ≡ true = ap not (sym blank) ∙ first in cc
    | inr comment ↦ words_of-comment byte rest comment
  ]
  | inr goes ↦ let one : suc (part_length (quoted_after false byte) rest) ≡ 0 = rw goes at none in absurd (omega (arith, one))
]

pub words_of-comment_alone : (line : List ℕ) (start : ℕ) → Some start ≡ position (λ byte. not (is_blank byte)) line
    → part_length false (drop start line) ≡ 0 → words_of line ≡ []
words_of-comment_alone line start e none =
    let at = position_some (λ byte. not (is_blank byte)) line start e in
    let first : not (is_blank (get_or line start 0)) ≡ true =
    rw at.0 (passes_at_first (λ byte. not (is_blank byte)) line 0 (omega (arith, at.0, at.1))) in
    let here : not (is_blank (get_or (drop start line) 0 0)) ≡ true = rw (drop_more line start 0 at.1) first in
    words_of-from_start line ∙ ap (λ (k : ℕ). words_of (drop k line)) (sym at.0)
    ∙ only_comment (drop start line) (rw (drop_more line start 0 at.1) (omega arith)) here none
