-- The first word of a line, and the words after it.
use Rattle.std.proofs.Common.{inl, inr, not, suc, length-take, unwrap_or, ◌≡◌, ℕ, ◌+◌, ◌<◌, ◌≤◌, Bool, true, false, nat_lt, List, [], ◌∷◌}
use Rattle.std.proofs.Common.{length, take, drop, get_or, Option, Some, None, refl, sym, ◌∙◌, ap, arith, filter}
use Rattle.std.specs.List.{slice_split, position, position_or_len, All}
use Rattle.std.proofs.lemmas.Bool.{cases_Bool, lt-ltb, cond-true, cases_lt}
use Rattle.std.proofs.lemmas.List.{drop_more, drop_all, take_all}
use Rattle.std.proofs.lemmas.List.Splits.{slice_split_first, slice_split_none, slice_split-cons_yes}
use Rattle.std.proofs.lemmas.List.Sums.{fails_before_first, passes_at_first, prefix_len-le-length}
use Rattle.h41_lines.proofs.Positions.{position_some, position_none}
use Rattle.h41_lines.specs.Words.{is_blank, words_of}

abbrev is_word : List ℕ → Bool
is_word word = nat_lt 0 (length word)

abbrev words_of_parts : List (List ℕ) → List (List ℕ)
words_of_parts parts = filter is_word parts

-- A space or tab at the start of a line separates nothing.
words_of-blank : (byte : ℕ) (line : List ℕ) → is_blank byte ≡ true → words_of (byte ∷ line) ≡ words_of line
words_of-blank byte line blank = ap words_of_parts (slice_split-cons_yes is_blank byte line blank)

-- The position of the first byte that is no separator, by the first byte.
pub on_start-blank : (byte : ℕ) (line : List ℕ) → is_blank byte ≡ true
    → drop (position_or_len (λ b. not (is_blank b)) line) line ≡ drop (position_or_len (λ b. not (is_blank b)) (byte ∷ line)) (byte ∷ line)
on_start-blank byte line blank =
    let e : 1 + position_or_len (λ b. not (is_blank b)) line ≡ suc (position_or_len (λ b. not (is_blank b)) line) =
    omega arith in
    rw (blank, e) refl

pub on_start-other : (byte : ℕ) (line : List ℕ) → is_blank byte ≡ false
    → byte ∷ line ≡ drop (position_or_len (λ b. not (is_blank b)) (byte ∷ line)) (byte ∷ line)
on_start-other byte line other = rw other refl

-- The words begin at the first byte that is no separator.
words_of-from_start : (line : List ℕ) → words_of line ≡ words_of (drop (position_or_len (λ byte. not (is_blank byte)) line) line)
words_of-from_start [] = refl
words_of-from_start (byte ∷ line) = elim (cases_Bool (is_blank byte)) [
  | inl blank ↦ words_of-blank byte line blank ∙ words_of-from_start line ∙ ap words_of (on_start-blank byte line blank)
  | inr other ↦ ap words_of (on_start-other byte line other)
]

pub words_of-none : (line : List ℕ) → None ≡ position (λ byte. not (is_blank byte)) line → words_of line ≡ []
words_of-none line e =
    let end = position_none (λ byte. not (is_blank byte)) line e in
    words_of-from_start line ∙ ap words_of (drop_all _ line (omega arith))

-- The first word ends at the first separator.
words_of-at : (line : List ℕ) (n : ℕ) → n ≡ position_or_len is_blank line → n < length line → 0 < n
    → words_of line ≡ take n line ∷ words_of (drop n line)
words_of-at line n here within some =
    let word : is_word (take n line) ≡ true = lt-ltb 0 (length (take n line)) (omega (arith, length-take {A = ℕ})) in
    let after : words_of (drop n line) ≡ words_of (drop (n + 1) line) =
    ap words_of (drop_more line n 0 within)
    ∙ words_of-blank (get_or line n 0) (drop (n + 1) line) (rw here (passes_at_first is_blank line 0 (omega arith))) in
    ap words_of_parts (slice_split_first is_blank line 0 (omega arith))
    ∙ ap (λ (k : ℕ). words_of_parts (take k line ∷ slice_split is_blank (drop (k + 1) line))) (sym here)
    ∙ cond-true (is_word (take n line)) (take n line ∷ words_of (drop (n + 1) line)) (words_of (drop (n + 1) line)) word
    ∙ ap (λ words. take n line ∷ words) (sym after)

-- If there is no separator, the first word ends with the line.
words_of-last : (line : List ℕ) → position_or_len is_blank line ≡ length line → 0 < length line → words_of line ≡ line ∷ []
words_of-last line end some =
    let none : All (λ x. is_blank x ≡ false) line = λ k d l. fails_before_first is_blank line k d (omega arith) in
    ap words_of_parts (slice_split_none is_blank line none) ∙ cond-true (is_word line) (line ∷ []) [] (lt-ltb 0 (length line) some)

words_of-front : (line : List ℕ) (n : ℕ) → n ≡ position_or_len is_blank line → 0 < n → words_of line ≡ take n line ∷ words_of (drop n line)
words_of-front line n here some = elim (cases_lt n (length line)) [
  | inl within ↦ words_of-at line n here within some
  | inr past ↦
      let most = prefix_len-le-length (λ x. not (is_blank x)) line in
      words_of-last line (omega arith) (omega arith) ∙ (λ i. sym (take_all n line past) i ∷ words_of (sym (drop_all n line past) i))
]

starts : (line : List ℕ) (start : ℕ) → Some start ≡ position (λ byte. not (is_blank byte)) line
    → 0 < position_or_len is_blank (drop start line)
starts line start e =
    let at = position_some (λ byte. not (is_blank byte)) line start e in
    let first : not (is_blank (get_or line start 0)) ≡ true =
    rw at.0 (passes_at_first (λ byte. not (is_blank byte)) line 0 (omega (arith, at.0, at.1))) in
    rw (drop_more line start 0 at.1, first) (omega arith)

-- The first word, and the words after it.
pub words_of-first : (line : List ℕ) (start n : ℕ) → Some start ≡ position (λ byte. not (is_blank byte)) line
    → n ≡ position_or_len is_blank (drop start line) → words_of line ≡ take n (drop start line) ∷ words_of (drop n (drop start line))
words_of-first line start n e here =
    let at = position_some (λ byte. not (is_blank byte)) line start e in
    words_of-from_start line ∙ ap (λ (k : ℕ). words_of (drop k line)) (sym at.0)
    ∙ words_of-front (drop start line) n here (omega (arith, starts line start e))

pub word_end_is : (line : List ℕ) (found : Option ℕ) (n : ℕ) → found ≡ position is_blank line → n ≡ unwrap_or found (length line)
    → n ≡ position_or_len is_blank line
word_end_is line (Some end) n e here = here ∙ (position_some is_blank line end e).0
word_end_is line None n e here = here ∙ sym (position_none is_blank line e)

pub word_end-le : (line : List ℕ) (n : ℕ) → n ≡ position_or_len is_blank line → n ≤ length line
word_end-le line n here = let most = prefix_len-le-length (λ x. not (is_blank x)) line in omega arith
