-- Numbers digit by digit, and the words of a text part by part.
use Rattle.std.proofs.Common.{◌≡◌, ℕ, ◌+◌, ◌<◌, true, false, Bool, List, [], ◌∷◌, map, length, take, get_or, Option}
use Rattle.std.proofs.Common.{Some, None, is_none, arith, sym, refl, ap, ◌∙◌, add-zero, drop}
use Rattle.std.specs.Borrow.{Bor}
use Rattle.std.specs.List.{position_from}
use Rattle.std.proofs.lemmas.List.{length-map}
use Rattle.h41_jobs.specs.WordTexts.{word_value}

abbrev pub is_wrong : List ℕ → Bool
is_wrong part = is_none (word_value part)

-- The parts before a wrong one write words.
pub first_wrong : (start : ℕ) (words : List ℕ) (parts : List (List ℕ)) (part : List ℕ)
    → map word_value (take (length words) parts) ≡ map (λ word. Some word) words → length words < length parts
    → part ≡ get_or parts (length words) part → word_value part ≡ None → position_from is_wrong start parts ≡ Some (start + length words)
first_wrong start words [] part before within at wrong = absurd (omega arith)
first_wrong start [] (p ∷ parts) part before within at wrong =
    let none : is_wrong p ≡ true = rw (sym at, wrong) refl in
    rw (none, add-zero) refl
first_wrong start (w ∷ words) (p ∷ parts) part before within at wrong =
    let head : word_value p ≡ Some w = ap (λ (all : List (Option ℕ)). get_or all 0 None) before in
    let good : is_wrong p ≡ false = rw head refl in
    let rest = first_wrong (start + 1) words parts part (ap (λ (all : List (Option ℕ)). drop 1 all) before) (omega arith) at wrong in
    let same : (start + 1) + length words ≡ start + length (w ∷ words) = omega arith in
    rw good (rest ∙ ap (λ (n : ℕ). Some n) same)

-- The values of parts, each of which is a reference.
pub map_now : (parts : List (Bor (List ℕ))) → map word_value (map (λ part. part.now) parts) ≡ map (λ part. word_value part.now) parts
map_now [] = refl
map_now (part ∷ parts) = ap (λ (rest : List (Option ℕ)). word_value part.now ∷ rest) (map_now parts)

-- There are as many words as parts.
words_counted : (parts : List (Bor (List ℕ))) (words : List ℕ) → map (λ part. word_value part.now) parts ≡ map (λ word. Some word) words
    → length parts ≡ length words
words_counted parts words same =
    sym (length-map parts (λ part. word_value part.now)) ∙ ap (λ (all : List (Option ℕ)). length all) same
    ∙ length-map words (λ word. Some word)

-- The parts so far write words, and the next one does not.
pub first_wrong_at : (front : List (Bor (List ℕ))) (words : List ℕ) (parts : List (List ℕ)) (part : List ℕ)
    → map (λ part. word_value part.now) front ≡ map (λ word. Some word) words → map (λ part. part.now) front ≡ take (length front) parts
    → length front < length parts → part ≡ get_or parts (length front) part → word_value part ≡ None
    → position_from is_wrong 1 parts ≡ Some (1 + length words)
first_wrong_at front words parts part same so_far within at wrong =
    let count : length front ≡ length words = words_counted front words same in
    let before : map word_value (take (length words) parts) ≡ map (λ word. Some word) words =
    ap (λ (n : ℕ). map word_value (take n parts)) (sym count) ∙ ap (map word_value) (sym so_far) ∙ map_now front ∙ same in
    first_wrong 1 words parts part before (omega arith) (at ∙ ap (λ (n : ℕ). get_or parts n part) count) wrong
