-- The digits of a number line, read one character after another.
use Rattle.std.proofs.Common.{◌≡◌, ℕ, suc, ◌+◌, ◌-◌, ◌*◌, ◌<◌, ◌≤◌, Option, Some, None, List, ◌∷◌, length, take, sym, ◌∙◌, ap, arith}
use Rattle.std.specs.Option.{option_map_or}
use Rattle.h41_codes.specs.declared.characters.Character.{Character}
use Rattle.h41_numbers.specs.NumberLines.{digit_of, digits_in, number_from}
use Rattle.h41_numbers.specs.private.NumberReading.{read_count, read_number}

-- The digits of a text whose first character has this digit, or none.
pub digits_behind : (found : Option ℕ) (character : Character) (rest : List Character) → found ≡ digit_of character
    → digits_in (character ∷ rest) ≡ option_map_or (λ digit. digit ∷ digits_in rest) found (digits_in rest)
digits_behind found character rest is = ap (λ (o : Option ℕ). option_map_or (λ digit. digit ∷ digits_in rest) o (digits_in rest)) (sym is)

-- One more digit is used.
taken : (most count digit : ℕ) (character : Character) (rest : List Character) → Some digit ≡ digit_of character → count < most
    → take (most - count) (digits_in (character ∷ rest)) ≡ digit ∷ take (most - (count + 1)) (digits_in rest)
taken most count digit character rest is room =
    let left : most - count ≡ suc (most - (count + 1)) = omega arith in
    ap (λ (ds : List ℕ). take (most - count) ds) (digits_behind (Some digit) character rest is)
    ∙ ap (λ (n : ℕ). take n (digit ∷ digits_in rest)) left

pub number_more : (most number count digit next more : ℕ) (character : Character) (rest : List Character) → Some digit ≡ digit_of character
    → count < most → next ≡ 10 * number + digit → more ≡ count + 1
    → read_number most next more rest ≡ read_number most number count (character ∷ rest)
number_more most number count digit next more character rest is room same one =
    ap (λ (n : ℕ). number_from n (take (most - more) (digits_in rest))) same
    ∙ ap (λ (n : ℕ). number_from (10 * number + digit) (take (most - n) (digits_in rest))) one
    ∙ sym (ap (number_from number) (taken most count digit character rest is room))

pub count_more : (most count digit more : ℕ) (character : Character) (rest : List Character) → Some digit ≡ digit_of character
    → count < most → more ≡ count + 1 → read_count most more rest ≡ read_count most count (character ∷ rest)
count_more most count digit more character rest is room one =
    let all : length (take (most - count) (digits_in (character ∷ rest))) ≡ suc (length (take (most - (count + 1)) (digits_in rest))) =
    ap length (taken most count digit character rest is room) in
    let here : length (take (most - more) (digits_in rest)) ≡ length (take (most - (count + 1)) (digits_in rest)) =
    ap (λ (n : ℕ). length (take (most - n) (digits_in rest))) one in
    omega arith

-- No more digits are used.
pub number_full : (most number count : ℕ) (character : Character) (rest : List Character) → most ≤ count
    → read_number most number count rest ≡ read_number most number count (character ∷ rest)
number_full most number count character rest full =
    let none : most - count ≡ 0 = omega arith in
    ap (λ (n : ℕ). number_from number (take n (digits_in rest))) none
    ∙ sym (ap (λ (n : ℕ). number_from number (take n (digits_in (character ∷ rest)))) none)

pub count_full : (most count : ℕ) (character : Character) (rest : List Character) → most ≤ count
    → read_count most count rest ≡ read_count most count (character ∷ rest)
count_full most count character rest full =
    let none : most - count ≡ 0 = omega arith in
    ap (λ (n : ℕ). count + length (take n (digits_in rest))) none
    ∙ sym (ap (λ (n : ℕ). count + length (take n (digits_in (character ∷ rest)))) none)

-- A character that is no digit changes nothing.
pub number_none : (most number count : ℕ) (character : Character) (rest : List Character) → None ≡ digit_of character
    → read_number most number count rest ≡ read_number most number count (character ∷ rest)
number_none most number count character rest is =
    sym (ap (λ (ds : List ℕ). number_from number (take (most - count) ds)) (digits_behind None character rest is))

pub count_none : (most count : ℕ) (character : Character) (rest : List Character) → None ≡ digit_of character
    → read_count most count rest ≡ read_count most count (character ∷ rest)
count_none most count character rest is =
    sym (ap (λ (ds : List ℕ). count + length (take (most - count) ds)) (digits_behind None character rest is))
