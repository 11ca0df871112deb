-- Numbers in decimal digits: how many there are, and how they are separated.
use Rattle.std.specs.Prelude.{◌≡◌, ℕ, zero, suc, ◌+◌, ◌*◌, ◌/◌, ◌%◌, ◌^◌, ◌<◌, ◌≤◌, List, [], ◌∷◌, ◌++◌, length, refl, nat_lt, ◌==◌, ◌&&◌}
use Rattle.std.specs.Prelude.{if◌then◌else◌, Bool}
use Rattle.std.specs.Fmt.{decimal}
use Rattle.std.proofs.Common.{ap, arith, append_assoc, length-append, rules}
use Rattle.std.proofs.lemmas.Fmt.{decimal_digit, decimal_step, length-decimal-le}
use Rattle.std.proofs.lemmas.Bool.Decides.{nat_tests}
use Rattle.h41_show.specs.Digits.{digits_text, ends_group, grouped_digits}

-- The text of a number of digits has as many bytes.
pub length-digits_text : (count number : ℕ) → length (digits_text count number) ≡ count
length-digits_text zero number = refl
length-digits_text (suc count) number = search (rules, length-append, length-digits_text count (number / 10))

-- The last digit, and those before it.
pub length-decimal_step : (n : ℕ) → 10 ≤ n → n < 2 ^ 64 → length (decimal n) ≡ length (decimal (n / 10)) + 1
length-decimal_step n high fits = search (rules, length-append, decimal_step)

pub length-decimal_digit : (n : ℕ) → n < 10 → length (decimal n) ≡ 1
length-decimal_digit n low = ap length (decimal_digit n low)

pub length-decimal_most : (n : ℕ) → n < 2 ^ 64 → length (decimal n) ≤ 20
length-decimal_most n fits = length-decimal-le 20 n (omega arith) (omega arith) fits

-- The last three digits, and those before them.
pub decimal_group : (n : ℕ) → 1000 ≤ n → n < 2 ^ 64 → decimal n ≡ decimal (n / 1000) ++ digits_text 3 (n % 1000)
decimal_group n high fits = search (rules, decimal_step, append_assoc)

pub length-decimal_group : (n : ℕ) → 1000 ≤ n → n < 2 ^ 64 → length (decimal n) ≡ length (decimal (n / 1000)) + 3
length-decimal_group n high fits = search (rules, decimal_group, length-append, length-digits_text)

-- There are at most as many separators as digits.
twice : (mark digit : ℕ) (behind : List ℕ) (ends : Bool) → length (grouped_digits mark behind) ≤ 2 * length behind
    → length (if ends then digit ∷ mark ∷ grouped_digits mark behind else digit ∷ grouped_digits mark behind) ≤ 2 * length (digit ∷ behind)
twice mark digit behind ends most = grind arith

pub length-grouped : (mark : ℕ) (digits : List ℕ) → length (grouped_digits mark digits) ≤ 2 * length digits
length-grouped mark [] = omega arith
length-grouped mark (digit ∷ behind) = twice mark digit behind (ends_group behind) (length-grouped mark behind)

-- Up to three digits have no separator.
pub grouped_short : (mark : ℕ) (digits : List ℕ) → length digits ≤ 3 → grouped_digits mark digits ≡ digits
grouped_short mark [] few = refl
grouped_short mark (a ∷ []) few = refl
grouped_short mark (a ∷ b ∷ []) few = refl
grouped_short mark (a ∷ b ∷ c ∷ []) few = refl
grouped_short mark (a ∷ b ∷ c ∷ d ∷ rest) few = absurd (omega arith)

-- Three more digits end a group if the digits before them did.
three_more : (n m : ℕ) → n ≡ m + 3 → 0 < m → (nat_lt 0 n && n % 3 == 0) ≡ (nat_lt 0 m && m % 3 == 0)
three_more n m more some = search (rules, nat_tests)

same_end : (digit : ℕ) (behind group : List ℕ) → length group ≡ 3 → ends_group ((digit ∷ behind) ++ group) ≡ ends_group (digit ∷ behind)
same_end digit behind group three = search (rules, length-append, three_more)

behind_digit : (ends : Bool) (mark digit : ℕ) (rest group : List ℕ)
    → (if ends then digit ∷ mark ∷ (rest ++ group) else digit ∷ (rest ++ group))
    ≡ (if ends then digit ∷ mark ∷ rest else digit ∷ rest) ++ group
behind_digit ends mark digit rest group = grind arith

-- Three more digits follow a separator.
pub grouped-group : (mark : ℕ) (front : List ℕ) (x y z : ℕ) → 0 < length front
    → grouped_digits mark (front ++ x ∷ y ∷ z ∷ []) ≡ grouped_digits mark front ++ mark ∷ x ∷ y ∷ z ∷ []
grouped-group mark [] x y z some = absurd (omega arith)
grouped-group mark (digit ∷ []) x y z some = refl
grouped-group mark (digit ∷ next ∷ behind) x y z some =
    let rest = grouped-group mark (next ∷ behind) x y z (omega arith) in
    let ends = same_end next behind (x ∷ y ∷ z ∷ []) refl in
    rw (ends, rest) (behind_digit (ends_group (next ∷ behind)) mark digit (grouped_digits mark (next ∷ behind)) (mark ∷ x ∷ y ∷ z ∷ []))
