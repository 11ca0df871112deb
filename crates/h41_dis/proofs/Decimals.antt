-- Decimal numbers of one digit and of two.
use Rattle.std.specs.Prelude.{◌≡◌, ℕ, ◌+◌, ◌/◌, ◌%◌, ◌<◌, ◌≤◌, [], ◌∷◌, ◌++◌, true}
use Rattle.std.specs.Fmt.{decimal, digit_glyph}
use Rattle.std.proofs.Common.{ap, sym, ◌∙◌, arith}
use Rattle.std.proofs.lemmas.Fmt.{decimal_digit, decimal_step}
use Rattle.std.proofs.lemmas.Bool.Decides.{nat_tests}

glyph_of : (n : ℕ) → n < 10 → digit_glyph true n ≡ 48 + n
glyph_of n low = grind (arith, nat_tests)

pub decimal_one : (n : ℕ) → n < 10 → decimal n ≡ digit_glyph true (n % 10) ∷ []
decimal_one n low =
    let same : n % 10 ≡ n = omega arith in
    decimal_digit n low ∙ ap (λ d. d ∷ []) (sym (ap (digit_glyph true) same ∙ glyph_of n low))

pub decimal_two : (n : ℕ) → 10 ≤ n → n < 16 → decimal n ≡ 49 ∷ digit_glyph true (n % 10) ∷ []
decimal_two n high low =
    let tens : n / 10 ≡ 1 = omega arith in
    decimal_step n high (omega arith)
    ∙ ap (λ d. d ++ ((48 + n % 10) ∷ [])) (ap decimal tens ∙ decimal_digit 1 (omega arith))
    ∙ ap (λ d. 49 ∷ d ∷ []) (sym (glyph_of (n % 10) (omega arith)))
