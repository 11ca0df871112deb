-- Decimal numbers of one digit and of two.
use Rattle.std.specs.Prelude.{◌≡◌, ℕ, ◌+◌, ◌/◌, ◌%◌, ◌<◌, ◌≤◌, [], ◌∷◌, ◌++◌}
use Rattle.std.specs.Fmt.{decimal}
use Rattle.std.proofs.Common.{ap, ◌∙◌, arith}
use Rattle.std.proofs.lemmas.Fmt.{decimal_digit, decimal_step}

pub decimal_one : (n : ℕ) → n < 10 → decimal n ≡ (48 + n) ∷ []
decimal_one n low = decimal_digit n low

pub decimal_two : (n : ℕ) → 10 ≤ n → n < 16 → decimal n ≡ 49 ∷ (48 + n % 10) ∷ []
decimal_two n high low =
    let tens : n / 10 ≡ 1 = omega arith in
    decimal_step n high (omega arith) ∙ ap (λ d. d ++ ((48 + n % 10) ∷ [])) (ap decimal tens ∙ decimal_digit 1 (omega arith))
