-- Why a number line has one number.
use Rattle.std.proofs.Common.{◌≡◌, ℕ, ◌*◌, ◌^◌, sym, subst, ◌∙◌}
use Rattle.h41_decimal.specs.Laws.{TypedIsDetermined}
use Rattle.h41_decimal.specs.NearestDecimal.{Nearest}
use Rattle.h41_decimal.specs.NumberEntry.{IsTyped}
use Rattle.h41_decimal.specs.Signs.{with_sign}
use Rattle.h41_decimal.specs.Units.{one}
use Rattle.h41_decimal.specs.declared.parts.Exponent.{Exponent}
use Rattle.h41_decimal.specs.declared.sign.Sign.{Sign}
use Rattle.h41_decimal.specs.declared.ten.Ten.{Ten}
use Rattle.h41_codes.specs.NumberCharacters.{mantissa_part}
use Rattle.h41_numbers.specs.NumberLaws.{NumbersAreDetermined}
use Rattle.h41_numbers.specs.NumberLines.{decimal_places, mantissa_digits, number_from, sign_in}

-- The typed number depends on the number of its exponent only.
typed_at : (sign : Sign) (digits places : ℕ) (e f : Exponent) (number : Ten)
    → e.biased ≡ f.biased → IsTyped sign digits places e number → IsTyped sign digits places f number
typed_at sign digits places e f number same typed =
    record {
      answer = typed.answer;
      nearest =
          subst (λ biased. Nearest (with_sign sign (digits * one * 10 ^ biased)) (10 ^ places * 10 ^ 99) typed.answer)
          same typed.nearest;
      value = typed.value;
    }

pub numbers_determined : TypedIsDetermined → NumbersAreDetermined
numbers_determined same_typed text x y p q =
    let sign : Sign = sign_in (mantissa_part text) in
    let digits : ℕ = number_from 0 (mantissa_digits text) in
    let places : ℕ = decimal_places text in
    same_typed sign digits places q.exponent x y
    (typed_at sign digits places p.exponent q.exponent x (p.biased ∙ sym q.biased) p.typed) q.typed
