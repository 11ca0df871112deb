-- What was written last is read, and what was written before is kept.
use Rattle.std.proofs.Common.{◌≡◌, ◌<◌, length, ap, ◌∙◌, arith, get_or-set_same}
use Rattle.std.specs.Prelude.{slice_index, slice_set}
use Rattle.h41_decimal.specs.Holding.{decimal_in}
use Rattle.h41_decimal.proofs.PackedDigits.{packed_written, same_above}
use Rattle.h41_decimal.proofs.Registers.{decimal_same, parts_hold}
use Rattle.h41_decimal.proofs.register.write_size.Goals as goal

pub returns : goal.returns
returns c =
    let x = c.args.x in
    let signed = c.with-signed.result in
    let filled = c.with_number-with_mantissa.result in
    let whole = c.with_number.result in
    let size : length c.zero.result ≡ 14 = c.with-signed.ensures.from.size in
    let lt : 13 < length c.zero.result = omega arith in
    let set : slice_index (slice_set c.zero.result 13 c.sign_digit.result) 13 ≡ c.sign_digit.result = rw get_or-set_same in
    let s : slice_index signed 13 ≡ c.sign_digit.result = ap (λ r. slice_index r 13) c.with-signed.ensures.changed ∙ set in
    let kept : slice_index filled 13 ≡ slice_index signed 13 =
    same_above filled signed 13 13 c.with_number-with_mantissa.ensures.above (omega arith) in
    let kept' : slice_index whole 13 ≡ slice_index filled 13 = same_above whole filled 3 13 c.with_number.ensures.above (omega arith) in
    let m : decimal_in whole 3 10 ≡ decimal_in filled 3 10 =
    decimal_same whole filled 3 10 (λ k low high. same_above whole filled 3 k c.with_number.ensures.above low) in
    let mantissa : decimal_in filled 3 10 ≡ _ =
    packed_written filled 3 10 x.mantissa.digits c.with_number-with_mantissa.ensures.register (omega arith) x.mantissa.below
    (c.with_number-with_mantissa.ensures.number ∙ c.packed_ten.ensures.digits) in
    let exponent = c.packed_exponent.ensures.digits in
    let written : decimal_in whole 0 3 ≡ _ =
    packed_written whole 0 3 exponent.0 c.with_number.ensures.register (omega arith) exponent.2
    (c.with_number.ensures.number ∙ exponent.3) in
    parts_hold whole x.mantissa.digits exponent.0 c.sign_digit.result c.args.sign x.exponent.biased
    (m ∙ mantissa) written (kept' ∙ (kept ∙ s))
    c.sign_digit.ensures.sign exponent.1 x.mantissa.at_least
