-- The mantissa, followed by the exponent.
use Rattle.std.proofs.Common.{◌≡◌, ◌+◌, ◌-◌, ◌*◌, ◌^◌, ◌<◌, ◌++◌, ap, ◌∙◌, append_assoc}
use Rattle.h41_decimal.specs.Units.{size}
use Rattle.h41_show.specs.NumberText.{mantissa_text, exponent_text}
use Rattle.h41_show.proofs.Fixed.{size_positive}
use Rattle.h41_show.proofs.Scientific.{scientific_text-shown}
use Rattle.h41_show.proofs.number.push_scientific.Goals as goal

pub returns : goal.returns
returns c =
    let x = c.args.x in
    let m = c.mantissa_decimals-decimals.result in
    let digits = c.round-digits.result.digits in
    let t = c.round-digits.result.above_least in
    let extra = c.extra_digits-extra.result in
    let filled : c.power_of_ten.result ≡ 10 ^ (extra - m) = c.power_of_ten.ensures ∙ ap (λ k. 10 ^ k) c.saturating_sub.ensures in
    let some : 0 < size x = size_positive x.mantissa.digits x.exponent.biased x.mantissa.at_least x.mantissa.below in
    let text =
    scientific_text-shown digits t m c.mantissa_decimals-decimals.ensures.most
    c.round-digits.ensures.exponent c.round-digits.ensures.least c.round-digits.ensures.most
    c.args.format (size x) extra some c.mantissa_decimals-decimals.ensures.value
    c.round-digits.ensures.value c.extra_digits-extra.ensures.value
    c.extra_digits-extra.ensures.most c.extra_digits-extra.ensures.within in
    let mantissa = ap (λ d. mantissa_text c.args.format.radix d (digits * c.power_of_ten.result)) c.saturating_sub-2.ensures
    ∙ ap (λ p. mantissa_text c.args.format.radix (m - extra) (digits * p)) filled in
    let exponent = exponent_text (t - extra + 9) in
    c.push_exponent.ensures ∙ ap (λ b. b ++ exponent) c.push_mantissa.ensures.bytes
    ∙ append_assoc c.args.text.now.bytes
    (mantissa_text c.args.format.radix c.saturating_sub-2.result (digits * c.power_of_ten.result)) exponent
    ∙ ap (λ b. c.args.text.now.bytes ++ b) (ap (λ b. b ++ exponent) mantissa ∙ text)
