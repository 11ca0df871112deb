-- The halves of five bytes are tested at once.
use Rattle.std.proofs.Common.{◌≡◌, ◌+◌, ◌*◌, ◌/◌, ◌<◌, Some, ap, sym, ◌∙◌, arith}
use Rattle.std.specs.Int.RustNames.{bit_and}
use Rattle.h41_decimal.specs.private.PackedDigits.{hundreds_of}
use Rattle.h41_decimal.proofs.DigitBytes.{all_decimal, halves, halves_read, one_not_decimal, sixteens, tested}
use Rattle.h41_decimal.proofs.register.unpacked.Goals as goal
use Rattle.h41_decimal.proofs.register.unpacked.Goals.{then-low-ne0-via-then-low-ne0, then-low-ne0-via-else-low-ne0+then-high-ne0}

pub returns-then-low-ne0 : goal.returns-then-low-ne0
returns-then-low-ne0 c =
    let digits = c.args.digits in
    let low = tested digits in
    let high = tested (digits / 16) in
    let some : 0 < sixteens 5 digits + sixteens 5 (digits / 16) =
    elim c.then-low-ne0.branch [
      | then-low-ne0-via-then-low-ne0 w ↦ omega (arith, low, w.if-low-ne0.true)
      | then-low-ne0-via-else-low-ne0+then-high-ne0 w ↦ omega (arith, high, w.if-high-ne0.true)
    ] in
    sym (one_not_decimal 5 digits some)

pub returns : goal.returns
returns c =
    let digits = c.args.digits in
    let low : sixteens 5 digits ≡ 0 = omega (arith, tested digits, c.if-low-ne0.false) in
    let high : sixteens 5 (digits / 16) ≡ 0 = omega (arith, tested (digits / 16), c.if-high-ne0.false) in
    let bytes = ap (λ n. hundreds_of 5 (n + 10 * halves 5 (digits / 16))) (halves_read 5 digits) in
    ap Some (c.hundreds.ensures ∙ ap (λ n. hundreds_of 5 (bit_and digits 64677154575 + 10 * n)) (halves_read 5 (digits / 16)) ∙ bytes)
    ∙ sym (all_decimal 5 digits low high)
