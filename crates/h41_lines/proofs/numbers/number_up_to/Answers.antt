use Rattle.std.proofs.Common.{◌≡◌, ◌<◌, ◌+◌, ◌*◌, take, get_or, arith, ◌∙◌}
use Rattle.std.proofs.lemmas.Bool.{and_from, lt-ltb}
use Rattle.std.proofs.lemmas.Int.Digits.{digits_value_more}
use Rattle.std.proofs.lemmas.List.Folds.{list_all_more}
use Rattle.std.specs.Char.{is_digit, digit_value}
use Rattle.std.specs.Str.Parse.{digits_value}
use Rattle.h41_lines.proofs.Numerals.{number_too_large}
use Rattle.h41_lines.proofs.numbers.number_up_to.Goals as goal

pub returns-then-value-most-clause-value : goal.returns-then-value-most-clause-value
returns-then-value-most-clause-value c =
    let word = c.args.word.now in
    let i = c.loop-byte.byte-index in
    let radix = c.args.radix in
    let more : digits_value radix (take (i + 1) word) ≡ digits_value radix (take i word) * radix + digit_value (get_or word i 0) =
    digits_value_more radix word i (omega arith) in
    let read = c.in_ok-digit.ensures.value in
    let value : c.loop-byte.value * radix + c.in_ok-digit.digit ≡ digits_value radix (take (i + 1) word) = cc in
    number_too_large radix c.args.most (i + 1) word _ _ (omega arith) (omega arith)

pub loop-byte-preserved : goal.loop-byte-preserved
loop-byte-preserved c =
    let word = c.args.word.now in
    let i = c.loop-byte.byte-index in
    let radix = c.args.radix in
    let more : digits_value radix (take (i + 1) word) ≡ digits_value radix (take i word) * radix + digit_value (get_or word i 0) =
    digits_value_more radix word i (omega arith) in
    let read = c.in_ok-digit.ensures.value in
    let digit : digit_value (get_or word i 0) < radix = rw c.from.ensures at read.0 in
    record {
      value = cc;
      within = omega arith;
      digits = list_all_more (λ d. is_digit d radix) word i 0 (omega arith) ∙ and_from _ _ c.loop-byte.invariant.digits (lt-ltb _ _ digit);
    }
