use Rattle.std.proofs.Common.{◌≡◌, ℕ, ◌/◌, ◌%◌, [], ◌∷◌, ◌++◌, true, ap, ◌∙◌, append_assoc, arith}
use Rattle.std.specs.Fmt.{digit_glyph}
use Rattle.h41_digits.specs.Register.{hexadecimal_text}
use Rattle.h41_dis.proofs.text.push_address.Goals as goal

by_bytes : (address : ℕ) → hexadecimal_text 2 (address / 256) ++ hexadecimal_text 2 (address % 256) ≡ hexadecimal_text 4 address
by_bytes address =
    let first : address / 256 / 16 % 16 ≡ address / 16 / 16 / 16 % 16 = omega arith in
    let second : address / 256 % 16 ≡ address / 16 / 16 % 16 = omega arith in
    let third : address % 256 / 16 % 16 ≡ address / 16 % 16 = omega arith in
    let fourth : address % 256 % 16 ≡ address % 16 = omega arith in
    λ i. digit_glyph true (first i) ∷ digit_glyph true (second i) ∷ digit_glyph true (third i) ∷ digit_glyph true (fourth i) ∷ []

pub returns : goal.returns
returns g c =
    let address = c.args.address in
    c.push_byte_digits-2.ensures
    ∙ ap (λ text. text ++ hexadecimal_text 2 (address % 256)) c.push_byte_digits.ensures
    ∙ append_assoc c.args.text.now.bytes (hexadecimal_text 2 (address / 256)) (hexadecimal_text 2 (address % 256))
    ∙ ap (λ digits. c.args.text.now.bytes ++ digits) (by_bytes address)
