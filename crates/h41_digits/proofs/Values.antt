-- The number that a register holds, digit by digit.
use Rattle.std.proofs.Common.{◌≡◌, ℕ, zero, suc, ◌+◌, ◌*◌, ◌/◌, ◌%◌, ◌^◌, ◌<◌, ◌≢◌, List, true, map, reverse, [], ◌∷◌, ◌++◌, length, set}
use Rattle.std.proofs.Common.{All, length-set, get_or-set_other, get_or-set_same, refl, sym, ap, subst, arith, lit<, ◌∙◌}
use Rattle.std.proofs.Math.Nat.{pow-succ'}
use Rattle.std.proofs.lemmas.List.{reverse-append, map-append}
use Rattle.std.specs.Fmt.{digit_glyph}
use Rattle.std.proofs.lemmas.Bool.Decides.{nat_tests}
use Rattle.std.proofs.lemmas.Str.{IsAscii-append}
use Rattle.std.specs.Str.{IsAscii}
use Rattle.std.specs.List.{AllByRecursion}
use Rattle.std.proofs.lemmas.List.Elements.{recursion_from_All}
use Rattle.h41_digits.specs.Register.{IsRegister, value, text, hexadecimal_text}
use Rattle.h41_digits.specs.Packed.{value-cons}
use Rattle.h41_digits.specs.RegisterLaws.{SetByteIsRead, TextTellsValue, ValueIsInjective}

-- Digits hold less than 16 to the power of their count.
pub value-lt : (digits : List ℕ) → AllByRecursion (λ digit. digit < 16) digits → value digits < 16 ^ length digits
value-lt [] each = omega arith
value-lt (digit ∷ digits) each = rw (value-cons digit digits) (omega (arith, value-lt digits each.1, each.0, pow-succ' 16 (length digits)))

pub value-below : (digits : List ℕ) → All (λ digit. digit < 16) digits → value digits < 16 ^ length digits
value-below digits each = value-lt digits (recursion_from_All _ digits each)

-- The lowest digit is the last character of the text.
pub text-snoc : (digit : ℕ) (above : List ℕ) → text (digit ∷ above) ≡ text above ++ digit_glyph true digit ∷ []
text-snoc digit above =
    ap (map (digit_glyph true)) (reverse-append (digit ∷ []) above) ∙ map-append (digit_glyph true) (reverse above) (digit ∷ [])

same_digits : (x y : List ℕ) → length x ≡ length y → AllByRecursion (λ digit. digit < 16) x → AllByRecursion (λ digit. digit < 16) y
    → value x ≡ value y → x ≡ y
same_digits [] [] size p q same = refl
same_digits [] (b ∷ y) size p q same = absurd (omega (arith, size))
same_digits (a ∷ x) [] size p q same = absurd (omega (arith, size))
same_digits (a ∷ x) (b ∷ y) size p q same =
    let both : a + 16 * value x ≡ b + 16 * value y = sym (value-cons a x) ∙ same ∙ value-cons b y in
    let low : a ≡ b = omega (arith, p.0, q.0) in
    let high : value x ≡ value y = omega (arith, p.0, q.0) in
    let rest = same_digits x y (omega (arith, size)) p.1 q.1 high in
    cc

pub same_register : ValueIsInjective
same_register places x y p q same =
    same_digits x y (p.size ∙ sym q.size) (recursion_from_All _ x p.each) (recursion_from_All _ y q.each) same

-- The text of a register is that of its number.
text-value : (digits : List ℕ) → AllByRecursion (λ digit. digit < 16) digits → text digits ≡ hexadecimal_text (length digits) (value digits)
text-value [] each = refl
text-value (digit ∷ digits) each =
    let above : value (digit ∷ digits) / 16 ≡ value digits = omega (arith, value-cons digit digits, each.0) in
    let own : value (digit ∷ digits) % 16 ≡ digit = omega (arith, value-cons digit digits, each.0) in
    ap (map (digit_glyph true)) (reverse-append (digit ∷ []) digits) ∙ map-append (digit_glyph true) (reverse digits) (digit ∷ [])
    ∙ ap (λ front. front ++ digit_glyph true digit ∷ []) (text-value digits each.1) ∙ sym (rw (above, own) refl)

pub text-register : TextTellsValue
text-register places digits register =
    text-value digits (recursion_from_All _ digits register.each) ∙ ap (λ count. hexadecimal_text count (value digits)) register.size

-- A byte that was written is read back.
pub byte_at-set_byte : SetByteIsRead
byte_at-set_byte digits k byte inside =
    let low = set digits (2 * k) (byte % 16) in
    let inside_low : 2 * k + 1 < length low = omega (arith, length-set digits (2 * k) (byte % 16)) in
    let other : 2 * k ≢ 2 * k + 1 = omega arith in
    omega (
      arith,
      get_or-set_same low (2 * k + 1) (byte / 16) 0 inside_low,
      get_or-set_other low (2 * k + 1) (2 * k) (byte / 16) 0 other,
      get_or-set_same digits (2 * k) (byte % 16) 0 (omega arith),
    )

-- The text of a register is ASCII.
glyph-lt : (digit : ℕ) → digit < 16 → digit_glyph true digit < 128
glyph-lt digit small = grind (arith, nat_tests)

ascii_one : (glyph : ℕ) → glyph < 128 → IsAscii (glyph ∷ [])
ascii_one glyph small zero = small
ascii_one glyph small (suc i) = lit< tt

ascii_text_each : (digits : List ℕ) → AllByRecursion (λ digit. digit < 16) digits → IsAscii (text digits)
ascii_text_each [] each = λ i. lit< tt
ascii_text_each (digit ∷ digits) each =
    subst IsAscii (sym (text-snoc digit digits))
    (IsAscii-append (text digits) _ (ascii_text_each digits each.1) (ascii_one (digit_glyph true digit) (glyph-lt digit each.0)))

pub ascii_text : (places : ℕ) (digits : List ℕ) → IsRegister places digits → IsAscii (text digits)
ascii_text places digits register = ascii_text_each digits (recursion_from_All _ digits register.each)
