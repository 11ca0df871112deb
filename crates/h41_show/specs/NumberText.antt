-- The text of a number in a display format. The forms are those of the Owner's Handbook; the
-- greatest number of digits of SCI and ENG, the form of zero in them and the way in which ENG fills
-- its digits are this project's choices.
use Rattle.std.specs.Prelude.{ℕ, ◌-◌, ◌*◌, ◌/◌, ◌%◌, ◌^◌, min, Bool, not, ◌&&◌, ◌||◌, ◌==◌, nat_le}
use Rattle.std.specs.Prelude.{nat_lt, List, [], ◌∷◌, ◌++◌, length, if◌then◌else◌, ℤ, unsigned_abs}
use Rattle.std.specs.Fmt.{decimal}
use Rattle.h41_decimal.specs.Units.{one}
use Rattle.h41_decimal.specs.Signs.{sign_of}
use Rattle.h41_decimal.specs.declared.sign.Sign.{Sign}
use Rattle.h41_decimal.specs.declared.sign.Sign.TheVariants.{Plus, Minus}
use Rattle.h41_show.specs.Digits.{digits_text, grouped_digits}
use Rattle.h41_show.specs.Rounding.{nearest, exponent_of, rounded_size}
use Rattle.h41_show.specs.declared.format.Format.{Format}
use Rattle.h41_show.specs.declared.format.Notation.{Notation}
use Rattle.h41_show.specs.declared.format.Notation.TheVariants.{Fixed, Scientific, Engineering}
use Rattle.h41_show.specs.declared.format.RadixMark.{RadixMark}
use Rattle.h41_show.specs.declared.format.RadixMark.TheVariants.{Point, Comma}

-- The character of the radix mark.
abbrev pub radix_byte : RadixMark → ℕ
radix_byte Point = 0x2E
radix_byte Comma = 0x2C

-- The character between groups of digits, a comma or a point.
abbrev pub group_byte : RadixMark → ℕ
group_byte Point = 0x2C
group_byte Comma = 0x2E

-- FIX: the number of digits of a size before the radix mark, at least one.
abbrev pub integer_digits : ℕ → ℕ
integer_digits size = length (decimal (size / one))

-- As many decimals as the display digit says, but at most ten digits in all.
abbrev pub fixed_decimals : ℕ → ℕ → ℕ
fixed_decimals digits size = min digits (10 - integer_digits size)

-- The size, rounded to a whole number of steps of its last decimal.
abbrev pub fixed_count : ℕ → ℕ → ℕ
fixed_count digits size = nearest size (10 ^ (108 - fixed_decimals digits size))

-- Whether FIX shows a size in this form: it is below 10^10, and is not shown as zero unless it is
-- zero.
unfoldable pub is_fixed : ℕ → ℕ → Bool
is_fixed digits size =
    nat_lt size (10 ^ 10 * one) && (size == 0 || nat_lt 0 (fixed_count digits size))

-- The digits before the radix mark, grouped by threes if flag 29 is set.
abbrev pub integer_text : Format → ℕ → List ℕ
integer_text format whole =
    if format.grouping then grouped_digits (group_byte format.radix) (decimal whole)
    else decimal whole

-- FIX 0 shows a radix mark only if flag 29 is set.
abbrev pub fixed_mark : Format → List ℕ
fixed_mark format =
    if format.digits == 0 && not format.grouping then [] else radix_byte format.radix ∷ []

-- A number of steps of the last decimal, with this number of decimals after the radix mark.
abbrev pub steps_text : Format → ℕ → ℕ → List ℕ
steps_text format decimals count =
    integer_text format (count / 10 ^ decimals) ++ fixed_mark format ++ digits_text decimals count

-- A size as FIX shows it.
unfoldable pub fixed_text : Format → ℕ → List ℕ
fixed_text format size =
    steps_text format (fixed_decimals format.digits size) (fixed_count format.digits size)

-- SCI and ENG: the number of digits after the first one.
abbrev pub mantissa_decimals : ℕ → ℕ
mantissa_decimals digits = min digits 7

-- A mantissa, given as a number of steps of its last decimal.
abbrev pub mantissa_text : RadixMark → ℕ → ℕ → List ℕ
mantissa_text radix decimals count =
    decimal (count / 10 ^ decimals) ++ radix_byte radix ∷ digits_text decimals count

-- An exponent, given plus 108: a space or a minus sign, and two digits.
abbrev pub exponent_text : ℕ → List ℕ
exponent_text exponent =
    if nat_le 108 exponent then 0x20 ∷ digits_text 2 (exponent - 108)
    else 0x2D ∷ digits_text 2 (108 - exponent)

-- How far the exponent that is shown is below that of the size. ENG shows multiples of 3, and 108
-- is one.
abbrev pub extra_digits : Notation → ℕ → ℕ
extra_digits Engineering exponent = exponent % 3
extra_digits Scientific exponent = 0
extra_digits Fixed exponent = 0

-- A size with a mantissa that has extra digits before the radix mark. They reduce the number of
-- decimals, and zeros replace missing digits.
abbrev pub exponential_text : RadixMark → ℕ → ℕ → ℕ → List ℕ
exponential_text radix decimals extra size =
    let shown = exponent_of size - extra in
    let behind = decimals - extra in
    mantissa_text radix behind (size / 10 ^ (shown - behind)) ++ exponent_text shown

-- A size as SCI and ENG show it; the exponent is that of the rounded size. FIX shows a size that it
-- cannot show otherwise as SCI does. Zero has exponent 0.
unfoldable pub scientific_text : Format → ℕ → List ℕ
scientific_text format size =
    let decimals = mantissa_decimals format.digits in
    let shown = rounded_size decimals size in
    if size == 0 then mantissa_text format.radix decimals 0 ++ exponent_text 108
    else exponential_text format.radix decimals
    (extra_digits format.notation (exponent_of shown)) shown

-- A size in a notation.
abbrev pub notation_text : Notation → Format → ℕ → List ℕ
notation_text Fixed format size =
    if is_fixed format.digits size then fixed_text format size else scientific_text format size
notation_text Scientific format size = scientific_text format size
notation_text Engineering format size = scientific_text format size

-- A size in the notation of the format.
abbrev pub size_text : Format → ℕ → List ℕ
size_text format size = notation_text format.notation format size

-- A minus sign before a negative number, and nothing before any other.
abbrev pub sign_text : Sign → List ℕ
sign_text Plus = []
sign_text Minus = 0x2D ∷ []

-- A number in a display format.
unfoldable pub number_text : Format → ℤ → List ℕ
number_text format value = sign_text (sign_of value) ++ size_text format (unsigned_abs value)
