-- Bytes, and the registers that they make.
use Rattle.std.proofs.Common.{◌≡◌, ℕ, zero, suc, ◌+◌, ◌*◌, ◌/◌, ◌%◌, ◌<◌, Bool, true, false, List, [], ◌∷◌, map, length}
use Rattle.std.proofs.Common.{slice_index, if◌then◌else◌, Option, Some, None, refl, arith, length-append, rules}
use Rattle.std.specs.Prelude.{◌==◌, All, reverse, ℤ}
use Rattle.std.specs.Fmt.{decimal, digit_glyph, digits, digits_onto}
use Rattle.std.proofs.lemmas.List.{get_or-reverse, length-reverse}
use Rattle.std.proofs.lemmas.List.Elements.{All-append, All-cons, All-drop, All-from_get_or, All-map, All-nil, All-replicate, All-tail}
use Rattle.std.proofs.lemmas.List.Elements.{All-head}
use Rattle.h41_codes.specs.ByteGrammar.{IsBytes}
use Rattle.h41_decimal.specs.Holding.{after_nulls, holding}
use Rattle.h41_decimal.specs.declared.sign.Sign.{Sign}
use Rattle.h41_decimal.specs.declared.sign.Sign.TheVariants.{Plus, Minus}
use Rattle.h41_digits.specs.Register.{IsRegister, byte_at, text}
use Rattle.h41_ram.specs.RegisterMap.{RegisterMap, alpha_of, bytes_of, digits_from, seven_from}
use Rattle.h41_rows.specs.RowEffects.{last_24, recall_text}
use Rattle.h41_show.specs.Digits.{digits_text, ends_group, grouped_digits}
use Rattle.h41_show.specs.NumberText.{exponent_text, exponential_text, extra_digits, fixed_count, fixed_decimals, fixed_mark, fixed_text}
use Rattle.h41_show.specs.NumberText.{group_byte, integer_text, mantissa_decimals, mantissa_text, notation_text, number_text}
use Rattle.h41_show.specs.NumberText.{radix_byte, scientific_text, sign_text, steps_text}
use Rattle.h41_show.specs.Rounding.{exponent_of, rounded_size}
use Rattle.h41_show.specs.declared.format.Format.{Format}
use Rattle.h41_show.specs.declared.format.Notation.{Notation}
use Rattle.h41_show.specs.declared.format.Notation.TheVariants.{Fixed, Scientific, Engineering}
use Rattle.h41_show.specs.declared.format.RadixMark.{RadixMark}
use Rattle.h41_show.specs.declared.format.RadixMark.TheVariants.{Point, Comma}
use Rattle.h41_laws_words.proofs.Registers.{below_at, digit_at, held_at}
use Rattle.h41_laws_words.specs.WholeStates.{HoldsRegisters}
use Rattle.h41_laws_calculator.specs.WholeMemory.{AreBytes}

-- A fact about two values holds for the one that is chosen.
pub chosen : {A : Type 0} (P : A → Type 0) (b : Bool) (one other : A) → (b ≡ true → P one) → (b ≡ false → P other)
    → P (if b then one else other)
chosen P true one other first second = first refl
chosen P false one other first second = second refl

abbrev pub IsByte : ℕ → Type 0
IsByte byte = byte < 256

pub byte_in : (bytes : List ℕ) (index : ℕ) → AreBytes bytes → slice_index bytes index < 256
byte_in bytes index all = below_at 256 bytes index (omega arith) all

pub of_text : (bytes : List ℕ) → IsBytes bytes → AreBytes bytes
of_text bytes are = All-from_get_or IsByte bytes 0 are

pub to_text : (bytes : List ℕ) → AreBytes bytes → IsBytes bytes
to_text bytes all = λ index within. all index 0 within

-- One byte.
pub alone : (byte : ℕ) → byte < 256 → AreBytes (byte ∷ [])
alone byte small = All-cons IsByte byte [] small (All-nil IsByte)

-- The digits of bytes.
abbrev IsDigit : ℕ → Type 0
IsDigit digit = digit < 16

pub digits_small : (bytes indices : List ℕ) → AreBytes bytes → All IsDigit (digits_from bytes indices)
digits_small bytes [] all = All-nil IsDigit
digits_small bytes (index ∷ indices) all =
    let byte = slice_index bytes index in
    let small = byte_in bytes index all in
    All-append IsDigit (digits_from bytes indices) (byte % 16 ∷ byte / 16 ∷ []) (digits_small bytes indices all)
    (All-cons IsDigit (byte % 16) (byte / 16 ∷ []) (omega arith) (All-cons IsDigit (byte / 16) [] (omega (arith, small)) (All-nil IsDigit)))

pub digits_count : (bytes indices : List ℕ) → length (digits_from bytes indices) ≡ 2 * length indices
digits_count bytes [] = refl
digits_count bytes (index ∷ indices) =
    let byte = slice_index bytes index in
    omega (arith, length-append (digits_from bytes indices) (byte % 16 ∷ byte / 16 ∷ []), digits_count bytes indices)

pub register_of : (bytes : List ℕ) (first : ℕ) → AreBytes bytes → IsRegister 14 (digits_from bytes (seven_from first))
register_of bytes first all = record { size = digits_count bytes (seven_from first); each = digits_small bytes (seven_from first) all }

-- The bytes of registers.
pub byte_small : (register : List ℕ) (place : ℕ) → IsRegister 14 register → byte_at register place < 256
byte_small register place valid = search (rules, digit_at)

pub bytes_small : (register places : List ℕ) → IsRegister 14 register → AreBytes (map (byte_at register) places)
bytes_small register places valid = search (rules, All-map, byte_small)

abbrev Bytes : List ℕ → List ℕ
Bytes register = bytes_of register

pub alpha_bytes : (memory : RegisterMap) → HoldsRegisters memory → AreBytes (alpha_of memory)
alpha_bytes memory holds = search (rules, All-append, All-drop, bytes_small, held_at) depth 8

pub nulls_passed : (bytes : List ℕ) → AreBytes bytes → AreBytes (after_nulls bytes)
nulls_passed [] all = all
nulls_passed (byte ∷ bytes) all =
    chosen AreBytes (byte == 0) (after_nulls bytes) (byte ∷ bytes)
    (λ null. nulls_passed bytes (All-tail IsByte byte bytes all)) (λ other. all)

pub last_bytes : (bytes : List ℕ) → AreBytes bytes → AreBytes (last_24 bytes)
last_bytes bytes all = search (rules, All-drop, All-append, All-replicate)

-- The texts of numbers.
glyph_small : (upper : Bool) (digit : ℕ) → digit < 16 → digit_glyph upper digit < 256
glyph_small upper digit small = search (rules, chosen)

decimal_onto : (count number : ℕ) (text : List ℕ) → AreBytes text → AreBytes (digits_onto count 10 false number text)
decimal_onto zero number text all = all
decimal_onto (suc count) number text all =
    let glyph = digit_glyph false (number % 10) in
    let more = All-cons IsByte glyph text (glyph_small false (number % 10) (omega arith)) all in
    chosen AreBytes (number / 10 == 0) _ _ (λ last. more) (λ others. decimal_onto count (number / 10) (glyph ∷ text) more)

decimal_bytes : (number : ℕ) → AreBytes (decimal number)
unfolding digits
decimal_bytes number = decimal_onto 64 number [] (All-nil IsByte)

digits_bytes : (count number : ℕ) → AreBytes (digits_text count number)
digits_bytes zero number = All-nil IsByte
digits_bytes (suc count) number =
    All-append IsByte (digits_text count (number / 10)) ((48 + number % 10) ∷ []) (digits_bytes count (number / 10))
    (alone (48 + number % 10) (omega arith))

grouped_bytes : (mark : ℕ) (digits : List ℕ) → mark < 256 → AreBytes digits → AreBytes (grouped_digits mark digits)
grouped_bytes mark [] small all = all
grouped_bytes mark (digit ∷ behind) small all =
    let first = All-head IsByte digit behind all in
    let rest = grouped_bytes mark behind small (All-tail IsByte digit behind all) in
    chosen AreBytes (ends_group behind) _ _
    (λ ends. All-cons IsByte digit (mark ∷ grouped_digits mark behind) first (All-cons IsByte mark (grouped_digits mark behind) small rest))
    (λ within. All-cons IsByte digit (grouped_digits mark behind) first rest)

radix_small : (radix : RadixMark) → radix_byte radix < 256
radix_small Point = omega arith
radix_small Comma = omega arith

group_small : (radix : RadixMark) → group_byte radix < 256
group_small Point = omega arith
group_small Comma = omega arith

integer_bytes : (format : Format) (whole : ℕ) → AreBytes (integer_text format whole)
integer_bytes format whole = search (rules, chosen, grouped_bytes, group_small, decimal_bytes)

mark_bytes : (format : Format) → AreBytes (fixed_mark format)
mark_bytes format = search (rules, chosen, All-nil, alone, radix_small)

steps_bytes : (format : Format) (decimals count : ℕ) → AreBytes (steps_text format decimals count)
steps_bytes format decimals count = search (rules, All-append, integer_bytes, mark_bytes, digits_bytes)

fixed_bytes : (format : Format) (size : ℕ) → AreBytes (fixed_text format size)
unfolding fixed_text
fixed_bytes format size = steps_bytes format (fixed_decimals format.digits size) (fixed_count format.digits size)

mantissa_bytes : (radix : RadixMark) (decimals count : ℕ) → AreBytes (mantissa_text radix decimals count)
mantissa_bytes radix decimals count = search (rules, All-append, decimal_bytes, All-cons, radix_small, digits_bytes)

exponent_bytes : (exponent : ℕ) → AreBytes (exponent_text exponent)
exponent_bytes exponent = search (rules, chosen, All-cons, digits_bytes)

exponential_bytes : (radix : RadixMark) (decimals extra size : ℕ) → AreBytes (exponential_text radix decimals extra size)
exponential_bytes radix decimals extra size = search (rules, All-append, mantissa_bytes, exponent_bytes)

scientific_bytes : (format : Format) (size : ℕ) → AreBytes (scientific_text format size)
unfolding scientific_text
scientific_bytes format size =
    let decimals = mantissa_decimals format.digits in
    let shown = rounded_size decimals size in
    chosen AreBytes (size == 0) _ _ (λ none.
    All-append IsByte _ (exponent_text 108) (mantissa_bytes format.radix decimals 0) (exponent_bytes 108))
    (λ some. exponential_bytes format.radix decimals (extra_digits format.notation (exponent_of shown)) shown)

notation_bytes : (notation : Notation) (format : Format) (size : ℕ) → AreBytes (notation_text notation format size)
notation_bytes Fixed format size = search (rules, chosen, fixed_bytes, scientific_bytes)
notation_bytes Scientific format size = scientific_bytes format size
notation_bytes Engineering format size = scientific_bytes format size

sign_bytes : (sign : Sign) → AreBytes (sign_text sign)
sign_bytes Plus = All-nil IsByte
sign_bytes Minus = alone 0x2D (omega arith)

-- The text of a register as it is put into ALPHA.
turned : (register : List ℕ) → All IsDigit register → All IsDigit (reverse register)
turned register all = search (rules, All-from_get_or, length-reverse, get_or-reverse)

digits_text_bytes : (register : List ℕ) → IsRegister 14 register → AreBytes (text register)
digits_text_bytes register valid = search (rules, All-map, glyph_small, turned)

number_bytes : (format : Format) (value : ℤ) → AreBytes (number_text format value)
unfolding number_text
number_bytes format value = search (rules, All-append, sign_bytes, notation_bytes)

pub recalled_bytes : (format : Format) (register : List ℕ) (number : Option ℤ) → IsRegister 14 register
    → AreBytes (recall_text format register (holding number register))
recalled_bytes format register (Some value) valid = number_bytes format value
recalled_bytes format register None valid = search (rules, chosen, nulls_passed, bytes_small, digits_text_bytes)
