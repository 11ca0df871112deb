-- Hexadecimal digits read back: as a word, as an address and as a displacement.
use Rattle.std.proofs.Common.{◌≡◌, ℕ, ◌+◌, ◌-◌, ◌<◌, pos, negsuc, true, Some, refl, arith}
use Rattle.std.specs.Fmt.{digit_glyph}
use Rattle.std.specs.List.{list_all}
use Rattle.std.proofs.lemmas.Bool.{agree_below_at, lt-ltb, ne_eqb}
use Rattle.h41_digits.specs.Register.{hexadecimal_text}
use Rattle.h41_words.specs.Mnemonics.{displacement_text}
use Rattle.h41_asm.specs.Operands.{address_in, word_in, displacement_in}
use Rattle.h41_lines.proofs.HexadecimalDigits.{passes_all, all_hexadecimal, read_hexadecimal}
use Rattle.h41_laws_words.proofs.ListingWords.{is_solid}

solid_glyph : passes_all is_solid
solid_glyph digit inside = agree_below_at (λ d. is_solid (digit_glyph true d)) (λ _. true) 16 digit refl inside

pub solid_hexadecimal : (count number : ℕ) → list_all is_solid (hexadecimal_text count number) ≡ true
solid_hexadecimal = all_hexadecimal is_solid solid_glyph

pub read_address : (address : ℕ) → address < 0x10000 → address_in (hexadecimal_text 4 address) ≡ Some address
read_address address inside = read_hexadecimal 4 address (omega arith) inside

pub read_word : (word : ℕ) → word < 1024 → word_in (hexadecimal_text 3 word) ≡ Some word
read_word word inside = rw (read_hexadecimal 3 word (omega arith) (omega arith), lt-ltb word 1024 inside) refl

pub read_forward : (words : ℕ) → words < 64 → displacement_in (displacement_text (pos words)) ≡ Some (pos words)
read_forward words inside = rw (read_hexadecimal 2 words (omega arith) (omega arith)) refl

pub read_backward : (words : ℕ) → words < 64 → displacement_in (displacement_text (negsuc words)) ≡ Some (negsuc words)
read_backward words inside =
    let less : words + 1 - 1 ≡ words = omega arith in
    rw (read_hexadecimal 2 (words + 1) (omega arith) (omega arith), ne_eqb (words + 1) 0 (λ none. omega arith), less) refl
