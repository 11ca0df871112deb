-- The display format that the flags determine. It is this project's choice that flags 40 and 41
-- both set mean FIX, and that a display digit above 9 means 9; the rest follows the Owner's
-- Handbook.
use Rattle.std.specs.Prelude.{ℕ, ◌+◌, min, Bool, true, false}
use Rattle.h41_ram.specs.NamedFlags as flags
use Rattle.h41_ram.specs.RegisterMap.{RegisterMap, flag_of}
use Rattle.h41_show.specs.declared.format.Format.{Format}
use Rattle.h41_show.specs.declared.format.Notation.{Notation}
use Rattle.h41_show.specs.declared.format.Notation.TheVariants.{Fixed, Scientific, Engineering}
use Rattle.h41_show.specs.declared.format.RadixMark.{RadixMark}
use Rattle.h41_show.specs.declared.format.RadixMark.TheVariants.{Point, Comma}

-- Flag 40 means FIX and flag 41 ENG. If both are clear it is SCI, if both are set FIX.
abbrev pub notation_of : Bool → Bool → Notation
notation_of true engineering = Fixed
notation_of false true = Engineering
notation_of false false = Scientific

-- The weight of a flag if it is set, otherwise 0.
abbrev pub weight : Bool → ℕ → ℕ
weight true amount = amount
weight false amount = 0

-- The number that flags 36 to 39 form; flag 36 is its highest bit.
abbrev pub display_digit : RegisterMap → ℕ
display_digit memory =
    weight (flag_of memory flags.digits_8) 8
    + weight (flag_of memory flags.digits_4) 4
    + weight (flag_of memory flags.digits_2) 2
    + weight (flag_of memory flags.digits_1) 1

-- The radix mark is the point if flag 28 is set, otherwise the comma.
abbrev pub radix_of : Bool → RadixMark
radix_of true = Point
radix_of false = Comma

-- The format: the notation, the display digit, the radix mark, and whether digits are grouped,
-- which is flag 29.
unfoldable pub format_of : RegisterMap → Format
format_of memory = record {
  notation = notation_of (flag_of memory flags.fixed) (flag_of memory flags.engineering);
  digits = min (display_digit memory) 9;
  radix = radix_of (flag_of memory flags.decimal_point);
  grouping = flag_of memory flags.digit_grouping;
}
