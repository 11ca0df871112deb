-- The numbers of the flags that the calculator itself uses, from the Owner's Handbook.
use Rattle.std.specs.Prelude.{ℕ}

-- A number was typed.
abbrev pub number_entry : ℕ
number_entry = 22

-- A letter was typed into ALPHA.
abbrev pub alpha_entry : ℕ
alpha_entry = 23

-- A result that is out of range is no error.
abbrev pub range_ignore : ℕ
range_ignore = 24

-- The next error is ignored.
abbrev pub error_ignore : ℕ
error_ignore = 25

-- Tones sound.
abbrev pub audio_enable : ℕ
audio_enable = 26

-- The radix mark is the point.
abbrev pub decimal_point : ℕ
decimal_point = 28

-- The digits before the radix mark are separated into groups of three.
abbrev pub digit_grouping : ℕ
digit_grouping = 29

-- The bit of weight 8 of the display digit.
abbrev pub digits_8 : ℕ
digits_8 = 36

-- The bit of weight 4 of the display digit.
abbrev pub digits_4 : ℕ
digits_4 = 37

-- The bit of weight 2 of the display digit.
abbrev pub digits_2 : ℕ
digits_2 = 38

-- The bit of weight 1 of the display digit.
abbrev pub digits_1 : ℕ
digits_1 = 39

-- Numbers are shown in FIX.
abbrev pub fixed : ℕ
fixed = 40

-- Numbers are shown in ENG.
abbrev pub engineering : ℕ
engineering = 41

-- Angles are in grads.
abbrev pub grads : ℕ
grads = 42

-- Angles are in radians.
abbrev pub radians : ℕ
radians = 43

-- ALPHA is shown, and keys type letters.
abbrev pub alpha_mode : ℕ
alpha_mode = 48
