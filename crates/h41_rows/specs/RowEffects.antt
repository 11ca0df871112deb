-- The effect of a row on memory. All registers are read from memory as it was before the line. What
-- a row does not name is unchanged.
use Rattle.std.specs.Prelude.{ℕ, ◌-◌, Bool, true, false, not, ◌&&◌, List, [], ◌∷◌, ◌++◌, map}
use Rattle.std.specs.Prelude.{length, take, drop, replicate, nat_lt, int_le, int_lt, if◌then◌else◌}
use Rattle.std.specs.Prelude.{Option, Some, None, ℤ, pos}
use Rattle.std.specs.List.{range_with_len}
use Rattle.std.specs.Str.{bytes_eq}
use Rattle.h41_decimal.specs.Holding.{Holding, Number, Text, Other, after_nulls, holding_of}
use Rattle.h41_digits.specs.Register.{text}
use Rattle.h41_rows.specs.Counters.{goes_on}
use Rattle.h41_rows.specs.Places.{place_address, register_in, amount_in, T, Z, Y, X}
use Rattle.h41_rows.specs.Rows as rows
use Rattle.h41_ram.specs.RegisterMap.{RegisterMap, alpha_of, curtain_of, digits_from, flag_of}
use Rattle.h41_ram.specs.RegisterMap.{main_start, register_at, with_alpha, with_flag, with_register}
use Rattle.h41_ram.specs.RegisterMap.{zeros}
use Rattle.h41_show.specs.DisplayFormat.{format_of}
use Rattle.h41_show.specs.NumberText.{number_text}
use Rattle.h41_show.specs.declared.format.Format.{Format}

-- ALPHA data of at most six characters: 1 in place 13, 0 in place 12, and the characters at the
-- right.
abbrev pub text_register : List ℕ → List ℕ
text_register characters =
    digits_from (replicate (6 - length characters) 0x00 ++ characters) (0 ∷ 1 ∷ 2 ∷ 3 ∷ 4 ∷ 5 ∷ [])
    ++ 0x0 ∷ 0x1 ∷ []

-- The first six characters of ALPHA. Leading nulls are not characters.
abbrev pub six_characters : RegisterMap → List ℕ
six_characters memory = take 6 (after_nulls (alpha_of memory))

-- The register that a place receives.
abbrev pub taken_from : RegisterMap → ℕ → List ℕ → rows.RegisterSource → List ℕ
taken_from memory named result (rows.From place) = register_in memory named place
taken_from memory named result rows.Result = result
taken_from memory named result rows.SixCharacters = text_register (six_characters memory)

-- A stack lift: T receives Z, Z receives Y, Y receives X.
abbrev pub lift_takes : List rows.Takes
lift_takes = rows.copy T Z ∷ rows.copy Z Y ∷ rows.copy Y X ∷ []

-- All places that receive registers, including those of a stack lift.
abbrev pub takes_of : rows.LineRow → Bool → List rows.Takes
takes_of row lift = if row.lifts && lift then lift_takes ++ row.takes else row.takes

-- Registers are written in turn. They are read from memory as it was before the first of them.
abbrev pub with_taken : RegisterMap → ℕ → List ℕ → List rows.Takes → RegisterMap → RegisterMap
with_taken old named result [] memory = memory
with_taken old named result (taken ∷ others) memory =
    with_taken old named result others (with_register memory
    (place_address named taken.place) (taken_from old named result taken.source))

-- A register of main memory is zero if it is a data register, that is at the curtain or above.
abbrev pub cleared_register : RegisterMap → ℕ → List ℕ
cleared_register memory address =
    if nat_lt address (curtain_of memory) then register_at memory address else zeros

-- Memory with zero in all data registers.
abbrev pub with_cleared_data : RegisterMap → RegisterMap
with_cleared_data memory = record memory {
  main = map (cleared_register memory) (range_with_len main_start (length memory.main));
}

-- Memory with zero in all data registers if the row clears them.
abbrev pub with_data_if : Bool → RegisterMap → RegisterMap
with_data_if clears memory = if clears then with_cleared_data memory else memory

-- The 24 bytes of ALPHA for a text: its last 24 characters. If there are fewer, nulls precede them.
abbrev pub last_24 : List ℕ → List ℕ
last_24 characters = drop (length characters) (replicate 24 0x00 ++ characters)

-- The text of a register that is appended to ALPHA: a number as the display shows it, ALPHA data as
-- its characters, a register that is neither as its digits (this project's choice).
abbrev pub recall_text : Format → List ℕ → Holding → List ℕ
recall_text format register (Number value) = number_text format value
recall_text format register (Text characters) = characters
recall_text format register Other = text register

-- The text of the register at an address.
abbrev pub recalled_text : RegisterMap → ℕ → List ℕ
recalled_text memory named =
    recall_text (format_of memory) (register_at memory named)
    (holding_of (register_at memory named))

-- ALPHA after a change.
abbrev pub alpha_after : RegisterMap → ℕ → rows.AlphaChange → List ℕ
alpha_after memory named (rows.Becomes characters) = last_24 characters
alpha_after memory named (rows.Appends characters) = last_24 (alpha_of memory ++ characters)
alpha_after memory named rows.AppendsNamed = last_24 (alpha_of memory ++ recalled_text memory named)
alpha_after memory named rows.LosesSix = last_24 (drop 6 (after_nulls (alpha_of memory)))

-- Memory after a change of ALPHA, if there is one.
abbrev pub with_alpha_change : RegisterMap → ℕ → Option rows.AlphaChange → RegisterMap → RegisterMap
with_alpha_change old named None memory = memory
with_alpha_change old named (Some change) memory = with_alpha memory (alpha_after old named change)

-- Memory after flags are set or cleared.
abbrev pub with_flags : List rows.FlagChange → RegisterMap → RegisterMap
with_flags [] memory = memory
with_flags (change ∷ changes) memory = with_flags changes (with_flag memory change.flag change.on)

-- Memory after a row, given the address of the register that the line names, the computed register,
-- and whether stack lift was on.
abbrev pub memory_after : rows.LineRow → ℕ → List ℕ → Bool → RegisterMap → RegisterMap
memory_after row named result lift memory =
    with_flags row.flags
    (with_alpha_change memory named row.alpha
    (with_data_if row.clears_data (with_taken memory named result (takes_of row lift) memory)))

-- Whether stack lift is on after a row.
abbrev pub lift_after : rows.Lift → Bool → Bool
lift_after rows.On lift = true
lift_after rows.Off lift = false
lift_after rows.AsItWas lift = lift

-- The register that a test compares. Zero is a register of zeros.
abbrev pub term_register : RegisterMap → ℕ → rows.Term → List ℕ
term_register memory named (rows.In place) = register_in memory named place
term_register memory named rows.Nought = zeros

-- The number that a test compares.
abbrev pub term_amount : RegisterMap → ℕ → rows.Term → ℤ
term_amount memory named (rows.In place) = amount_in memory named place
term_amount memory named rows.Nought = pos 0

-- Whether two truth values are equal.
abbrev pub agrees : Bool → Bool → Bool
agrees true other = other
agrees false other = not other

-- Whether a condition is true in memory as it was before the line.
abbrev pub holds_in : RegisterMap → ℕ → rows.Condition → Bool
holds_in memory named (rows.Same a b) =
    bytes_eq (term_register memory named a) (term_register memory named b)
holds_in memory named (rows.Differ a b) =
    not (bytes_eq (term_register memory named a) (term_register memory named b))
holds_in memory named (rows.Below a b) =
    int_lt (term_amount memory named a) (term_amount memory named b)
holds_in memory named (rows.AtMost a b) =
    int_le (term_amount memory named a) (term_amount memory named b)
holds_in memory named (rows.Flag flag on) = agrees on (flag_of memory flag)
holds_in memory named (rows.Loops way place) = goes_on way (amount_in memory named place)
