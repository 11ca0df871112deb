-- What lines compute exists.
use Rattle.std.specs.Prelude.{ℕ, List}
use Rattle.h41_codes.specs.declared.characters.Character.{Character}
use Rattle.h41_numbers.specs.NumberLines.{IsNumberOf}
use Rattle.h41_ram.specs.RegisterMap.{RegisterMap}
use Rattle.h41_rows.specs.Computing.{WorksOn}
use Rattle.h41_rows.specs.Values.{Computes, Value}
use Rattle.h41_laws_words.specs.HasOne.{HasOne}

-- The characters of a number line have exactly one value.
abbrev pub NumberLineHasOneNumber : Type 0
NumberLineHasOneNumber = (text : List Character) → HasOne (IsNumberOf text)

-- A value computed from any registers has exactly one register, or one error.
abbrev pub ValueHasOneRegister : Type 0
ValueHasOneRegister = (value : Value) (memory : RegisterMap) (named : ℕ)
    → HasOne (Computes value memory named)

-- A value has exactly one answer, even if a register that must contain a number contains none.
abbrev pub ValueHasOneAnswer : Type 0
ValueHasOneAnswer = (value : Value) (memory : RegisterMap) (named : ℕ)
    → HasOne (WorksOn memory named value)
