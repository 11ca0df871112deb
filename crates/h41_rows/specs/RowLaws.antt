-- Laws of the values that lines compute and of the contracts of this crate, which hold for the
-- definitions alone.
use Rattle.std.specs.Prelude.{◌≡◌, ℕ, Bool, List, Result}
use Rattle.h41_ram.specs.RegisterMap.{RegisterMap}
use Rattle.h41_rows.specs.Computing.{BringsIn, ChangesAlpha, Exchanges, IsAlways, Moved, Stores}
use Rattle.h41_rows.specs.Computing.{Tells, Took, WorksOnOne, WorksOnTwo}
use Rattle.h41_rows.specs.Rows.{AlphaChange, Condition, Takes}
use Rattle.h41_rows.specs.Values.{Computes, Value}
use Rattle.h41_rows.specs.declared.fault.LineFault.{LineFault}
use Rattle.h41_rows.specs.declared.values.ValueOfOne.{ValueOfOne}
use Rattle.h41_rows.specs.declared.values.ValueOfTwo.{ValueOfTwo}

-- A value has one register or one error.
abbrev pub ValuesAreDetermined : Type 0
ValuesAreDetermined =
    (value : Value) (memory : RegisterMap) (named : ℕ) (result other : Result (List ℕ) LineFault)
    → Computes value memory named result → Computes value memory named other → result ≡ other

-- The contract of each function of this crate determines its result, for all registers, pairs of
-- registers and tests.

-- A value of one number has one result.
abbrev pub OneIsDetermined : Type 0
OneIsDetermined =
    (value : ValueOfOne) (memory : RegisterMap) (address : ℕ)
    (result other : Result (List ℕ) LineFault)
    → WorksOnOne value memory address result → WorksOnOne value memory address other
    → result ≡ other

-- A value of two numbers has one result.
abbrev pub TwoIsDetermined : Type 0
TwoIsDetermined =
    (value : ValueOfTwo) (memory : RegisterMap) (first second : ℕ)
    (result other : Result (List ℕ) LineFault)
    → WorksOnTwo value memory first second result → WorksOnTwo value memory first second other
    → result ≡ other

-- A value that does not depend on memory has one register.
abbrev pub AlwaysIsDetermined : Type 0
AlwaysIsDetermined =
    (value : Value) (register other : List ℕ)
    → IsAlways value register → IsAlways value other → register ≡ other

-- A test has one result.
abbrev pub TestIsDetermined : Type 0
TestIsDetermined =
    (memory : RegisterMap) (condition : Condition) (result other : Result Bool LineFault)
    → Tells memory condition result → Tells memory condition other → result ≡ other

-- The memory after each function of this crate is determined, too.

-- Writing registers with a computed one has one outcome.
abbrev pub TakingIsDetermined : Type 0
TakingIsDetermined =
    (old new other : RegisterMap) (register : List ℕ) (takes : List Takes)
    → Took old new register takes → Took old other register takes → new ≡ other

-- Writing registers without a computed one has one outcome.
abbrev pub MovingIsDetermined : Type 0
MovingIsDetermined =
    (old new other : RegisterMap) (takes : List Takes) → Moved old new takes → Moved old other takes
    → new ≡ other

-- Bringing a register into X has one outcome.
abbrev pub BringingIsDetermined : Type 0
BringingIsDetermined =
    (old new other : RegisterMap) (address : ℕ) (lift : Bool)
    → BringsIn old new address lift → BringsIn old other address lift → new ≡ other

-- An exchange with X has one outcome.
abbrev pub ExchangeIsDetermined : Type 0
ExchangeIsDetermined =
    (old new other : RegisterMap) (address : ℕ)
    → Exchanges old new address → Exchanges old other address → new ≡ other

-- Storing X has one outcome.
abbrev pub StoringIsDetermined : Type 0
StoringIsDetermined =
    (old new other : RegisterMap) (address : ℕ) → Stores old new address → Stores old other address
    → new ≡ other

-- A change of ALPHA has one outcome.
abbrev pub AlphaIsDetermined : Type 0
AlphaIsDetermined =
    (old new other : RegisterMap) (change : AlphaChange)
    → ChangesAlpha old new change → ChangesAlpha old other change → new ≡ other
