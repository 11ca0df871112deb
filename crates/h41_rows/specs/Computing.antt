-- The contracts of this crate's functions: a value by the addresses of its numbers, a test by its
-- name, and registers that are written.
use Rattle.std.specs.Prelude.{◌≡◌, ℕ, Bool, List, [], ◌∷◌, MatchBool, Some, Result, Ok, Err, ℤ, pos}
use Rattle.std.specs.Option.{option_map_or}
use Rattle.h41_decimal.specs.Holding.{holding_of, worth}
use Rattle.h41_ram.specs.NamedFlags.{range_ignore}
use Rattle.h41_ram.specs.RegisterMap.{RegisterMap, flag_of, register_at}
use Rattle.h41_rows.specs.Operands.{Meant, Count, Name}
use Rattle.h41_rows.specs.Places.{RowPlace, are_numbers, place_address, register_in}
use Rattle.h41_rows.specs.RowEffects.{holds_in, takes_of, with_alpha_change, with_taken}
use Rattle.h41_rows.specs.Rows.{AlphaChange, Condition, Takes, coming_in, compute, copy}
use Rattle.h41_rows.specs.Rows.{places_in_condition, places_in_value}
use Rattle.h41_rows.specs.Rows as rows
use Rattle.h41_rows.specs.Places as places
use Rattle.h41_rows.specs.Values.{Value, Computes, OfOne, OfTwo}
use Rattle.h41_rows.specs.declared.conditions.Test.{Test}
use Rattle.h41_rows.specs.declared.conditions.Test.TheVariants as tests
use Rattle.h41_rows.specs.declared.fault.LineFault.{LineFault}
use Rattle.h41_rows.specs.declared.fault.LineFault.TheVariants.{AlphaData}
use Rattle.h41_rows.specs.declared.operands.BranchTarget.{BranchTarget}
use Rattle.h41_rows.specs.declared.operands.BranchTarget.TheVariants as targets
use Rattle.h41_rows.specs.declared.values.ValueOfOne.{ValueOfOne}
use Rattle.h41_rows.specs.declared.values.ValueOfTwo.{ValueOfTwo}

-- A value is computed if its places contain numbers, otherwise the result is ALPHA DATA.
abbrev pub WorksOn : RegisterMap → ℕ → Value → Result (List ℕ) LineFault → Type 0
WorksOn memory named value result =
    MatchBool (are_numbers memory named (places_in_value value))
    (Computes value memory named result) (result ≡ Err AlphaData)

-- The value is computed from the register at this address, whatever name its place has.
abbrev pub WorksOnOne : ValueOfOne → RegisterMap → ℕ → Result (List ℕ) LineFault → Type 0
WorksOnOne value memory address result =
    (named : ℕ) (a : RowPlace)
    → place_address named a ≡ address → WorksOn memory named (OfOne value a) result

-- The value is computed from the registers at these two addresses, whatever memory they are in and
-- whatever names their places have. Besides them, only flag 24 affects the result. Any two
-- registers are in some such memory.
abbrev pub WorksOnTwo : ValueOfTwo → RegisterMap → ℕ → ℕ → Result (List ℕ) LineFault → Type 0
WorksOnTwo value memory first second result =
    (other : RegisterMap) (named : ℕ) (a b : RowPlace)
    → register_in other named a ≡ register_at memory first
    → register_in other named b ≡ register_at memory second
    → flag_of other range_ignore ≡ flag_of memory range_ignore
    → WorksOn other named (OfTwo value a b) result

-- A value that does not depend on memory.
abbrev pub IsAlways : Value → List ℕ → Type 0
IsAlways value register =
    (memory : RegisterMap) (named : ℕ) → Computes value memory named (Ok register)

-- The number in the register at an address, or zero if it contains none.
abbrev pub amount_at : RegisterMap → ℕ → ℤ
amount_at memory address =
    option_map_or (λ number. number) (worth (holding_of (register_at memory address))) (pos 0)

-- The conditions of the tests.
abbrev pub condition_of : Test → Condition
condition_of tests.XEqualsY = rows.Same (rows.In places.X) (rows.In places.Y)
condition_of tests.XDiffersFromY = rows.Differ (rows.In places.X) (rows.In places.Y)
condition_of tests.XLessThanY = rows.Below (rows.In places.X) (rows.In places.Y)
condition_of tests.XGreaterThanY = rows.Below (rows.In places.Y) (rows.In places.X)
condition_of tests.XAtMostY = rows.AtMost (rows.In places.X) (rows.In places.Y)
condition_of tests.XZero = rows.Same (rows.In places.X) rows.Nought
condition_of tests.XNotZero = rows.Differ (rows.In places.X) rows.Nought
condition_of tests.XPositive = rows.Below rows.Nought (rows.In places.X)
condition_of tests.XNegative = rows.Below (rows.In places.X) rows.Nought
condition_of tests.XAtMostZero = rows.AtMost (rows.In places.X) rows.Nought

-- A test that compares numbers gives ALPHA DATA if a register contains none.
abbrev pub Tells : RegisterMap → Condition → Result Bool LineFault → Type 0
Tells memory condition result =
    (named : ℕ)
    → MatchBool (are_numbers memory named (places_in_condition condition))
    (result ≡ Ok (holds_in memory named condition)) (result ≡ Err AlphaData)

-- Registers are written with what memory contained before, whatever register the line names.
abbrev pub Took : (old new : RegisterMap) → List ℕ → List Takes → Type 0
Took old new register takes = (named : ℕ) → new ≡ with_taken old named register takes old

-- The meaning of the target of GTO IND or XEQ IND.
abbrev pub meant_by : BranchTarget → Meant
meant_by (targets.Label label) = Count label
meant_by (targets.Name name) = Name name

-- X receives the register at this address. If stack lift is on, the stack is lifted first.
abbrev pub BringsIn : (old new : RegisterMap) → ℕ → Bool → Type 0
BringsIn old new address lift =
    (named : ℕ) (place : RowPlace) (register : List ℕ) → place_address named place ≡ address
    → new ≡ with_taken old named register (takes_of (coming_in (copy places.X place)) lift) old

-- X and the register at this address are exchanged.
abbrev pub Exchanges : (old new : RegisterMap) → ℕ → Type 0
Exchanges old new address =
    (named : ℕ) (place : RowPlace) (register : List ℕ) → place_address named place ≡ address
    → new ≡ with_taken old named register (copy places.X place ∷ copy place places.X ∷ []) old

-- The register at this address receives X.
abbrev pub Stores : (old new : RegisterMap) → ℕ → Type 0
Stores old new address =
    (named : ℕ) (place : RowPlace) (register : List ℕ) → place_address named place ≡ address
    → new ≡ with_taken old named register (copy place places.X ∷ []) old

-- Registers are written and no value is computed.
abbrev pub Moved : (old new : RegisterMap) → List Takes → Type 0
Moved old new takes = (register : List ℕ) → Took old new register takes

-- The only change of memory is this change of ALPHA. It is the same for each register that a line
-- may name.
abbrev pub ChangesAlpha : (old new : RegisterMap) → AlphaChange → Type 0
ChangesAlpha old new change = (named : ℕ) → new ≡ with_alpha_change old named (Some change) old

-- The stack drops, and X receives the computed register.
abbrev pub drop_takes : List Takes
drop_takes =
    compute places.X ∷ copy places.Y places.Z ∷ copy places.Z places.T ∷ copy places.LastX places.X
    ∷ []

-- The whole stack receives the computed register.
abbrev pub whole_stack : List Takes
whole_stack = compute places.T ∷ compute places.Z ∷ compute places.Y ∷ compute places.X ∷ []
