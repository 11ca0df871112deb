-- A register that is brought into X, with a stack lift and without.
use Rattle.std.proofs.Common.{◌≡◌, ℕ, List, Bool, true, false, refl, rules}
use Rattle.h41_ram.specs.NamedRegisters.{with_status}
use Rattle.h41_ram.specs.RegisterMap.{RegisterMap, register_at}
use Rattle.h41_ram.specs.declared.status.StatusRegister.TheVariants as names
use Rattle.h41_rows.specs.Places.{RowPlace, X, place_address}
use Rattle.h41_rows.specs.RowEffects.{lift_takes, takes_of, with_taken}
use Rattle.h41_rows.specs.Rows.{coming_in, compute, copy}

-- Memory after a register is brought into X.
abbrev pub with_coming : RegisterMap → ℕ → List ℕ → Bool → RegisterMap
with_coming old named register lift = with_taken old named register (takes_of (coming_in (compute X)) lift) old

-- The stack is lifted, and X is written.
pub in_lifted : (old memory : RegisterMap) (named : ℕ) (register : List ℕ) (lift : Bool) → lift ≡ true
    → memory ≡ with_taken old named register lift_takes old → with_status memory names.X register ≡ with_coming old named register lift
in_lifted old memory named register lift on e = search rules

-- X alone is written.
pub in_x : (old memory : RegisterMap) (named : ℕ) (register : List ℕ) (lift : Bool) → lift ≡ false
    → memory ≡ old → with_status memory names.X register ≡ with_coming old named register lift
in_x old memory named register lift off e = search rules

-- The register of a place is brought into X like a given register.
pub from_place : (old : RegisterMap) (named : ℕ) (place : RowPlace) (register : List ℕ) (lift : Bool)
    → with_coming old named (register_at old (place_address named place)) lift
    ≡ with_taken old named register (takes_of (coming_in (copy X place)) lift) old
from_place old named place register true = refl
from_place old named place register false = refl
