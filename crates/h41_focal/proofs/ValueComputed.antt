-- A row that computes a value and continues at the next line has the value's result.
use Rattle.std.proofs.Common.{◌≡◌, ℕ, List, Result, Some, append-nil}
use Rattle.h41_rows.specs.Computing.{WorksOn}
use Rattle.h41_focal.specs.LineStep.{Works}
use Rattle.h41_rows.specs.Rows.{LineRow, places_in_value}
use Rattle.h41_rows.specs.Rows as rows
use Rattle.h41_rows.specs.Values.{Value}
use Rattle.h41_rows.specs.declared.fault.LineFault.{LineFault}
use Rattle.h41_ram.specs.RegisterMap.{RegisterMap}

pub value_computed :
    (memory : RegisterMap) (named : ℕ) (row : LineRow) (value : Value) (result : Result (List ℕ) LineFault)
    → row.value ≡ Some value
    → row.goes ≡ rows.Next
    → WorksOn memory named value result
    → Works memory named row result
value_computed memory named row value result computes goes works = rw (computes, goes, append-nil (places_in_value value)) works
