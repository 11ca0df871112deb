-- Definitions for the private functions that read registers and operands.
use Rattle.std.specs.Prelude.{◌≡◌, ℕ, ◌+ℤ◌, Result}
use Rattle.std.specs.Result.{result_map_both}
use Rattle.h41_decimal.specs.NearestDecimal.{Nearest}
use Rattle.h41_decimal.specs.Signs.{with_sign}
use Rattle.h41_decimal.specs.declared.fault.DecimalFault.{DecimalFault}
use Rattle.h41_decimal.specs.declared.sign.Sign.{Sign}
use Rattle.h41_decimal.specs.declared.ten.Ten.{Ten}
use Rattle.h41_ram.specs.RegisterMap.{RegisterMap}
use Rattle.h41_rows.specs.Computing.{meant_by}
use Rattle.h41_rows.specs.private.Counting.{with_ones}
use Rattle.h41_rows.specs.Operands.{Meant, data_register, parameter_register, then_find, whole_at}
use Rattle.h41_rows.specs.private.Wholes.{told_number}
use Rattle.h41_rows.specs.declared.fault.LineFault.{LineFault}
use Rattle.h41_rows.specs.declared.operands.BranchTarget.{BranchTarget}

-- A whole number with all from 1000 on treated as 1000, or its error.
abbrev pub IsTold : Result ℕ LineFault → Result ℕ LineFault → Type 0
IsTold found result = result ≡ result_map_both told_number (λ fault. fault) found

-- The whole number in the register of a parameter.
abbrev pub number_found : RegisterMap → ℕ → Result ℕ LineFault
number_found memory parameter = then_find (parameter_register memory parameter) (whole_at memory)

-- The data register whose number is in the register of a parameter.
abbrev pub register_found : RegisterMap → ℕ → Result ℕ LineFault
register_found memory parameter = then_find (number_found memory parameter) (data_register memory)

-- The target of a branch, by the meaning of its operand.
abbrev pub LeadsTo : Result Meant LineFault → Result BranchTarget LineFault → Type 0
LeadsTo target result = result_map_both meant_by (λ fault. fault) result ≡ target

-- A counter with this integer part and fraction, after counting.
abbrev pub IsCounted : (sign : Sign) (ones : ℕ) (direction : Sign) (count fraction : ℕ)
    → Result Ten DecimalFault → Type 0
IsCounted sign ones direction count fraction result =
    Nearest (with_ones (with_sign sign ones +ℤ with_sign direction count) fraction) 1 result
