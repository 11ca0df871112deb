-- The lines that this bench does not support, which is this project's choice.
use Rattle.std.specs.Prelude.{ℕ, Bool, true, false, ◌&&◌, ◌||◌, nat_le, is_none}
use Rattle.h41_codes.specs.declared.functions.NameFunction.TheVariants.{Wordless}
use Rattle.h41_codes.specs.declared.functions.ParameterFunction.{ParameterFunction}
use Rattle.h41_codes.specs.declared.functions.ParameterFunction.TheVariants.{Label}
use Rattle.h41_codes.specs.declared.functions.ParameterFunction.TheVariants.{StatisticsRegisters}
use Rattle.h41_codes.specs.declared.line.Line.{Line}
use Rattle.h41_codes.specs.declared.line.Line.TheVariants.{BranchIndirect, Named, Plain}
use Rattle.h41_codes.specs.declared.line.Line.TheVariants.{WithOperand}
use Rattle.h41_codes.specs.declared.line.Operand.{Operand}
use Rattle.h41_codes.specs.declared.line.Operand.TheVariants.{Direct, Indirect}
use Rattle.h41_rows.specs.FunctionRows.{function_row}

-- Registers 100 and above and M to e are not supported, by their numbers in a line's bytes. 112 to
-- 116 are T, Z, Y, X and L.
abbrev pub is_parameter_left_out : ℕ → Bool
is_parameter_left_out parameter =
    (nat_le 100 parameter && nat_le parameter 111) || nat_le 117 parameter

-- An operand is not supported if its register is not.
abbrev pub is_operand_left_out : Operand → Bool
is_operand_left_out (Direct parameter) = is_parameter_left_out parameter
is_operand_left_out (Indirect parameter) = is_parameter_left_out parameter

-- The statistics registers are not supported, nor are lines with registers that are not supported.
-- A label has no register.
abbrev pub is_use_left_out : ParameterFunction → Operand → Bool
is_use_left_out StatisticsRegisters operand = true
is_use_left_out Label operand = false
is_use_left_out function operand = is_operand_left_out operand

-- A line that is not supported.
abbrev pub is_left_out : Line → Bool
is_left_out (Plain function) = is_none (function_row function)
is_left_out (WithOperand function operand) = is_use_left_out function operand
is_left_out (BranchIndirect branch register) = is_parameter_left_out register
is_left_out (Named Wordless name) = true
is_left_out line = false
