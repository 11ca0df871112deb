-- The canonical line is the shortest spelling of a line, without the bits that only the calculator
-- uses.
use Rattle.std.specs.Prelude.{ℕ, false, nat_lt, if◌then◌else◌}
use Rattle.h41_codes.specs.declared.functions.ParameterFunction.{ParameterFunction}
use Rattle.h41_codes.specs.declared.functions.ParameterFunction.TheVariants.{Recall, Store, Label}
use Rattle.h41_codes.specs.declared.functions.RegisterFunction.TheVariants.{RecallRegister}
use Rattle.h41_codes.specs.declared.functions.RegisterFunction.TheVariants.{StoreRegister}
use Rattle.h41_codes.specs.declared.functions.Branch.{Branch}
use Rattle.h41_codes.specs.declared.functions.Branch.TheVariants.{GoTo, Execute}
use Rattle.h41_codes.specs.declared.line.Operand.{Operand}
use Rattle.h41_codes.specs.declared.line.Operand.TheVariants.{Direct}
use Rattle.h41_codes.specs.declared.line.Line.{Line}
use Rattle.h41_codes.specs.declared.line.Line.TheVariants.{LocalLabel, Register, WithOperand}
use Rattle.h41_codes.specs.declared.line.Line.TheVariants.{ShortGoTo, GlobalLabel, End, FinalEnd}
use Rattle.h41_codes.specs.declared.line.Line.TheVariants.{BranchTo}
use Rattle.h41_codes.specs.Counts.{short_label_count, short_register_count}

-- RCL and STO of the registers 00 to 15 and LBL 00 to LBL 14 take one byte.
abbrev pub shortest_function : ParameterFunction → Operand → Line
shortest_function Recall (Direct register) =
    if nat_lt register short_register_count then Register RecallRegister register
    else WithOperand Recall (Direct register)
shortest_function Store (Direct register) =
    if nat_lt register short_register_count then Register StoreRegister register
    else WithOperand Store (Direct register)
shortest_function Label (Direct label) =
    if nat_lt label short_label_count then LocalLabel label else WithOperand Label (Direct label)
shortest_function function operand = WithOperand function operand

-- GTO 00 to GTO 14 take two bytes. The distance is 0.
abbrev pub shortest_branch : Branch → ℕ → Line
shortest_branch GoTo label =
    if nat_lt label short_label_count then ShortGoTo label 0 else BranchTo GoTo 0 false label
shortest_branch Execute label = BranchTo Execute 0 false label

-- The canonical line.
abbrev pub canonical_line : Line → Line
canonical_line (WithOperand function operand) = shortest_function function operand
canonical_line (BranchTo branch distance backwards label) = shortest_branch branch label
-- distances, links, keys and status bits are 0: END is C0 00 00, .END. is C0 00 20
canonical_line (ShortGoTo label distance) = ShortGoTo label 0
canonical_line (GlobalLabel link key name) = GlobalLabel 0 0 name
canonical_line (End link marks) = End 0 0
canonical_line (FinalEnd link marks) = FinalEnd 0 0
-- all other lines are unchanged
canonical_line line = line
