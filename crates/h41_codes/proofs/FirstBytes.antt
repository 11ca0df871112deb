-- What the first byte of a line says: whether it is a number, and whether it is the null.
use Rattle.std.proofs.Common.{◌≡◌, ℕ, ◌/◌, ◌≤◌, List, [], ◌∷◌, ◌++◌, refl, ap, arith}
use Rattle.h41_codes.specs.declared.functions.ParameterFunction.{ParameterFunction}
use Rattle.h41_codes.specs.declared.functions.ParameterFunction.TheVariants.{Recall}
use Rattle.h41_codes.specs.declared.line.Line.{Line}
use Rattle.h41_codes.specs.declared.line.Line.TheVariants.{Null, LocalLabel, Number, Named, Register, Plain, WithOperand, BranchTo}
use Rattle.h41_codes.specs.Codes.{parameter_function_code}
use Rattle.h41_codes.specs.ByteGrammar.{spelling, IsLine, GoesOn}
use Rattle.h41_codes.specs.ByteLaws.{IsNumber, NumberBegins, NullBegins}
use Rattle.h41_codes.proofs.Reading.{byte, name_function_range, register_range, branch_range}
use Rattle.h41_codes.proofs.Tables.{function_range, character_range}

operand_range : (function : ParameterFunction) → 0x90 ≤ parameter_function_code function
operand_range Recall = omega arith
operand_range function = omega arith

-- The first byte of a number is 10 to 1C, and that of any other line is not.
goes : (line : Line) (rest : List ℕ) → IsLine line → IsNumber line → GoesOn (spelling line ++ rest)
goes (Number []) rest valid is = absurd (omega (arith, valid.0))
goes (Number (character ∷ characters)) rest valid is = character_range character
goes Null rest valid is = absurd is
goes line rest valid is = absurd is

stops : (line : Line) (rest : List ℕ) → IsLine line → GoesOn (spelling line ++ rest) → IsNumber line
stops Null rest valid on = absurd (omega (arith, on.0))
stops (LocalLabel label) rest valid on = absurd (omega (arith, on.0, valid))
stops (Number characters) rest valid on = tt
stops (Named function name) rest valid on = absurd (omega (arith, on.1, (name_function_range function).0))
stops (Register function register) rest valid on = absurd (omega (arith, on.1, (register_range function register valid).0))
stops (Plain function) rest valid on = absurd (omega (arith, on.1, (function_range function).0))
stops (WithOperand function operand) rest valid on = absurd (omega (arith, on.1, operand_range function))
stops (BranchTo branch distance backwards label) rest valid on =
    absurd (omega (arith, on.1, (branch_range branch (distance / 256) (omega (arith, valid.0))).0))
stops line rest valid on = absurd (omega (arith, on.1))

pub number_begins : NumberBegins
number_begins line rest valid = (stops line rest valid, goes line rest valid)

-- No other line begins with the byte of the null.
only_null : (line : Line) (rest : List ℕ) → IsLine line → byte (spelling line ++ rest) 0 ≡ 0x00 → line ≡ Null
only_null Null rest valid null = refl
only_null (Number []) rest valid null = absurd (omega (arith, valid.0))
only_null (Number (character ∷ characters)) rest valid null = absurd (omega (arith, null, (character_range character).0))
only_null (Named function name) rest valid null = absurd (omega (arith, null, (name_function_range function).0))
only_null (Register function register) rest valid null = absurd (omega (arith, null, (register_range function register valid).0))
only_null (Plain function) rest valid null = absurd (omega (arith, null, (function_range function).0))
only_null (WithOperand function operand) rest valid null = absurd (omega (arith, null, operand_range function))
only_null (BranchTo branch distance backwards label) rest valid null =
    absurd (omega (arith, null, (branch_range branch (distance / 256) (omega (arith, valid.0))).0))
only_null line rest valid null = absurd (omega (arith, null))

pub null_begins : NullBegins
null_begins line rest valid = (only_null line rest valid, λ null. ap (λ (l : Line). byte (spelling l ++ rest) 0) null)
