-- The rows of the effects of functions: each effect has the row of its function in the list of
-- h41_rows.
use Rattle.std.specs.Prelude.{◌≡◌, ℕ, false, [], ◌∷◌}
use Rattle.h41_codes.specs.declared.functions.Function.{Function}
use Rattle.h41_codes.specs.declared.functions.Function.TheVariants as functions
use Rattle.h41_codes.specs.declared.functions.ParameterFunction.{ParameterFunction}
use Rattle.h41_codes.specs.declared.functions.ParameterFunction.TheVariants as parameters
use Rattle.h41_codes.specs.declared.line.Line.TheVariants.{Plain}
use Rattle.h41_ram.specs.NamedFlags.{alpha_mode, grads, radians}
use Rattle.h41_rows.specs.Computing.{condition_of}
use Rattle.h41_rows.specs.FunctionRows.{angles}
use Rattle.h41_rows.specs.LineRows.{change, count_row, format, into_register, register_row, row_of}
use Rattle.h41_rows.specs.Operands.{DigitKind, FlagKind, LabelKind, NoOperand, RegisterKind}
use Rattle.h41_rows.specs.Operands.{kind_of}
use Rattle.h41_rows.specs.Places.{Y, X, Named}
use Rattle.h41_rows.specs.Rows.{LineRow, Flag, lifting_row, silent_row, of_x, of_y_and_x, test}
use Rattle.h41_rows.specs.Values.{OfOne, OfTwo}
use Rattle.h41_focal.specs.declared.works.Movement.{Movement}
use Rattle.h41_focal.specs.declared.works.Movement.TheVariants as moves
use Rattle.h41_focal.specs.declared.works.AlphaWork.{AlphaWork}
use Rattle.h41_focal.specs.declared.works.AlphaWork.TheVariants as alphas
use Rattle.h41_focal.specs.declared.works.DisplayWork.{DisplayWork}
use Rattle.h41_focal.specs.declared.works.DisplayWork.TheVariants as displays
use Rattle.h41_focal.specs.declared.works.FunctionWork.{FunctionWork}
use Rattle.h41_focal.specs.declared.works.FunctionWork.TheVariants as works
use Rattle.h41_focal.specs.declared.uses.DigitsUse.{DigitsUse}
use Rattle.h41_focal.specs.declared.uses.DigitsUse.TheVariants as digits
use Rattle.h41_focal.specs.declared.uses.FlagUse.{FlagUse}
use Rattle.h41_focal.specs.declared.uses.FlagUse.TheVariants as flags
use Rattle.h41_focal.specs.declared.uses.RegisterUse.{RegisterUse}
use Rattle.h41_focal.specs.declared.uses.RegisterUse.TheVariants as registers
use Rattle.h41_focal.specs.declared.uses.OperandUse.{OperandUse}
use Rattle.h41_focal.specs.declared.uses.OperandUse.TheVariants as uses

-- The row of a function without an operand.
abbrev pub plain_row : Function → LineRow
plain_row function = row_of (Plain function) NoOperand

-- The row of a change of the stack.
abbrev pub move_row : Movement → LineRow
move_row moves.Exchange = plain_row functions.ExchangeXY
move_row moves.RollUp = plain_row functions.RollUp
move_row moves.RollDown = plain_row functions.RollDown
move_row moves.LastX = plain_row functions.LastX
move_row moves.Enter = plain_row functions.Enter
move_row moves.Pi = plain_row functions.Pi
move_row moves.ClearStack = plain_row functions.ClearStack
move_row moves.ClearX = plain_row functions.ClearX

-- The row of a change of ALPHA or of ALPHA mode.
abbrev pub alpha_row : AlphaWork → LineRow
alpha_row alphas.Clear = plain_row functions.ClearAlpha
alpha_row alphas.Shift = plain_row functions.ShiftAlpha
alpha_row (alphas.Mode on) = record lifting_row { flags = change alpha_mode on ∷ [] }

-- The row of a change of the display, or of a stop.
abbrev pub display_row : DisplayWork → LineRow
display_row displays.ViewAlpha = plain_row functions.ViewAlpha
display_row displays.Clear = plain_row functions.ClearDisplay
display_row displays.Prompt = plain_row functions.Prompt
display_row displays.Stop = plain_row functions.Stop
display_row displays.TurnOff = plain_row functions.TurnOff

-- The row of each effect.
abbrev pub row_of_work : FunctionWork → LineRow
row_of_work (works.OfYAndX value) = of_y_and_x (OfTwo value Y X)
row_of_work (works.OfX value) = of_x (OfOne value X)
row_of_work works.Square = plain_row functions.Square
row_of_work works.Percent = plain_row functions.Percent
row_of_work works.ChangeSign = plain_row functions.ChangeSign
row_of_work (works.Ask asked) = test (condition_of asked)
row_of_work (works.Move movement) = move_row movement
row_of_work (works.Alpha work) = alpha_row work
row_of_work (works.Display work) = display_row work
row_of_work (works.Angles in_grads in_radians) =
    angles (change grads in_grads) (change radians in_radians)
row_of_work works.ClearRegisters = plain_row functions.ClearRegisters
row_of_work works.Return = plain_row functions.Return
row_of_work works.Nothing = lifting_row

-- The row of a function with a register.
abbrev pub register_use_row : RegisterUse → LineRow
register_use_row registers.Recall = register_row parameters.Recall
register_use_row registers.Store = register_row parameters.Store
register_use_row (registers.Combine value) = into_register (OfTwo value Named X)
register_use_row registers.CountUp = register_row parameters.IncrementSkip
register_use_row registers.CountDown = register_row parameters.DecrementSkip
register_use_row registers.View = register_row parameters.View
register_use_row registers.StoreAlpha = register_row parameters.StoreAlpha
register_use_row registers.RecallAlpha = register_row parameters.RecallAlpha
register_use_row registers.Exchange = register_row parameters.Exchange

-- The row of a function with a number of digits.
abbrev pub digits_use_row : DigitsUse → ℕ → LineRow
digits_use_row (digits.Format fixed engineering) n = format n fixed engineering
digits_use_row digits.Tone n = count_row parameters.Tone n

-- The row of a function with a flag.
abbrev pub flag_use_row : FlagUse → ℕ → LineRow
flag_use_row (flags.Change on) n = record lifting_row { flags = change n on ∷ [] }
flag_use_row (flags.Ask on) n = test (Flag n on)
flag_use_row (flags.AskAndClear on) n = record (test (Flag n on)) { flags = change n false ∷ [] }

-- The highest flag that a function accepts.
abbrev pub highest_of : FlagUse → ℕ
highest_of (flags.Change on) = 29
highest_of (flags.Ask on) = 55
highest_of (flags.AskAndClear on) = 29

-- The effect of a function with an operand has the function's kind of operand and its row.
abbrev pub IsUse : ParameterFunction → OperandUse → Type 0
IsUse function (uses.Register taken) =
    (kind_of function ≡ RegisterKind) × (register_row function ≡ register_use_row taken)
IsUse function (uses.Digits taken) =
    (kind_of function ≡ DigitKind) × ((n : ℕ) → count_row function n ≡ digits_use_row taken n)
IsUse function (uses.Flag taken) =
    (kind_of function ≡ FlagKind (highest_of taken))
    × ((n : ℕ) → count_row function n ≡ flag_use_row taken n)
IsUse function uses.Label = (kind_of function ≡ LabelKind) × (register_row function ≡ silent_row)
