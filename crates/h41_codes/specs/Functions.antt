-- Lists of the functions and characters of the byte table, in the order of their codes.
use Rattle.std.specs.Prelude.{List, [], ◌∷◌}
use Rattle.h41_codes.specs.declared.functions.Function.{Function}
use Rattle.h41_codes.specs.declared.functions.Function.TheVariants.{Add, Subtract, Multiply, Divide}
use Rattle.h41_codes.specs.declared.functions.Function.TheVariants.{TestXLessThanY}
use Rattle.h41_codes.specs.declared.functions.Function.TheVariants.{TestXGreaterThanY, TestXAtMostY}
use Rattle.h41_codes.specs.declared.functions.Function.TheVariants.{AddStatistics}
use Rattle.h41_codes.specs.declared.functions.Function.TheVariants.{SubtractStatistics, AddHours}
use Rattle.h41_codes.specs.declared.functions.Function.TheVariants.{SubtractHours, Modulo, Percent}
use Rattle.h41_codes.specs.declared.functions.Function.TheVariants.{PercentChange}
use Rattle.h41_codes.specs.declared.functions.Function.TheVariants.{PolarToRectangular}
use Rattle.h41_codes.specs.declared.functions.Function.TheVariants.{RectangularToPolar}
use Rattle.h41_codes.specs.declared.functions.Function.TheVariants.{NaturalLogarithm, Square}
use Rattle.h41_codes.specs.declared.functions.Function.TheVariants.{SquareRoot, Power, ChangeSign}
use Rattle.h41_codes.specs.declared.functions.Function.TheVariants.{Exponential, CommonLogarithm}
use Rattle.h41_codes.specs.declared.functions.Function.TheVariants.{PowerOfTen, ExponentialLessOne}
use Rattle.h41_codes.specs.declared.functions.Function.TheVariants.{Sine, Cosine, Tangent, ArcSine}
use Rattle.h41_codes.specs.declared.functions.Function.TheVariants.{ArcCosine, ArcTangent}
use Rattle.h41_codes.specs.declared.functions.Function.TheVariants.{OctalToDecimal, Reciprocal}
use Rattle.h41_codes.specs.declared.functions.Function.TheVariants.{AbsoluteValue, Factorial}
use Rattle.h41_codes.specs.declared.functions.Function.TheVariants.{TestXNotZero, TestXPositive}
use Rattle.h41_codes.specs.declared.functions.Function.TheVariants.{LogarithmOfOneMore}
use Rattle.h41_codes.specs.declared.functions.Function.TheVariants.{TestXNegative, TestXZero}
use Rattle.h41_codes.specs.declared.functions.Function.TheVariants.{IntegerPart, FractionPart}
use Rattle.h41_codes.specs.declared.functions.Function.TheVariants.{DegreesToRadians}
use Rattle.h41_codes.specs.declared.functions.Function.TheVariants.{RadiansToDegrees}
use Rattle.h41_codes.specs.declared.functions.Function.TheVariants.{DecimalToHours, HoursToDecimal}
use Rattle.h41_codes.specs.declared.functions.Function.TheVariants.{Round, DecimalToOctal}
use Rattle.h41_codes.specs.declared.functions.Function.TheVariants.{ClearStatistics, ExchangeXY, Pi}
use Rattle.h41_codes.specs.declared.functions.Function.TheVariants.{ClearStack, RollUp, RollDown}
use Rattle.h41_codes.specs.declared.functions.Function.TheVariants.{LastX, ClearX, TestXEqualsY}
use Rattle.h41_codes.specs.declared.functions.Function.TheVariants.{TestXDiffersFromY, Signum}
use Rattle.h41_codes.specs.declared.functions.Function.TheVariants.{TestXAtMostZero, Mean}
use Rattle.h41_codes.specs.declared.functions.Function.TheVariants.{StandardDeviation, ViewAlpha}
use Rattle.h41_codes.specs.declared.functions.Function.TheVariants.{ClearDisplay, Degrees, Radians}
use Rattle.h41_codes.specs.declared.functions.Function.TheVariants.{Grads, Enter, Stop, Return}
use Rattle.h41_codes.specs.declared.functions.Function.TheVariants.{Beep, ClearAlpha, ShiftAlpha}
use Rattle.h41_codes.specs.declared.functions.Function.TheVariants.{Pause, ClearRegisters, AlphaOff}
use Rattle.h41_codes.specs.declared.functions.Function.TheVariants.{AlphaOn, TurnOff, Prompt}
use Rattle.h41_codes.specs.declared.functions.Function.TheVariants.{Advance}
use Rattle.h41_codes.specs.declared.functions.ParameterFunction.{ParameterFunction}
use Rattle.h41_codes.specs.declared.functions.ParameterFunction.TheVariants.{Recall, Store}
use Rattle.h41_codes.specs.declared.functions.ParameterFunction.TheVariants.{StoreAdd}
use Rattle.h41_codes.specs.declared.functions.ParameterFunction.TheVariants.{StoreSubtract}
use Rattle.h41_codes.specs.declared.functions.ParameterFunction.TheVariants.{StoreMultiply}
use Rattle.h41_codes.specs.declared.functions.ParameterFunction.TheVariants.{StoreDivide}
use Rattle.h41_codes.specs.declared.functions.ParameterFunction.TheVariants.{IncrementSkip}
use Rattle.h41_codes.specs.declared.functions.ParameterFunction.TheVariants.{DecrementSkip, View}
use Rattle.h41_codes.specs.declared.functions.ParameterFunction.TheVariants.{StatisticsRegisters}
use Rattle.h41_codes.specs.declared.functions.ParameterFunction.TheVariants.{StoreAlpha}
use Rattle.h41_codes.specs.declared.functions.ParameterFunction.TheVariants.{RecallAlpha, Fixed}
use Rattle.h41_codes.specs.declared.functions.ParameterFunction.TheVariants.{Scientific}
use Rattle.h41_codes.specs.declared.functions.ParameterFunction.TheVariants.{Engineering, Tone}
use Rattle.h41_codes.specs.declared.functions.ParameterFunction.TheVariants.{SetFlag, ClearFlag}
use Rattle.h41_codes.specs.declared.functions.ParameterFunction.TheVariants.{TestSetAndClear}
use Rattle.h41_codes.specs.declared.functions.ParameterFunction.TheVariants.{TestClearAndClear}
use Rattle.h41_codes.specs.declared.functions.ParameterFunction.TheVariants.{TestSet, TestClear}
use Rattle.h41_codes.specs.declared.functions.ParameterFunction.TheVariants.{Exchange, Label}
use Rattle.h41_codes.specs.declared.characters.Character.{Character}
use Rattle.h41_codes.specs.declared.characters.Character.TheVariants.{Zero, One, Two, Three, Four}
use Rattle.h41_codes.specs.declared.characters.Character.TheVariants.{Five, Six, Seven, Eight, Nine}
use Rattle.h41_codes.specs.declared.characters.Character.TheVariants.{Point, Exponent, Minus}

-- The functions without a parameter.
abbrev pub functions : List Function
functions =
    Add ∷ Subtract ∷ Multiply ∷ Divide ∷ TestXLessThanY ∷ TestXGreaterThanY ∷ TestXAtMostY
    ∷ AddStatistics ∷ SubtractStatistics ∷ AddHours ∷ SubtractHours ∷ Modulo ∷ Percent
    ∷ PercentChange ∷ PolarToRectangular ∷ RectangularToPolar ∷ NaturalLogarithm ∷ Square
    ∷ SquareRoot ∷ Power ∷ ChangeSign ∷ Exponential ∷ CommonLogarithm ∷ PowerOfTen
    ∷ ExponentialLessOne ∷ Sine ∷ Cosine ∷ Tangent ∷ ArcSine ∷ ArcCosine ∷ ArcTangent
    ∷ OctalToDecimal ∷ Reciprocal ∷ AbsoluteValue ∷ Factorial ∷ TestXNotZero ∷ TestXPositive
    ∷ LogarithmOfOneMore ∷ TestXNegative ∷ TestXZero ∷ IntegerPart ∷ FractionPart ∷ DegreesToRadians
    ∷ RadiansToDegrees ∷ DecimalToHours ∷ HoursToDecimal ∷ Round ∷ DecimalToOctal ∷ ClearStatistics
    ∷ ExchangeXY ∷ Pi ∷ ClearStack ∷ RollUp ∷ RollDown ∷ LastX ∷ ClearX ∷ TestXEqualsY
    ∷ TestXDiffersFromY ∷ Signum ∷ TestXAtMostZero ∷ Mean ∷ StandardDeviation ∷ ViewAlpha
    ∷ ClearDisplay ∷ Degrees ∷ Radians ∷ Grads ∷ Enter ∷ Stop ∷ Return ∷ Beep ∷ ClearAlpha
    ∷ ShiftAlpha ∷ Pause ∷ ClearRegisters ∷ AlphaOff ∷ AlphaOn ∷ TurnOff ∷ Prompt ∷ Advance ∷ []

-- The functions with a parameter.
abbrev pub parameter_functions : List ParameterFunction
parameter_functions =
    Recall ∷ Store ∷ StoreAdd ∷ StoreSubtract ∷ StoreMultiply ∷ StoreDivide ∷ IncrementSkip
    ∷ DecrementSkip ∷ View ∷ StatisticsRegisters ∷ StoreAlpha ∷ RecallAlpha ∷ Fixed ∷ Scientific
    ∷ Engineering ∷ Tone ∷ SetFlag ∷ ClearFlag ∷ TestSetAndClear ∷ TestClearAndClear ∷ TestSet
    ∷ TestClear ∷ Exchange ∷ Label ∷ []

-- The characters of numbers.
abbrev pub characters : List Character
characters =
    Zero ∷ One ∷ Two ∷ Three ∷ Four ∷ Five ∷ Six ∷ Seven ∷ Eight ∷ Nine ∷ Point ∷ Exponent ∷ Minus
    ∷ []
