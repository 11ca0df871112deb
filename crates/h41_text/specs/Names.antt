-- The names of functions and characters, as a listing shows them.
use Rattle.std.specs.Prelude.{ℕ, List, codes}
use Rattle.h41_codes.specs.declared.functions.Function.{Function}
use Rattle.h41_codes.specs.declared.functions.Function.TheVariants.{Add, Subtract, Multiply, Divide}
use Rattle.h41_codes.specs.declared.functions.Function.TheVariants.{TestXLessThanY}
use Rattle.h41_codes.specs.declared.functions.Function.TheVariants.{TestXGreaterThanY, TestXAtMostY}
use Rattle.h41_codes.specs.declared.functions.Function.TheVariants.{AddStatistics}
use Rattle.h41_codes.specs.declared.functions.Function.TheVariants.{SubtractStatistics, AddHours}
use Rattle.h41_codes.specs.declared.functions.Function.TheVariants.{SubtractHours, Modulo, Percent}
use Rattle.h41_codes.specs.declared.functions.Function.TheVariants.{PercentChange}
use Rattle.h41_codes.specs.declared.functions.Function.TheVariants.{PolarToRectangular}
use Rattle.h41_codes.specs.declared.functions.Function.TheVariants.{RectangularToPolar}
use Rattle.h41_codes.specs.declared.functions.Function.TheVariants.{NaturalLogarithm, Square}
use Rattle.h41_codes.specs.declared.functions.Function.TheVariants.{SquareRoot, Power, ChangeSign}
use Rattle.h41_codes.specs.declared.functions.Function.TheVariants.{Exponential, CommonLogarithm}
use Rattle.h41_codes.specs.declared.functions.Function.TheVariants.{PowerOfTen, ExponentialLessOne}
use Rattle.h41_codes.specs.declared.functions.Function.TheVariants.{Sine, Cosine, Tangent, ArcSine}
use Rattle.h41_codes.specs.declared.functions.Function.TheVariants.{ArcCosine, ArcTangent}
use Rattle.h41_codes.specs.declared.functions.Function.TheVariants.{OctalToDecimal, Reciprocal}
use Rattle.h41_codes.specs.declared.functions.Function.TheVariants.{AbsoluteValue, Factorial}
use Rattle.h41_codes.specs.declared.functions.Function.TheVariants.{TestXNotZero, TestXPositive}
use Rattle.h41_codes.specs.declared.functions.Function.TheVariants.{LogarithmOfOneMore}
use Rattle.h41_codes.specs.declared.functions.Function.TheVariants.{TestXNegative, TestXZero}
use Rattle.h41_codes.specs.declared.functions.Function.TheVariants.{IntegerPart, FractionPart}
use Rattle.h41_codes.specs.declared.functions.Function.TheVariants.{DegreesToRadians}
use Rattle.h41_codes.specs.declared.functions.Function.TheVariants.{RadiansToDegrees}
use Rattle.h41_codes.specs.declared.functions.Function.TheVariants.{DecimalToHours, HoursToDecimal}
use Rattle.h41_codes.specs.declared.functions.Function.TheVariants.{Round, DecimalToOctal}
use Rattle.h41_codes.specs.declared.functions.Function.TheVariants.{ClearStatistics, ExchangeXY, Pi}
use Rattle.h41_codes.specs.declared.functions.Function.TheVariants.{ClearStack, RollUp, RollDown}
use Rattle.h41_codes.specs.declared.functions.Function.TheVariants.{LastX, ClearX, TestXEqualsY}
use Rattle.h41_codes.specs.declared.functions.Function.TheVariants.{TestXDiffersFromY, Signum}
use Rattle.h41_codes.specs.declared.functions.Function.TheVariants.{TestXAtMostZero, Mean}
use Rattle.h41_codes.specs.declared.functions.Function.TheVariants.{StandardDeviation, ViewAlpha}
use Rattle.h41_codes.specs.declared.functions.Function.TheVariants.{ClearDisplay, Degrees, Radians}
use Rattle.h41_codes.specs.declared.functions.Function.TheVariants.{Grads, Enter, Stop, Return}
use Rattle.h41_codes.specs.declared.functions.Function.TheVariants.{Beep, ClearAlpha, ShiftAlpha}
use Rattle.h41_codes.specs.declared.functions.Function.TheVariants.{Pause, ClearRegisters, AlphaOff}
use Rattle.h41_codes.specs.declared.functions.Function.TheVariants.{AlphaOn, TurnOff, Prompt}
use Rattle.h41_codes.specs.declared.functions.Function.TheVariants.{Advance}
use Rattle.h41_codes.specs.declared.functions.ParameterFunction.{ParameterFunction}
use Rattle.h41_codes.specs.declared.functions.ParameterFunction.TheVariants.{Recall, Store}
use Rattle.h41_codes.specs.declared.functions.ParameterFunction.TheVariants.{StoreAdd}
use Rattle.h41_codes.specs.declared.functions.ParameterFunction.TheVariants.{StoreSubtract}
use Rattle.h41_codes.specs.declared.functions.ParameterFunction.TheVariants.{StoreMultiply}
use Rattle.h41_codes.specs.declared.functions.ParameterFunction.TheVariants.{StoreDivide}
use Rattle.h41_codes.specs.declared.functions.ParameterFunction.TheVariants.{IncrementSkip}
use Rattle.h41_codes.specs.declared.functions.ParameterFunction.TheVariants.{DecrementSkip, View}
use Rattle.h41_codes.specs.declared.functions.ParameterFunction.TheVariants.{StatisticsRegisters}
use Rattle.h41_codes.specs.declared.functions.ParameterFunction.TheVariants.{StoreAlpha}
use Rattle.h41_codes.specs.declared.functions.ParameterFunction.TheVariants.{RecallAlpha, Fixed}
use Rattle.h41_codes.specs.declared.functions.ParameterFunction.TheVariants.{Scientific}
use Rattle.h41_codes.specs.declared.functions.ParameterFunction.TheVariants.{Engineering, Tone}
use Rattle.h41_codes.specs.declared.functions.ParameterFunction.TheVariants.{SetFlag, ClearFlag}
use Rattle.h41_codes.specs.declared.functions.ParameterFunction.TheVariants.{TestSetAndClear}
use Rattle.h41_codes.specs.declared.functions.ParameterFunction.TheVariants.{TestClearAndClear}
use Rattle.h41_codes.specs.declared.functions.ParameterFunction.TheVariants.{TestSet, TestClear}
use Rattle.h41_codes.specs.declared.functions.ParameterFunction.TheVariants.{Exchange, Label}
use Rattle.h41_codes.specs.declared.functions.RegisterFunction.{RegisterFunction}
use Rattle.h41_codes.specs.declared.functions.RegisterFunction.TheVariants.{RecallRegister}
use Rattle.h41_codes.specs.declared.functions.RegisterFunction.TheVariants.{StoreRegister}
use Rattle.h41_codes.specs.declared.functions.NameFunction.{NameFunction}
use Rattle.h41_codes.specs.declared.functions.NameFunction.TheVariants.{GoToName, ExecuteName}
use Rattle.h41_codes.specs.declared.functions.NameFunction.TheVariants.{Wordless}
use Rattle.h41_codes.specs.declared.functions.Branch.{Branch}
use Rattle.h41_codes.specs.declared.functions.Branch.TheVariants.{GoTo, Execute}
use Rattle.h41_codes.specs.declared.characters.Character.{Character}
use Rattle.h41_codes.specs.declared.characters.Character.TheVariants.{Zero, One, Two, Three, Four}
use Rattle.h41_codes.specs.declared.characters.Character.TheVariants.{Five, Six, Seven, Eight, Nine}
use Rattle.h41_codes.specs.declared.characters.Character.TheVariants.{Point, Exponent, Minus}

-- The names of the functions without a parameter.
abbrev pub function_name : Function → List ℕ
function_name Add = codes "+"
function_name Subtract = codes "-"
function_name Multiply = codes "*"
function_name Divide = codes "/"
function_name TestXLessThanY = codes "X<Y?"
function_name TestXGreaterThanY = codes "X>Y?"
function_name TestXAtMostY = codes "X<=Y?"
function_name AddStatistics = codes "S+"
function_name SubtractStatistics = codes "S-"
function_name AddHours = codes "HMS+"
function_name SubtractHours = codes "HMS-"
function_name Modulo = codes "MOD"
function_name Percent = codes "%"
function_name PercentChange = codes "%CH"
function_name PolarToRectangular = codes "P-R"
function_name RectangularToPolar = codes "R-P"
function_name NaturalLogarithm = codes "LN"
function_name Square = codes "X^2"
function_name SquareRoot = codes "SQRT"
function_name Power = codes "Y^X"
function_name ChangeSign = codes "CHS"
function_name Exponential = codes "E^X"
function_name CommonLogarithm = codes "LOG"
function_name PowerOfTen = codes "10^X"
function_name ExponentialLessOne = codes "E^X-1"
function_name Sine = codes "SIN"
function_name Cosine = codes "COS"
function_name Tangent = codes "TAN"
function_name ArcSine = codes "ASIN"
function_name ArcCosine = codes "ACOS"
function_name ArcTangent = codes "ATAN"
function_name OctalToDecimal = codes "DEC"
function_name Reciprocal = codes "1/X"
function_name AbsoluteValue = codes "ABS"
function_name Factorial = codes "FACT"
function_name TestXNotZero = codes "X#0?"
function_name TestXPositive = codes "X>0?"
function_name LogarithmOfOneMore = codes "LN1+X"
function_name TestXNegative = codes "X<0?"
function_name TestXZero = codes "X=0?"
function_name IntegerPart = codes "INT"
function_name FractionPart = codes "FRC"
function_name DegreesToRadians = codes "D-R"
function_name RadiansToDegrees = codes "R-D"
function_name DecimalToHours = codes "HMS"
function_name HoursToDecimal = codes "HR"
function_name Round = codes "RND"
function_name DecimalToOctal = codes "OCT"
function_name ClearStatistics = codes "CLS"
function_name ExchangeXY = codes "X<>Y"
function_name Pi = codes "PI"
function_name ClearStack = codes "CLST"
function_name RollUp = codes "R^"
function_name RollDown = codes "RDN"
function_name LastX = codes "LASTX"
function_name ClearX = codes "CLX"
function_name TestXEqualsY = codes "X=Y?"
function_name TestXDiffersFromY = codes "X#Y?"
function_name Signum = codes "SIGN"
function_name TestXAtMostZero = codes "X<=0?"
function_name Mean = codes "MEAN"
function_name StandardDeviation = codes "SDEV"
function_name ViewAlpha = codes "AVIEW"
function_name ClearDisplay = codes "CLD"
function_name Degrees = codes "DEG"
function_name Radians = codes "RAD"
function_name Grads = codes "GRAD"
function_name Enter = codes "ENTER^"
function_name Stop = codes "STOP"
function_name Return = codes "RTN"
function_name Beep = codes "BEEP"
function_name ClearAlpha = codes "CLA"
function_name ShiftAlpha = codes "ASHF"
function_name Pause = codes "PSE"
function_name ClearRegisters = codes "CLRG"
function_name AlphaOff = codes "AOFF"
function_name AlphaOn = codes "AON"
function_name TurnOff = codes "OFF"
function_name Prompt = codes "PROMPT"
function_name Advance = codes "ADV"

-- The names of the functions with a parameter.
abbrev pub parameter_function_name : ParameterFunction → List ℕ
parameter_function_name Recall = codes "RCL"
parameter_function_name Store = codes "STO"
parameter_function_name StoreAdd = codes "ST+"
parameter_function_name StoreSubtract = codes "ST-"
parameter_function_name StoreMultiply = codes "ST*"
parameter_function_name StoreDivide = codes "ST/"
parameter_function_name IncrementSkip = codes "ISG"
parameter_function_name DecrementSkip = codes "DSE"
parameter_function_name View = codes "VIEW"
parameter_function_name StatisticsRegisters = codes "SREG"
parameter_function_name StoreAlpha = codes "ASTO"
parameter_function_name RecallAlpha = codes "ARCL"
parameter_function_name Fixed = codes "FIX"
parameter_function_name Scientific = codes "SCI"
parameter_function_name Engineering = codes "ENG"
parameter_function_name Tone = codes "TONE"
parameter_function_name SetFlag = codes "SF"
parameter_function_name ClearFlag = codes "CF"
parameter_function_name TestSetAndClear = codes "FS?C"
parameter_function_name TestClearAndClear = codes "FC?C"
parameter_function_name TestSet = codes "FS?"
parameter_function_name TestClear = codes "FC?"
parameter_function_name Exchange = codes "X<>"
parameter_function_name Label = codes "LBL"

-- The names of RCL and STO for the registers 00 to 15.
abbrev pub register_function_name : RegisterFunction → List ℕ
register_function_name RecallRegister = parameter_function_name Recall
register_function_name StoreRegister = parameter_function_name Store

-- The names of the two branches.
abbrev pub branch_name : Branch → List ℕ
branch_name GoTo = codes "GTO"
branch_name Execute = codes "XEQ"

-- The names of the functions on a name.
abbrev pub name_function_name : NameFunction → List ℕ
name_function_name GoToName = branch_name GoTo
name_function_name ExecuteName = branch_name Execute
name_function_name Wordless = codes "W"

-- The characters of numbers, in ASCII.
abbrev pub character_byte : Character → ℕ
character_byte Zero = 48
character_byte One = 49
character_byte Two = 50
character_byte Three = 51
character_byte Four = 52
character_byte Five = 53
character_byte Six = 54
character_byte Seven = 55
character_byte Eight = 56
character_byte Nine = 57
character_byte Point = 46
character_byte Exponent = 69
character_byte Minus = 45
