-- The codes of functions and characters, which are those of HP's byte table.
use Rattle.std.specs.Prelude.{ℕ}
use Rattle.h41_codes.specs.declared.functions.Function.{Function}
use Rattle.h41_codes.specs.declared.functions.Function.TheVariants.{Add, Subtract, Multiply, Divide}
use Rattle.h41_codes.specs.declared.functions.Function.TheVariants.{TestXLessThanY}
use Rattle.h41_codes.specs.declared.functions.Function.TheVariants.{TestXGreaterThanY, TestXAtMostY}
use Rattle.h41_codes.specs.declared.functions.Function.TheVariants.{AddStatistics}
use Rattle.h41_codes.specs.declared.functions.Function.TheVariants.{SubtractStatistics, AddHours}
use Rattle.h41_codes.specs.declared.functions.Function.TheVariants.{SubtractHours, Modulo, Percent}
use Rattle.h41_codes.specs.declared.functions.Function.TheVariants.{PercentChange}
use Rattle.h41_codes.specs.declared.functions.Function.TheVariants.{PolarToRectangular}
use Rattle.h41_codes.specs.declared.functions.Function.TheVariants.{RectangularToPolar}
use Rattle.h41_codes.specs.declared.functions.Function.TheVariants.{NaturalLogarithm, Square}
use Rattle.h41_codes.specs.declared.functions.Function.TheVariants.{SquareRoot, Power, ChangeSign}
use Rattle.h41_codes.specs.declared.functions.Function.TheVariants.{Exponential, CommonLogarithm}
use Rattle.h41_codes.specs.declared.functions.Function.TheVariants.{PowerOfTen, ExponentialLessOne}
use Rattle.h41_codes.specs.declared.functions.Function.TheVariants.{Sine, Cosine, Tangent, ArcSine}
use Rattle.h41_codes.specs.declared.functions.Function.TheVariants.{ArcCosine, ArcTangent}
use Rattle.h41_codes.specs.declared.functions.Function.TheVariants.{OctalToDecimal, Reciprocal}
use Rattle.h41_codes.specs.declared.functions.Function.TheVariants.{AbsoluteValue, Factorial}
use Rattle.h41_codes.specs.declared.functions.Function.TheVariants.{TestXNotZero, TestXPositive}
use Rattle.h41_codes.specs.declared.functions.Function.TheVariants.{LogarithmOfOneMore}
use Rattle.h41_codes.specs.declared.functions.Function.TheVariants.{TestXNegative, TestXZero}
use Rattle.h41_codes.specs.declared.functions.Function.TheVariants.{IntegerPart, FractionPart}
use Rattle.h41_codes.specs.declared.functions.Function.TheVariants.{DegreesToRadians}
use Rattle.h41_codes.specs.declared.functions.Function.TheVariants.{RadiansToDegrees}
use Rattle.h41_codes.specs.declared.functions.Function.TheVariants.{DecimalToHours, HoursToDecimal}
use Rattle.h41_codes.specs.declared.functions.Function.TheVariants.{Round, DecimalToOctal}
use Rattle.h41_codes.specs.declared.functions.Function.TheVariants.{ClearStatistics, ExchangeXY, Pi}
use Rattle.h41_codes.specs.declared.functions.Function.TheVariants.{ClearStack, RollUp, RollDown}
use Rattle.h41_codes.specs.declared.functions.Function.TheVariants.{LastX, ClearX, TestXEqualsY}
use Rattle.h41_codes.specs.declared.functions.Function.TheVariants.{TestXDiffersFromY, Signum}
use Rattle.h41_codes.specs.declared.functions.Function.TheVariants.{TestXAtMostZero, Mean}
use Rattle.h41_codes.specs.declared.functions.Function.TheVariants.{StandardDeviation, ViewAlpha}
use Rattle.h41_codes.specs.declared.functions.Function.TheVariants.{ClearDisplay, Degrees, Radians}
use Rattle.h41_codes.specs.declared.functions.Function.TheVariants.{Grads, Enter, Stop, Return}
use Rattle.h41_codes.specs.declared.functions.Function.TheVariants.{Beep, ClearAlpha, ShiftAlpha}
use Rattle.h41_codes.specs.declared.functions.Function.TheVariants.{Pause, ClearRegisters, AlphaOff}
use Rattle.h41_codes.specs.declared.functions.Function.TheVariants.{AlphaOn, TurnOff, Prompt}
use Rattle.h41_codes.specs.declared.functions.Function.TheVariants.{Advance}
use Rattle.h41_codes.specs.declared.functions.ParameterFunction.{ParameterFunction}
use Rattle.h41_codes.specs.declared.functions.ParameterFunction.TheVariants.{Recall, Store}
use Rattle.h41_codes.specs.declared.functions.ParameterFunction.TheVariants.{StoreAdd}
use Rattle.h41_codes.specs.declared.functions.ParameterFunction.TheVariants.{StoreSubtract}
use Rattle.h41_codes.specs.declared.functions.ParameterFunction.TheVariants.{StoreMultiply}
use Rattle.h41_codes.specs.declared.functions.ParameterFunction.TheVariants.{StoreDivide}
use Rattle.h41_codes.specs.declared.functions.ParameterFunction.TheVariants.{IncrementSkip}
use Rattle.h41_codes.specs.declared.functions.ParameterFunction.TheVariants.{DecrementSkip, View}
use Rattle.h41_codes.specs.declared.functions.ParameterFunction.TheVariants.{StatisticsRegisters}
use Rattle.h41_codes.specs.declared.functions.ParameterFunction.TheVariants.{StoreAlpha}
use Rattle.h41_codes.specs.declared.functions.ParameterFunction.TheVariants.{RecallAlpha, Fixed}
use Rattle.h41_codes.specs.declared.functions.ParameterFunction.TheVariants.{Scientific}
use Rattle.h41_codes.specs.declared.functions.ParameterFunction.TheVariants.{Engineering, Tone}
use Rattle.h41_codes.specs.declared.functions.ParameterFunction.TheVariants.{SetFlag, ClearFlag}
use Rattle.h41_codes.specs.declared.functions.ParameterFunction.TheVariants.{TestSetAndClear}
use Rattle.h41_codes.specs.declared.functions.ParameterFunction.TheVariants.{TestClearAndClear}
use Rattle.h41_codes.specs.declared.functions.ParameterFunction.TheVariants.{TestSet, TestClear}
use Rattle.h41_codes.specs.declared.functions.ParameterFunction.TheVariants.{Exchange, Label}
use Rattle.h41_codes.specs.declared.functions.RegisterFunction.{RegisterFunction}
use Rattle.h41_codes.specs.declared.functions.RegisterFunction.TheVariants.{RecallRegister}
use Rattle.h41_codes.specs.declared.functions.RegisterFunction.TheVariants.{StoreRegister}
use Rattle.h41_codes.specs.declared.functions.NameFunction.{NameFunction}
use Rattle.h41_codes.specs.declared.functions.NameFunction.TheVariants.{GoToName, ExecuteName}
use Rattle.h41_codes.specs.declared.functions.NameFunction.TheVariants.{Wordless}
use Rattle.h41_codes.specs.declared.functions.Branch.{Branch}
use Rattle.h41_codes.specs.declared.functions.Branch.TheVariants.{GoTo, Execute}
use Rattle.h41_codes.specs.declared.characters.Character.{Character}
use Rattle.h41_codes.specs.declared.characters.Character.TheVariants.{Zero, One, Two, Three, Four}
use Rattle.h41_codes.specs.declared.characters.Character.TheVariants.{Five, Six, Seven, Eight, Nine}
use Rattle.h41_codes.specs.declared.characters.Character.TheVariants.{Point, Exponent, Minus}

-- The codes of the functions of one byte, 40 to 8F.
abbrev pub function_code : Function → ℕ
function_code Add = 0x40
function_code Subtract = 0x41
function_code Multiply = 0x42
function_code Divide = 0x43
function_code TestXLessThanY = 0x44
function_code TestXGreaterThanY = 0x45
function_code TestXAtMostY = 0x46
function_code AddStatistics = 0x47
function_code SubtractStatistics = 0x48
function_code AddHours = 0x49
function_code SubtractHours = 0x4A
function_code Modulo = 0x4B
function_code Percent = 0x4C
function_code PercentChange = 0x4D
function_code PolarToRectangular = 0x4E
function_code RectangularToPolar = 0x4F
function_code NaturalLogarithm = 0x50
function_code Square = 0x51
function_code SquareRoot = 0x52
function_code Power = 0x53
function_code ChangeSign = 0x54
function_code Exponential = 0x55
function_code CommonLogarithm = 0x56
function_code PowerOfTen = 0x57
function_code ExponentialLessOne = 0x58
function_code Sine = 0x59
function_code Cosine = 0x5A
function_code Tangent = 0x5B
function_code ArcSine = 0x5C
function_code ArcCosine = 0x5D
function_code ArcTangent = 0x5E
function_code OctalToDecimal = 0x5F
function_code Reciprocal = 0x60
function_code AbsoluteValue = 0x61
function_code Factorial = 0x62
function_code TestXNotZero = 0x63
function_code TestXPositive = 0x64
function_code LogarithmOfOneMore = 0x65
function_code TestXNegative = 0x66
function_code TestXZero = 0x67
function_code IntegerPart = 0x68
function_code FractionPart = 0x69
function_code DegreesToRadians = 0x6A
function_code RadiansToDegrees = 0x6B
function_code DecimalToHours = 0x6C
function_code HoursToDecimal = 0x6D
function_code Round = 0x6E
function_code DecimalToOctal = 0x6F
function_code ClearStatistics = 0x70
function_code ExchangeXY = 0x71
function_code Pi = 0x72
function_code ClearStack = 0x73
function_code RollUp = 0x74
function_code RollDown = 0x75
function_code LastX = 0x76
function_code ClearX = 0x77
function_code TestXEqualsY = 0x78
function_code TestXDiffersFromY = 0x79
function_code Signum = 0x7A
function_code TestXAtMostZero = 0x7B
function_code Mean = 0x7C
function_code StandardDeviation = 0x7D
function_code ViewAlpha = 0x7E
function_code ClearDisplay = 0x7F
function_code Degrees = 0x80
function_code Radians = 0x81
function_code Grads = 0x82
function_code Enter = 0x83
function_code Stop = 0x84
function_code Return = 0x85
function_code Beep = 0x86
function_code ClearAlpha = 0x87
function_code ShiftAlpha = 0x88
function_code Pause = 0x89
function_code ClearRegisters = 0x8A
function_code AlphaOff = 0x8B
function_code AlphaOn = 0x8C
function_code TurnOff = 0x8D
function_code Prompt = 0x8E
function_code Advance = 0x8F

-- The codes of the functions with a parameter: 90 to 9F, A8 to AD, CE and CF. A byte for the
-- parameter follows.
abbrev pub parameter_function_code : ParameterFunction → ℕ
parameter_function_code Recall = 0x90
parameter_function_code Store = 0x91
parameter_function_code StoreAdd = 0x92
parameter_function_code StoreSubtract = 0x93
parameter_function_code StoreMultiply = 0x94
parameter_function_code StoreDivide = 0x95
parameter_function_code IncrementSkip = 0x96
parameter_function_code DecrementSkip = 0x97
parameter_function_code View = 0x98
parameter_function_code StatisticsRegisters = 0x99
parameter_function_code StoreAlpha = 0x9A
parameter_function_code RecallAlpha = 0x9B
parameter_function_code Fixed = 0x9C
parameter_function_code Scientific = 0x9D
parameter_function_code Engineering = 0x9E
parameter_function_code Tone = 0x9F
parameter_function_code SetFlag = 0xA8
parameter_function_code ClearFlag = 0xA9
parameter_function_code TestSetAndClear = 0xAA
parameter_function_code TestClearAndClear = 0xAB
parameter_function_code TestSet = 0xAC
parameter_function_code TestClear = 0xAD
parameter_function_code Exchange = 0xCE
parameter_function_code Label = 0xCF

-- The codes of the characters of numbers, 10 to 1C.
abbrev pub character_code : Character → ℕ
character_code Zero = 0x10
character_code One = 0x11
character_code Two = 0x12
character_code Three = 0x13
character_code Four = 0x14
character_code Five = 0x15
character_code Six = 0x16
character_code Seven = 0x17
character_code Eight = 0x18
character_code Nine = 0x19
character_code Point = 0x1A
character_code Exponent = 0x1B
character_code Minus = 0x1C

-- The codes of RCL 00 and STO 00 in one byte. The register's number, up to 15, is added.
abbrev pub register_function_code : RegisterFunction → ℕ
register_function_code RecallRegister = 0x20
register_function_code StoreRegister = 0x30

-- The codes of the functions that a text follows.
abbrev pub name_function_code : NameFunction → ℕ
name_function_code GoToName = 0x1D
name_function_code ExecuteName = 0x1E
name_function_code Wordless = 0x1F

-- The codes of GTO and XEQ in three bytes. The high four bits of the distance are added.
abbrev pub branch_code : Branch → ℕ
branch_code GoTo = 0xD0
branch_code Execute = 0xE0
