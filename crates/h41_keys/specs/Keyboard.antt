-- The keyboard: a row of this table for each key, so that it can be compared with the keyboard of
-- the Owner's Handbook. A row has the place of the key, its name as decks spell it, its meaning,
-- its meaning after SHIFT, and the same two in ALPHA mode (flag 48). A letter is its byte in ASCII.
-- ON, USER, ASN and CATALOG are not supported, so these keys have no meaning; nor are HP's other
-- characters after SHIFT.
use Rattle.std.specs.Prelude.{ℕ, ◌+◌, ◌*◌, List, [], ◌∷◌, Bool, true, false, Option, Some, None}
use Rattle.std.specs.Prelude.{if◌then◌else◌, codes}
use Rattle.std.specs.Str.{bytes_eq}
use Rattle.h41_codes.specs.declared.functions.Function.TheVariants as functions
use Rattle.h41_keys.specs.declared.key.Digit.TheVariants as digits
use Rattle.h41_keys.specs.declared.key.Key.{Key}
use Rattle.h41_keys.specs.declared.key.Key.TheVariants as keys
use Rattle.h41_keys.specs.declared.meaning.Meaning.{Meaning}
use Rattle.h41_keys.specs.declared.meaning.Meaning.TheVariants.{Function, Digit, Ask, Letter}
use Rattle.h41_keys.specs.declared.meaning.Meaning.TheVariants as meanings
use Rattle.h41_keys.specs.declared.prompt.PromptFunction.TheVariants as prompts

-- A row of the table.
pub record KeyRow : Type 0 where
  -- Rows are counted from the top; that of ON is 0. Columns are counted from the left; the first
  -- is 1.
  pub row : ℕ
  pub column : ℕ
  pub name : List ℕ
  -- The meaning of the key, without SHIFT and after it.
  pub plain : Meaning
  pub shifted : Meaning
  -- The meaning of the key in ALPHA mode, without SHIFT and after it.
  pub letter : Meaning
  pub shifted_letter : Meaning

-- A row with these entries.
abbrev pub row : ℕ → ℕ → List ℕ → Meaning → Meaning → Meaning → Meaning → KeyRow
row line column name plain shifted letter shifted_letter = record {
  row = line;
  column = column;
  name = name;
  plain = plain;
  shifted = shifted;
  letter = letter;
  shifted_letter = shifted_letter;
}

-- The meaning of a key that is refused.
abbrev pub none : Meaning
none = meanings.Nothing

-- The table: the row of each key.
abbrev pub row_of : Key → KeyRow
-- Row 0, at the top of the keyboard.
row_of keys.On = row 0 1 (codes "ON") none none none none
row_of keys.User = row 0 2 (codes "USER") none none none none
row_of keys.Program =
    row 0 3 (codes "PRGM") meanings.Program meanings.Program meanings.Program meanings.Program
row_of keys.Alpha =
    row 0 4 (codes "ALPHA") meanings.Alpha meanings.Alpha meanings.Alpha meanings.Alpha
-- Row 1.
row_of keys.SigmaPlus =
    row 1 1 (codes "SIGMA+") (Function functions.AddStatistics)
    (Function functions.SubtractStatistics) (Letter 0x41) none
row_of keys.Reciprocal =
    row 1 2 (codes "1/X") (Function functions.Reciprocal)
    (Function functions.Power) (Letter 0x42) none
row_of keys.SquareRoot =
    row 1 3 (codes "SQRT") (Function functions.SquareRoot)
    (Function functions.Square) (Letter 0x43) none
row_of keys.CommonLogarithm =
    row 1 4 (codes "LOG") (Function functions.CommonLogarithm)
    (Function functions.PowerOfTen) (Letter 0x44) none
row_of keys.NaturalLogarithm =
    row 1 5 (codes "LN") (Function functions.NaturalLogarithm)
    (Function functions.Exponential) (Letter 0x45) none
-- Row 2.
row_of keys.ExchangeXY =
    row 2 1 (codes "X<>Y") (Function functions.ExchangeXY)
    (Function functions.ClearStatistics) (Letter 0x46) none
row_of keys.RollDown =
    row 2 2 (codes "RDN") (Function functions.RollDown)
    (Function functions.Percent) (Letter 0x47) none
row_of keys.Sine =
    row 2 3 (codes "SIN") (Function functions.Sine) (Function functions.ArcSine) (Letter 0x48) none
row_of keys.Cosine =
    row 2 4 (codes "COS") (Function functions.Cosine)
    (Function functions.ArcCosine) (Letter 0x49) none
row_of keys.Tangent =
    row 2 5 (codes "TAN") (Function functions.Tangent)
    (Function functions.ArcTangent) (Letter 0x4A) none
-- Row 3.
row_of keys.Shift =
    row 3 1 (codes "SHIFT") meanings.Shift meanings.Shift meanings.Shift meanings.Shift
row_of keys.Execute = row 3 2 (codes "XEQ") (Ask prompts.Execute) none (Letter 0x4B) meanings.Append
row_of keys.Store =
    row 3 3 (codes "STO") (Ask prompts.Store)
    (Ask prompts.Label) (Letter 0x4C) (Ask prompts.StoreAlpha)
row_of keys.Recall =
    row 3 4 (codes "RCL") (Ask prompts.Recall)
    (Ask prompts.GoTo) (Letter 0x4D) (Ask prompts.RecallAlpha)
row_of keys.SingleStep =
    row 3 5 (codes "SST") meanings.Step meanings.StepBack meanings.Step meanings.StepBack
-- Row 4.
row_of keys.Enter = row 4 1 (codes "ENTER") (Function functions.Enter) none (Letter 0x4E) none
row_of keys.ChangeSign =
    row 4 2 (codes "CHS") meanings.Sign (Ask prompts.IncrementSkip) (Letter 0x4F) none
row_of keys.EnterExponent =
    row 4 3 (codes "EEX") meanings.Exponent (Function functions.Return) (Letter 0x50) none
row_of keys.Back =
    row 4 4 (codes "BACK") meanings.Back (Function functions.ClearX)
    meanings.LetterBack (Function functions.ClearAlpha)
-- Row 5.
row_of keys.Minus =
    row 5 1 (codes "-") (Function functions.Subtract)
    (Function functions.TestXEqualsY) (Letter 0x51) (Letter 0x2D)
row_of keys.Seven =
    row 5 2 (codes "7") (Digit digits.Seven) (Ask prompts.SetFlag) (Letter 0x52) (Letter 0x37)
row_of keys.Eight =
    row 5 3 (codes "8") (Digit digits.Eight) (Ask prompts.ClearFlag) (Letter 0x53) (Letter 0x38)
row_of keys.Nine =
    row 5 4 (codes "9") (Digit digits.Nine) (Ask prompts.TestSet) (Letter 0x54) (Letter 0x39)
-- Row 6.
row_of keys.Plus =
    row 6 1 (codes "+") (Function functions.Add)
    (Function functions.TestXAtMostY) (Letter 0x55) (Letter 0x2B)
row_of keys.Four =
    row 6 2 (codes "4") (Digit digits.Four) (Function functions.Beep) (Letter 0x56) (Letter 0x34)
row_of keys.Five =
    row 6 3 (codes "5") (Digit digits.Five)
    (Function functions.PolarToRectangular) (Letter 0x57) (Letter 0x35)
row_of keys.Six =
    row 6 4 (codes "6") (Digit digits.Six)
    (Function functions.RectangularToPolar) (Letter 0x58) (Letter 0x36)
-- Row 7.
row_of keys.Times =
    row 7 1 (codes "*") (Function functions.Multiply)
    (Function functions.TestXGreaterThanY) (Letter 0x59) (Letter 0x2A)
row_of keys.One =
    row 7 2 (codes "1") (Digit digits.One) (Ask prompts.Fixed) (Letter 0x5A) (Letter 0x31)
row_of keys.Two =
    row 7 3 (codes "2") (Digit digits.Two) (Ask prompts.Scientific) (Letter 0x3D) (Letter 0x32)
row_of keys.Three =
    row 7 4 (codes "3") (Digit digits.Three) (Ask prompts.Engineering) (Letter 0x3F) (Letter 0x33)
-- Row 8.
row_of keys.Divide =
    row 8 1 (codes "/") (Function functions.Divide)
    (Function functions.TestXZero) (Letter 0x3A) (Letter 0x2F)
row_of keys.Zero =
    row 8 2 (codes "0") (Digit digits.Zero) (Function functions.Pi) (Letter 0x20) (Letter 0x30)
row_of keys.Point =
    row 8 3 (codes ".") meanings.Point (Function functions.LastX) (Letter 0x2C) (Letter 0x2E)
row_of keys.RunStop =
    row 8 4 (codes "R/S") meanings.RunStop (Ask prompts.View) none (Function functions.ViewAlpha)

-- The keys in the order of the table.
abbrev pub all_keys : List Key
all_keys =
    keys.On ∷ keys.User ∷ keys.Program ∷ keys.Alpha ∷ keys.SigmaPlus ∷ keys.Reciprocal
    ∷ keys.SquareRoot ∷ keys.CommonLogarithm ∷ keys.NaturalLogarithm ∷ keys.ExchangeXY
    ∷ keys.RollDown ∷ keys.Sine ∷ keys.Cosine ∷ keys.Tangent ∷ keys.Shift ∷ keys.Execute
    ∷ keys.Store ∷ keys.Recall ∷ keys.SingleStep ∷ keys.Enter ∷ keys.ChangeSign ∷ keys.EnterExponent
    ∷ keys.Back ∷ keys.Minus ∷ keys.Seven ∷ keys.Eight ∷ keys.Nine ∷ keys.Plus ∷ keys.Four
    ∷ keys.Five ∷ keys.Six ∷ keys.Times ∷ keys.One ∷ keys.Two ∷ keys.Three ∷ keys.Divide ∷ keys.Zero
    ∷ keys.Point ∷ keys.RunStop ∷ []

-- The name of a key.
abbrev pub name_of : Key → List ℕ
name_of key = (row_of key).name

-- The code of a key: a hexadecimal digit for its row, and one for its column.
abbrev pub code_of : Key → ℕ
code_of key = 16 * (row_of key).row + (row_of key).column

-- The first key of a list that has this name.
abbrev pub first_named : List Key → List ℕ → Option Key
first_named [] name = None
first_named (key ∷ others) name =
    if bytes_eq (name_of key) name then Some key else first_named others name

-- The key with this name.
abbrev pub key_named : List ℕ → Option Key
key_named name = first_named all_keys name

-- The meaning of a key, depending on ALPHA mode and on whether SHIFT was pressed before it.
abbrev pub meaning_of : Key → (letters shift : Bool) → Meaning
meaning_of key false false = (row_of key).plain
meaning_of key false true = (row_of key).shifted
meaning_of key true false = (row_of key).letter
meaning_of key true true = (row_of key).shifted_letter
