-- The rows of the functions without an operand, in the order of HP's byte table.
use Rattle.std.specs.Prelude.{ℕ, true, false, [], ◌∷◌, Option, Some, None, pos}
use Rattle.h41_codes.specs.declared.functions.Function.{Function}
use Rattle.h41_codes.specs.declared.functions.Function.TheVariants as functions
use Rattle.h41_decimal.specs.Units.{size_of}
use Rattle.h41_ram.specs.NamedFlags.{alpha_mode, grads, radians}
use Rattle.h41_rows.specs.Places.{T, Z, Y, X, LastX}
use Rattle.h41_rows.specs.Rows.{LineRow, Becomes, LosesSix, FlagChange, In, Nought, Same, Differ}
use Rattle.h41_rows.specs.Rows.{Below, AtMost, Returns, NoText, AlphaText, Stops, TurnsOff, Off}
use Rattle.h41_rows.specs.Rows.{lifting_row, silent_row, copy, compute, of_x, of_y_and_x, coming_in}
use Rattle.h41_rows.specs.Rows.{test}
use Rattle.h41_rows.specs.Values.{Given, OfOne, OfTwo}
use Rattle.h41_rows.specs.declared.values.ValueOfOne.TheVariants as ones
use Rattle.h41_rows.specs.declared.values.ValueOfTwo.TheVariants as twos

-- 3.141592654, in units. The exponent 0 is 99 above the lowest.
abbrev pub pi : ℕ
pi = size_of 3141592654 99

-- Two flags select the unit of angles: the first is set for GRAD, the second for RAD, neither for
-- DEG.
abbrev pub angles : (for_grads for_radians : FlagChange) → LineRow
angles for_grads for_radians = record lifting_row { flags = for_grads ∷ for_radians ∷ [] }

-- Each supported function has a row.
abbrev pub function_row : Function → Option LineRow
-- functions of Y and X: LAST X receives X, and the stack drops
function_row functions.Add = Some (of_y_and_x (OfTwo twos.Sum Y X))
function_row functions.Subtract = Some (of_y_and_x (OfTwo twos.Difference Y X))
function_row functions.Multiply = Some (of_y_and_x (OfTwo twos.Product Y X))
function_row functions.Divide = Some (of_y_and_x (OfTwo twos.Quotient Y X))
function_row functions.TestXLessThanY = Some (test (Below (In X) (In Y)))
function_row functions.TestXGreaterThanY = Some (test (Below (In Y) (In X)))
function_row functions.TestXAtMostY = Some (test (AtMost (In X) (In Y)))
function_row functions.Modulo = Some (of_y_and_x (OfTwo twos.Remainder Y X))
-- Y is unchanged, so that the percentage can be added to it next
function_row functions.Percent =
    Some
    (record lifting_row {
      value = Some (OfTwo twos.Percentage Y X);
      takes = compute X ∷ copy LastX X
          ∷ [];
    })
-- functions of X alone: LAST X receives X
function_row functions.Square = Some (of_x (OfTwo twos.Product X X))
function_row functions.SquareRoot = Some (of_x (OfOne ones.Root X))
-- LAST X is unchanged
function_row functions.ChangeSign =
    Some (record lifting_row { value = Some (OfOne ones.Negative X); takes = compute X ∷ [] })
function_row functions.Reciprocal = Some (of_x (OfOne ones.Inverse X))
function_row functions.AbsoluteValue = Some (of_x (OfOne ones.AbsoluteValue X))
function_row functions.TestXNotZero = Some (test (Differ (In X) Nought))
function_row functions.TestXPositive = Some (test (Below Nought (In X)))
function_row functions.TestXNegative = Some (test (Below (In X) Nought))
function_row functions.TestXZero = Some (test (Same (In X) Nought))
function_row functions.IntegerPart = Some (of_x (OfOne ones.IntegerPart X))
function_row functions.FractionPart = Some (of_x (OfOne ones.Fraction X))
function_row functions.Round = Some (of_x (OfOne ones.Displayed X))
-- functions of the stack
function_row functions.ExchangeXY = Some (record lifting_row { takes = copy X Y ∷ copy Y X ∷ [] })
function_row functions.Pi =
    Some (record (coming_in (compute X)) { value = Some (Given (pos pi)) })
function_row functions.ClearStack =
    Some (record lifting_row {
      value = Some (Given (pos 0));
      takes = compute T ∷ compute Z ∷ compute Y ∷ compute X ∷ [];
    })
function_row functions.RollUp =
    Some (record lifting_row { takes = copy X T ∷ copy Y X ∷ copy Z Y ∷ copy T Z ∷ [] })
function_row functions.RollDown =
    Some (record lifting_row { takes = copy X Y ∷ copy Y Z ∷ copy Z T ∷ copy T X ∷ [] })
function_row functions.LastX = Some (coming_in (copy X LastX))
-- stack lift is off, so that the next number replaces this zero
function_row functions.ClearX =
    Some
    (record lifting_row { value = Some (Given (pos 0)); takes = compute X ∷ []; lift = Off })
function_row functions.TestXEqualsY = Some (test (Same (In X) (In Y)))
function_row functions.TestXDiffersFromY = Some (test (Differ (In X) (In Y)))
-- the result is 0 if X contains no number
function_row functions.Signum = Some (of_x (OfOne ones.Unit X))
function_row functions.TestXAtMostZero = Some (test (AtMost (In X) Nought))
-- functions of the display
function_row functions.ViewAlpha = Some (record lifting_row { shows = AlphaText })
function_row functions.ClearDisplay = Some (record lifting_row { shows = NoText })
function_row functions.Degrees =
    Some (angles (record { flag = grads; on = false }) (record { flag = radians; on = false }))
function_row functions.Radians =
    Some (angles (record { flag = grads; on = false }) (record { flag = radians; on = true }))
function_row functions.Grads =
    Some (angles (record { flag = grads; on = true }) (record { flag = radians; on = false }))
-- X is unchanged, and stack lift is off, so that the next number replaces X
function_row functions.Enter =
    Some (record lifting_row { takes = copy T Z ∷ copy Z Y ∷ copy Y X ∷ []; lift = Off })
function_row functions.Stop = Some (record silent_row { ends = Stops })
function_row functions.Return = Some (record silent_row { goes = Returns })
-- the bench has no sound, no pause and no printer
function_row functions.Beep = Some lifting_row
function_row functions.Pause = Some lifting_row
function_row functions.Advance = Some lifting_row
-- functions of ALPHA
function_row functions.ClearAlpha = Some (record lifting_row { alpha = Some (Becomes []) })
function_row functions.ShiftAlpha = Some (record lifting_row { alpha = Some LosesSix })
function_row functions.ClearRegisters = Some (record lifting_row { clears_data = true })
-- ALPHA mode is switched off or on
function_row functions.AlphaOff =
    Some (record lifting_row { flags = record { flag = alpha_mode; on = false } ∷ [] })
function_row functions.AlphaOn =
    Some (record lifting_row { flags = record { flag = alpha_mode; on = true } ∷ [] })
function_row functions.TurnOff = Some (record lifting_row { ends = TurnsOff })
function_row functions.Prompt = Some (record lifting_row { shows = AlphaText; ends = Stops })
-- the other functions are not supported
function_row other = None
