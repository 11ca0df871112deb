-- The effect of a line as data: a row of a table. What a row does not name is unchanged.
use Rattle.std.specs.Prelude.{ℕ, Bool, true, false, List, [], ◌∷◌, ◌++◌, Option, None, Some}
use Rattle.std.specs.Option.{option_map_or}
use Rattle.h41_codes.specs.declared.functions.Branch.{Branch}
use Rattle.h41_rows.specs.Counters.{Way}
use Rattle.h41_rows.specs.Places.{RowPlace, T, Z, Y, X, LastX}
use Rattle.h41_rows.specs.Values.{Value, Given, Written, OfOne, OfTwo}
use Rattle.h41_rows.specs.declared.values.ValueOfOne.TheVariants.{Unit}

-- What a place receives. All of it is read before the line changes anything.
pub data RegisterSource : Type 0 where
  -- the register of a place, whatever it contains
  From : RowPlace → RegisterSource
  -- the value that the line computes
  Result : RegisterSource
  -- the first six characters of ALPHA
  SixCharacters : RegisterSource

-- A place receives a register.
pub record Takes : Type 0 where
  pub place : RowPlace
  pub source : RegisterSource

-- A change of ALPHA.
pub data AlphaChange : Type 0 where
  -- these characters replace ALPHA
  Becomes : List ℕ → AlphaChange
  -- these characters are appended
  Appends : List ℕ → AlphaChange
  -- the text of the register that the line names is appended
  AppendsNamed : AlphaChange
  -- the first six characters are removed
  LosesSix : AlphaChange

-- A flag is set or cleared.
pub record FlagChange : Type 0 where
  pub flag : ℕ
  pub on : Bool

-- What a test compares: the register of a place, or zero.
pub data Term : Type 0 where
  In : RowPlace → Term
  Nought : Term

-- The condition that a line tests before execution continues.
pub data Condition : Type 0 where
  -- the registers are the same, digit for digit
  Same : Term → Term → Condition
  Differ : Term → Term → Condition
  -- the first number is below the second, or at most the second
  Below : Term → Term → Condition
  AtMost : Term → Term → Condition
  -- a flag is set, or is clear
  Flag : ℕ → Bool → Condition
  -- a loop continues, by its counter in a place
  Loops : Way → RowPlace → Condition

-- The place at which execution continues after a line.
pub data Going : Type 0 where
  -- at the next line
  Next : Going
  -- at the next line if the condition is true, otherwise after it; if the line is typed, the answer
  -- is shown instead
  Tests : Condition → Going
  -- the same for a loop; if the line is typed, nothing is tested
  Counts : Condition → Going
  -- at the label with a number, or with a name
  ToLabel : Branch → ℕ → Going
  ToName : Branch → List ℕ → Going
  -- at the return address
  Returns : Going

-- What the display shows after the line.
pub data Showing : Type 0 where
  -- what it showed before
  AsBefore : Showing
  -- no text
  NoText : Showing
  -- the text of the register that the line names, or of ALPHA
  NamedText : Showing
  AlphaText : Showing

-- Whether the program continues after the line.
pub data RowEnding : Type 0 where
  GoesOn : RowEnding
  Stops : RowEnding
  TurnsOff : RowEnding

-- The state of stack lift after the line. Which lines turn it on is this project's choice.
pub data Lift : Type 0 where
  On : Lift
  Off : Lift
  AsItWas : Lift

-- The row of a line.
pub record LineRow : Type 0 where
  -- the value that is computed
  pub value : Option Value
  -- whether the stack is lifted first if stack lift is on
  pub lifts : Bool
  pub takes : List Takes
  pub alpha : Option AlphaChange
  pub flags : List FlagChange
  -- whether all data registers become zero
  pub clears_data : Bool
  pub lift : Lift
  pub goes : Going
  pub shows : Showing
  pub ends : RowEnding

-- The row of a line that only turns stack lift on.
abbrev pub lifting_row : LineRow
lifting_row = record {
  value = None;
  lifts = false;
  takes = [];
  alpha = None;
  flags = [];
  clears_data = false;
  lift = On;
  goes = Next;
  shows = AsBefore;
  ends = GoesOn;
}

-- The row of a line that changes nothing, stack lift included.
abbrev pub silent_row : LineRow
silent_row = record lifting_row { lift = AsItWas }

-- A place receives the register of another place.
abbrev pub copy : RowPlace → RowPlace → Takes
copy place other = record { place = place; source = From other }

-- A place receives the computed register.
abbrev pub compute : RowPlace → Takes
compute place = record { place = place; source = Result }

-- X receives a value of X, and LAST X receives X.
abbrev pub of_x : Value → LineRow
of_x value = record lifting_row { value = Some value; takes = compute X ∷ copy LastX X ∷ [] }

-- X receives a value of Y and X, LAST X receives X, and the stack drops: T is unchanged.
abbrev pub of_y_and_x : Value → LineRow
of_y_and_x value = record lifting_row {
  value = Some value;
  takes = compute X ∷ copy Y Z ∷ copy Z T ∷ copy LastX X ∷ [];
}

-- X receives a register, and the stack is lifted first.
abbrev pub coming_in : Takes → LineRow
coming_in taken = record lifting_row { lifts = true; takes = taken ∷ [] }

-- A test.
abbrev pub test : Condition → LineRow
test condition = record lifting_row { goes = Tests condition }

-- The places that must contain numbers: those of the value, and those of the condition.

-- The places of a value that must contain numbers.
abbrev pub places_in_value : Value → List RowPlace
places_in_value (Given number) = []
places_in_value (Written characters) = []
-- the unit of a register without a number is 0
places_in_value (OfOne Unit a) = []
places_in_value (OfOne value a) = a ∷ []
places_in_value (OfTwo value a b) = a ∷ b ∷ []

-- The place of a term, unless it is zero.
abbrev pub places_in_term : Term → List RowPlace
places_in_term (In place) = place ∷ []
places_in_term Nought = []

-- The places of a condition that must contain numbers.
abbrev pub places_in_condition : Condition → List RowPlace
places_in_condition (Same a b) = []
places_in_condition (Differ a b) = []
places_in_condition (Below a b) = places_in_term a ++ places_in_term b
places_in_condition (AtMost a b) = places_in_term a ++ places_in_term b
places_in_condition (Flag flag on) = []
places_in_condition (Loops way place) = place ∷ []

-- The places that must contain numbers so that execution can continue.
abbrev pub places_in_going : Going → List RowPlace
places_in_going (Tests condition) = places_in_condition condition
places_in_going (Counts condition) = places_in_condition condition
places_in_going going = []

-- The places of a row that must contain numbers.
abbrev pub numbers_of : LineRow → List RowPlace
numbers_of row = option_map_or places_in_value row.value [] ++ places_in_going row.goes
