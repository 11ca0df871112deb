-- The rows of lines, given the meaning of their operands.
use Rattle.std.specs.Prelude.{ℕ, ◌/◌, ◌%◌, Bool, true, false, List, [], ◌∷◌, Some, ◌==◌}
use Rattle.std.specs.Prelude.{if◌then◌else◌}
use Rattle.std.specs.Option.{option_map_or}
use Rattle.h41_codes.specs.declared.functions.Branch.{Branch}
use Rattle.h41_codes.specs.declared.functions.Branch.TheVariants.{GoTo, Execute}
use Rattle.h41_codes.specs.declared.functions.NameFunction.{NameFunction}
use Rattle.h41_codes.specs.declared.functions.NameFunction.TheVariants.{GoToName, ExecuteName}
use Rattle.h41_codes.specs.declared.functions.NameFunction.TheVariants.{Wordless}
use Rattle.h41_codes.specs.declared.functions.ParameterFunction.{ParameterFunction}
use Rattle.h41_codes.specs.declared.functions.ParameterFunction.TheVariants as functions
use Rattle.h41_codes.specs.declared.functions.RegisterFunction.{RegisterFunction}
use Rattle.h41_codes.specs.declared.functions.RegisterFunction.TheVariants.{RecallRegister}
use Rattle.h41_codes.specs.declared.functions.RegisterFunction.TheVariants.{StoreRegister}
use Rattle.h41_codes.specs.declared.line.Line.{Line}
use Rattle.h41_codes.specs.declared.line.Line.TheVariants as lines
use Rattle.h41_ram.specs.NamedFlags as flags
use Rattle.h41_rows.specs.Counters.{Way, Up, Down}
use Rattle.h41_rows.specs.FunctionRows.{function_row}
use Rattle.h41_rows.specs.Operands.{Meant, Count, Name}
use Rattle.h41_rows.specs.Places.{X, Named}
use Rattle.h41_rows.specs.Rows.{LineRow, FlagChange, Becomes, Appends, AppendsNamed, Counts, Flag}
use Rattle.h41_rows.specs.Rows.{Loops, NamedText, Returns, SixCharacters, ToLabel, ToName}
use Rattle.h41_rows.specs.Rows.{lifting_row, silent_row, copy, compute, coming_in, test}
use Rattle.h41_rows.specs.Values.{Value, OfOne, OfTwo, Written, counted}
use Rattle.h41_rows.specs.declared.values.ValueOfTwo.TheVariants as twos

-- RCL brings the named register into X.
abbrev pub recall : LineRow
recall = coming_in (copy X Named)

-- STO writes X to the named register.
abbrev pub store : LineRow
store = record lifting_row { takes = copy Named X ∷ [] }

-- Arithmetic in a register: it receives a value of itself and X. X and LAST X are unchanged.
abbrev pub into_register : Value → LineRow
into_register value = record lifting_row { value = Some value; takes = compute Named ∷ [] }

-- ISG and DSE count the named register, and continue the loop or skip a line.
abbrev pub loop : Way → LineRow
loop way = record lifting_row {
  value = Some (OfOne (counted way) Named);
  takes = compute Named ∷ [];
  goes = Counts (Loops way Named);
}

-- A flag is set or cleared.
abbrev pub change : ℕ → Bool → FlagChange
change flag on = record { flag = flag; on = on }

-- The display format: the number of digits in flags 36 to 39, of which 36 has the weight 8, and the
-- notation in flags 40 (FIX) and 41 (ENG).
abbrev pub format : ℕ → (fixed engineering : Bool) → LineRow
format n fixed engineering = record lifting_row {
  flags =
      change flags.digits_8 (n / 8 % 2 == 1) ∷ change flags.digits_4 (n / 4 % 2 == 1)
      ∷ change flags.digits_2 (n / 2 % 2 == 1) ∷ change flags.digits_1 (n % 2 == 1)
      ∷ change flags.fixed fixed ∷ change flags.engineering engineering ∷ [];
}

-- The rows of functions with a number of digits or a flag.
abbrev pub count_row : ParameterFunction → ℕ → LineRow
count_row functions.Fixed n = format n true false
count_row functions.Scientific n = format n false false
count_row functions.Engineering n = format n false true
count_row functions.SetFlag n = record lifting_row { flags = change n true ∷ [] }
count_row functions.ClearFlag n = record lifting_row { flags = change n false ∷ [] }
count_row functions.TestSet n = test (Flag n true)
count_row functions.TestClear n = test (Flag n false)
-- these test the flag and then clear it
count_row functions.TestSetAndClear n = record (test (Flag n true)) { flags = change n false ∷ [] }
count_row functions.TestClearAndClear n =
    record (test (Flag n false)) { flags = change n false ∷ [] }
-- the bench has no sound
count_row functions.Tone n = lifting_row
-- the other functions have no number
count_row function n = lifting_row

-- The rows of functions with a register.
abbrev pub register_row : ParameterFunction → LineRow
register_row functions.Recall = recall
register_row functions.Store = store
register_row functions.StoreAdd = into_register (OfTwo twos.Sum Named X)
register_row functions.StoreSubtract = into_register (OfTwo twos.Difference Named X)
register_row functions.StoreMultiply = into_register (OfTwo twos.Product Named X)
register_row functions.StoreDivide = into_register (OfTwo twos.Quotient Named X)
register_row functions.IncrementSkip = loop Up
register_row functions.DecrementSkip = loop Down
register_row functions.View = record lifting_row { shows = NamedText }
register_row functions.StoreAlpha =
    record lifting_row { takes = record { place = Named; source = SixCharacters } ∷ [] }
register_row functions.RecallAlpha = record lifting_row { alpha = Some AppendsNamed }
register_row functions.Exchange = record lifting_row { takes = copy X Named ∷ copy Named X ∷ [] }
register_row functions.Label = silent_row
-- the other functions have no register
register_row function = silent_row

-- The row of a function with this operand.
abbrev pub operand_row : ParameterFunction → Meant → LineRow
operand_row function (Count n) = count_row function n
operand_row function meant = register_row function

-- The row of RCL or STO in one byte.
abbrev pub short_row : RegisterFunction → LineRow
short_row RecallRegister = recall
short_row StoreRegister = store

-- The row of GTO or XEQ with a local label.
abbrev pub to_label : Branch → ℕ → LineRow
to_label branch label = record silent_row { goes = ToLabel branch label }

-- The row of GTO or XEQ with a name.
abbrev pub to_name : Branch → List ℕ → LineRow
to_name branch name = record silent_row { goes = ToName branch name }

-- The row of GTO IND or XEQ IND with this target.
abbrev pub to_meant : Branch → Meant → LineRow
to_meant branch (Count label) = to_label branch label
to_meant branch (Name name) = to_name branch name
to_meant branch meant = silent_row

-- The row of a line with a name.
abbrev pub named_row : NameFunction → List ℕ → LineRow
named_row GoToName name = to_name GoTo name
named_row ExecuteName name = to_name Execute name
named_row Wordless name = silent_row

-- A text replaces ALPHA. If it begins with the append sign, the rest is appended to ALPHA instead.
-- A text without characters changes nothing.
abbrev pub text_row : List ℕ → LineRow
text_row [] = lifting_row
text_row (character ∷ text) =
    record lifting_row {
      alpha = Some (if character == 0x7F then Appends text else Becomes (character ∷ text));
    }

-- The row of a line.
abbrev pub row_of : Line → Meant → LineRow
row_of lines.Null meant = lifting_row
row_of (lines.LocalLabel label) meant = silent_row
row_of (lines.Number characters) meant =
    record (coming_in (compute X)) { value = Some (Written characters) }
row_of (lines.Named function name) meant = named_row function name
row_of (lines.Register function register) meant = short_row function
row_of (lines.Plain function) meant = option_map_or (λ row. row) (function_row function) lifting_row
row_of (lines.WithOperand function operand) meant = operand_row function meant
-- the calculator calls the function
row_of (lines.Module number entry) meant = silent_row
row_of (lines.BranchIndirect branch register) meant = to_meant branch meant
row_of (lines.ShortGoTo label distance) meant = to_label GoTo label
row_of (lines.GlobalLabel link key name) meant = silent_row
-- an END returns as RTN does
row_of (lines.End link marks) meant = record silent_row { goes = Returns }
row_of (lines.FinalEnd link marks) meant = record silent_row { goes = Returns }
row_of (lines.BranchTo branch distance backwards label) meant = to_label branch label
row_of (lines.Text characters) meant = text_row characters
