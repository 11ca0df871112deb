-- The first error of a source, because of which it is refused. First come the errors that do not
-- depend on the addresses of labels, by lines, those of a line in the order BadLine (30),
-- BadOperand (31), LabelTwice (32), TooLong (35); then those of references, NoLabel (33) and TooFar
-- (34), by lines.
use Rattle.std.specs.Prelude.{ℕ, ◌+◌, pos, ◌-ℤ◌, Bool, false, not, ◌&&◌, ◌||◌, List, map, take}
use Rattle.std.specs.Prelude.{sum_by, find, filter_map, slice_get, nat_le, nat_lt, is_some, Option}
use Rattle.std.specs.Prelude.{Some, None, option_map, Result, Ok, Err, bytes_eq}
use Rattle.std.specs.Bool.{then_some}
use Rattle.std.specs.List.{enumerate_from, list_any}
use Rattle.std.specs.Option.{option_or}
use Rattle.std.specs.Result.{result_err}
use Rattle.h41_asm.specs.declared.fault.SourceFault.{SourceFault}
use Rattle.h41_asm.specs.declared.fault.SourceFault.TheVariants.{LabelTwice, NoLabel, TooFar}
use Rattle.h41_asm.specs.declared.fault.SourceFault.TheVariants.{TooLong}
use Rattle.h41_asm.specs.Assembly.{address_count}
use Rattle.h41_asm.specs.Placing.{Labels}
use Rattle.h41_asm.specs.SourceLines.{SourceLine, source_lines}
use Rattle.h41_asm.specs.Statements.{Statement, Words, OutOfReach, LongJumpTo, ShortJumpTo, EntryAt}
use Rattle.h41_asm.specs.Statements.{is_in_reach, reading_of, statement_length}

-- The number of words of a line as it was read. A line with an error has none.
abbrev pub read_length : Result Statement SourceFault → ℕ
read_length (Ok statement) = statement_length statement
read_length (Err fault) = 0

-- The number of words of a line.
abbrev pub line_length : SourceLine → ℕ
line_length line = read_length (reading_of line.code)

-- A source line with its number, counted from 1, its address, and the lines before it.
pub record NumberedSourceLine : Type 0 where
  pub number : ℕ
  pub address : ℕ
  pub earlier : List SourceLine
  pub line : SourceLine

-- The line with an index, counted from 0, among all lines. Its address is the origin plus the
-- lengths of the lines before it.
abbrev pub line_at_place : ℕ → List SourceLine → ℕ → SourceLine → NumberedSourceLine
line_at_place origin all place line =
    let earlier = take place all in
    record {
      number = place + 1;
      address = origin + sum_by line_length earlier;
      earlier = earlier;
      line = line;
    }

-- The lines of a source, each with its number and address.
abbrev pub numbered_lines : ℕ → List SourceLine → List NumberedSourceLine
numbered_lines origin all =
    map (λ entry. line_at_place origin all entry.0 entry.1) (enumerate_from 0 all)

-- An error and the number of its line, or none.
abbrev pub FaultOnLine : Type 0
FaultOnLine = Option (SourceFault × ℕ)

-- The error of the line with this number, or none.
abbrev pub at_line : ℕ → Option SourceFault → FaultOnLine
at_line number None = None
at_line number (Some fault) = Some (fault, number)

-- Whether the label of a line is this name.
abbrev pub has_label : List ℕ → Option (List ℕ) → Bool
has_label name None = false
has_label name (Some label) = bytes_eq name label

-- LabelTwice (32): whether an earlier line has the same label.
abbrev pub is_labelled_twice : List SourceLine → Option (List ℕ) → Bool
is_labelled_twice earlier None = false
is_labelled_twice earlier (Some name) = list_any (λ line. has_label name line.label) earlier

-- TooLong (35): whether a label at an address, or one of this number of words from there on, is
-- after the last address.
abbrev pub is_past : ℕ → Option (List ℕ) → ℕ → Bool
is_past address label length =
    (is_some label && nat_le address_count address) || nat_lt address_count (address + length)

-- The first error of a line at an address that does not depend on the addresses of labels: BadLine
-- (30) or BadOperand (31), LabelTwice (32), TooLong (35). Whether an earlier line has the label is
-- given.
abbrev pub own_fault : Bool → ℕ → SourceLine → Option SourceFault
own_fault twice address line =
    option_or (result_err (reading_of line.code)) (option_or (then_some twice LabelTwice)
    (then_some (is_past address line.label (line_length line)) TooLong))

-- The first error, independent of the addresses of labels, of a numbered line.
abbrev pub own_fault_at : NumberedSourceLine → Option SourceFault
own_fault_at at = own_fault (is_labelled_twice at.earlier at.line.label) at.address at.line

-- The addresses of labels: that of the first line with the label.
abbrev pub label_address : List NumberedSourceLine → Labels
label_address all name =
    option_map (λ at. at.address) (find (λ at. has_label name at.line.label) all)

-- The error of a reference of a short jump: NoLabel (33) if no line has the label, TooFar (34) if
-- the displacement is out of range.
abbrev pub reach_fault : ℕ → Option ℕ → Option SourceFault
reach_fault address None = Some NoLabel
reach_fault address (Some target) = then_some (not (is_in_reach (pos target -ℤ pos address))) TooFar

-- The error of any other reference: NoLabel (33) if no line has the label.
abbrev pub missing_fault : Option ℕ → Option SourceFault
missing_fault None = Some NoLabel
missing_fault (Some target) = None

-- The error of the reference of a statement at an address.
abbrev pub reference_fault : Labels → ℕ → Statement → Option SourceFault
reference_fault labels address (Words words) = None
reference_fault labels address OutOfReach = Some TooFar
reference_fault labels address (LongJumpTo condition kind name) = missing_fault (labels name)
reference_fault labels address (ShortJumpTo condition name) = reach_fault address (labels name)
reference_fault labels address (EntryAt bits name) = missing_fault (labels name)

-- The error of the reference of a line as it was read.
abbrev pub read_fault : Labels → ℕ → Result Statement SourceFault → Option SourceFault
read_fault labels address (Ok statement) = reference_fault labels address statement
read_fault labels address (Err fault) = None

-- The error of the reference of a line with its number and address.
abbrev pub reference_fault_at : Labels → NumberedSourceLine → Option SourceFault
reference_fault_at labels at = read_fault labels at.address (reading_of at.line.code)

-- The first error of lines, and the number of its line.
abbrev pub first_fault : (NumberedSourceLine → Option SourceFault)
    → List NumberedSourceLine → FaultOnLine
first_fault fault all = slice_get (filter_map (λ at. at_line at.number (fault at)) all) 0

-- The first error of a source.
abbrev pub assembly_fault : List ℕ → ℕ → FaultOnLine
assembly_fault source origin =
    let all = numbered_lines origin (source_lines source) in
    option_or (first_fault own_fault_at all)
    (first_fault (reference_fault_at (label_address all)) all)
