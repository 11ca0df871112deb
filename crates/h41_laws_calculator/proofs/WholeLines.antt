-- Lines that are executed leave memory well-formed.
use Rattle.std.proofs.Common.{◌≡◌, ℕ, Bool, true, false, List, Option, Some, None, Result, Ok, Err, MatchBool, rules}
use Rattle.h41_codes.specs.ByteGrammar.{IsLine}
use Rattle.h41_codes.specs.declared.functions.Function.{Function}
use Rattle.h41_codes.specs.declared.line.Line.{Line}
use Rattle.h41_codes.specs.declared.line.Line.TheVariants as lines
use Rattle.h41_codes.specs.declared.line.Line.TheVariants.{Plain}
use Rattle.h41_decimal.specs.declared.fault.DecimalFault.{DecimalFault}
use Rattle.h41_decimal.specs.declared.fault.DecimalFault.TheVariants.{Data, Range}
use Rattle.h41_decimal.specs.declared.sign.Sign.{Sign}
use Rattle.h41_decimal.specs.declared.ten.Ten.{Ten}
use Rattle.h41_digits.specs.Register.{IsRegister}
use Rattle.h41_focal.specs.Destinations.{Destination, Halts, HasNoLabel, HasNoLine, Manner, Seeks, Stepped, Typed}
use Rattle.h41_focal.specs.LineStep.{AppliesTo, AppliesWith, CarriesOut, ComputesIn, Ends, EndsInError, Left, Stands}
use Rattle.h41_positions.specs.FocalState.{Machine}
use Rattle.h41_focal.specs.LineStep.{TakesLine, Works, left_by_fault}
use Rattle.h41_focal.specs.Outcomes.{Answer}
use Rattle.h41_focal.specs.Outcomes as answers
use Rattle.h41_focal.specs.declared.refusal.FocalRefusal.{FocalRefusal}
use Rattle.h41_pages.specs.PageMap.{PageMap}
use Rattle.h41_pages.specs.declared.functions.Entry.{Entry}
use Rattle.h41_positions.specs.Positions.{LineAt, found_as, in_memory, placed_in}
use Rattle.h41_positions.specs.PageLines.{AnswersLine}
use Rattle.h41_positions.specs.declared.position.PlacedLine.{PlacedLine}
use Rattle.h41_positions.specs.declared.position.Position.{Position}
use Rattle.h41_positions.specs.declared.position.Position.TheVariants.{Memory, Page}
use Rattle.h41_program.specs.ProgramLines.{AnswersFirst}
use Rattle.h41_program.specs.declared.listed_line.ListedLine.{ListedLine}
use Rattle.h41_program.specs.declared.refusal.ProgramRefusal.{ProgramRefusal}
use Rattle.h41_ram.specs.RegisterMap.{RegisterMap, is_sound}
use Rattle.h41_rows.specs.Operands.{Meant, meant_of}
use Rattle.h41_rows.specs.Rows as rows
use Rattle.h41_rows.specs.Values.{Computes, Kept, Value}
use Rattle.h41_rows.specs.declared.fault.LineFault.{LineFault}
use Rattle.h41_rows.specs.declared.fault.LineFault.TheVariants.{Nonexistent}
use Rattle.h41_focal.specs.OutsideCalls.{CallsName, CarriesLine, CarriesNamed, CarriesStanding, CarriesWhole, GoesOn, GoesOnFrom}
use Rattle.h41_focal.specs.OutsideCalls.{LineSource, left_by_entry, left_in_program, with_line_passed}
use Rattle.h41_focal.specs.OutsideCalls as sources
use Rattle.h41_laws_words.proofs.Registers.{zeros_register}
use Rattle.h41_laws_calculator.specs.WholeMemory.{IsWholeMemory}
use Rattle.h41_laws_calculator.proofs.Bytes.{chosen}
use Rattle.h41_laws_calculator.proofs.WholeMemories.{ChangesWhole, flagged, line_puts, row_kept}
use Rattle.h41_focal.specs.declared.refusal.FocalRefusal.TheVariants as refusals

-- By a test.
pub matched : (t : Bool) (A B C : Type 0) → MatchBool t A B → (A → C) → (B → C) → C
matched true A B C is first second = first is
matched false A B C is first second = second is

-- The result of a line, if there is one.
abbrev pub Leaves : Result Left FocalRefusal → Type 0
Leaves (Ok left) = IsWholeMemory left.machine.memory
Leaves (Err refusal) = Unit {0}

-- The register that a row computes.
abbrev pub IsComputed : Result (List ℕ) LineFault → Type 0
IsComputed (Ok register) = IsRegister 14 register
IsComputed (Err fault) = Unit {0}

kept_register : (sign : Sign) (ignored : Bool) (answer : Result Ten DecimalFault) (register : List ℕ)
    → Kept sign ignored answer (Ok register) → IsRegister 14 register
kept_register sign ignored (Ok number) register kept = kept.valid
kept_register sign ignored (Err Data) register kept = search rules
kept_register sign true (Err Range) register kept = kept.valid
kept_register sign false (Err Range) register kept = search rules

pub computed_by : (value : Value) (memory : RegisterMap) (named : ℕ) (result : Result (List ℕ) LineFault)
    → Computes value memory named result → IsComputed result
computed_by value memory named (Ok register) computes = kept_register _ _ computes.answer register computes.kept
computed_by value memory named (Err fault) computes = tt

computed : (memory : RegisterMap) (named : ℕ) (value : Option Value) (result : Result (List ℕ) LineFault)
    → ComputesIn memory named value result → IsComputed result
computed memory named None result is = rw is zeros_register
computed memory named (Some value) result computes = computed_by value memory named result computes

worked : (memory : RegisterMap) (named : ℕ) (row : rows.LineRow) (result : Result (List ℕ) LineFault) → Works memory named row result
    → IsComputed result
worked memory named row result works = search (rules, matched, computed)

-- A line that fails.
fault_left : (how : Manner) (machine : Machine) (fault : LineFault) → IsWholeMemory machine.memory
    → IsWholeMemory (left_by_fault how machine fault).machine.memory
fault_left (Stepped next) machine fault whole = search (rules, chosen, flagged)
fault_left Typed machine fault whole = search (rules, chosen, flagged)

fails_left : (how : Manner) (machine : Machine) (fault : LineFault) (carried : Result Left FocalRefusal) → IsWholeMemory machine.memory
    → EndsInError how machine fault carried → Leaves carried
fails_left how machine fault carried whole is = rw is (fault_left how machine fault whole)

-- A line that continues.
ends_left : (how : Manner) (old new : Machine) (answer : Answer) (to : Destination) (carried : Result Left FocalRefusal)
    → IsWholeMemory old.memory → IsWholeMemory new.memory → Ends how old new answer to carried → Leaves carried
ends_left Typed old new answer (Halts start) carried before behind is = rw is behind
ends_left how old new answer (Seeks name) carried before behind is = rw is before
ends_left how old new answer HasNoLabel carried before behind is = fails_left how old Nonexistent carried before is
ends_left how old new answer HasNoLine carried before behind is = rw is tt
ends_left how old new answer to carried before behind is = rw is behind

-- A row.
applied_with : (pages : PageMap) (how : Manner) (row : rows.LineRow) (named : ℕ) (machine : Machine) (result : Result (List ℕ) LineFault)
    (carried : Result Left FocalRefusal) → ChangesWhole row.alpha → IsWholeMemory machine.memory → IsComputed result
    → AppliesWith pages how row named machine result carried → Leaves carried
applied_with pages how row named machine (Err fault) carried puts whole valid is = fails_left how machine fault carried whole is
applied_with pages how row named machine (Ok result) carried puts whole valid is = search (rules, ends_left, row_kept)

-- A line that can be encoded in bytes.
applied_to : (pages : PageMap) (how : Manner) (line : Line) (machine : Machine) (meant : Result Meant LineFault)
    (carried : Result Left FocalRefusal) → IsLine line → IsWholeMemory machine.memory → AppliesTo pages how line machine meant carried
    → Leaves carried
applied_to pages how line machine (Err fault) carried valid whole is = fails_left how machine fault carried whole is
applied_to pages how line machine (Ok meant) carried valid whole is = search (rules, applied_with, worked, line_puts)

carried_out : (pages : PageMap) (how : Manner) (line : Line) (machine : Machine) (carried : Result Left FocalRefusal) → IsLine line
    → IsWholeMemory machine.memory → CarriesOut pages how line machine carried → Leaves carried
carried_out pages how (lines.Module number entry) machine carried valid whole is = rw is whole
carried_out pages how line machine carried valid whole is =
    applied_to pages how line machine (meant_of machine.memory line) carried valid whole is

taken : (pages : PageMap) (how : Manner) (line : Line) (machine : Machine) (carried : Result Left FocalRefusal) → IsLine line
    → IsWholeMemory machine.memory → TakesLine pages how line machine carried → Leaves carried
taken pages how line machine carried valid whole is = search (rules, matched, carried_out)

-- A line at a position can be encoded in bytes.
first_valid : (memory : RegisterMap) (at : ℕ) (found : Result ListedLine ProgramRefusal) (first : PlacedLine)
    → AnswersFirst memory at found → Ok first ≡ found_as in_memory found → IsLine first.line
first_valid memory at (Ok listed) first stands is = search rules
first_valid memory at (Err refusal) first stands is = search rules

page_valid : (page : ℕ) (code : List ℕ) (at : ℕ) (found : Result ListedLine ProgramRefusal) (first : PlacedLine)
    → AnswersLine code at found → Ok first ≡ found_as (placed_in page) found → IsLine first.line
page_valid page code at (Ok listed) first stands is = search rules
page_valid page code at (Err refusal) first stands is = search rules

line_valid : (pages : PageMap) (memory : RegisterMap) (at : Position) (first : PlacedLine) → LineAt pages memory at (Ok first)
    → IsLine first.line
line_valid pages memory (Memory at) first is = first_valid memory at is.0 first is.1 is.2
line_valid pages memory (Page address) first is = search (rules, page_valid)

-- THE LINES OF THE CALCULATOR, with all that they call. A typed line can be encoded in bytes.
abbrev pub IsWholeSource : LineSource → Type 0
IsWholeSource sources.Program = Unit {0}
IsWholeSource (sources.Keys line) = IsLine line

passed : (how : Manner) (lifts : Bool) (machine : Machine) → IsWholeMemory machine.memory
    → IsWholeMemory (with_line_passed how lifts machine).memory
passed (Stepped next) lifts machine whole = whole
passed Typed lifts machine whole = whole

in_program : (how : Manner) (lifts : Bool) (start : Position) (machine : Machine) → IsWholeMemory machine.memory
    → IsWholeMemory (left_in_program how lifts start machine).machine.memory
in_program (Stepped next) lifts start machine whole = whole
in_program Typed lifts start machine whole = whole

by_entry : (how : Manner) (lifts : Bool) (entry : Option Entry) (machine : Machine) → IsWholeMemory machine.memory
    → IsWholeMemory (left_by_entry how lifts entry machine).machine.memory
by_entry how lifts (Some entry) machine whole = search (rules, chosen, in_program, passed)
by_entry how lifts None machine whole = fault_left how machine Nonexistent whole

named : (pages : PageMap) (how : Manner) (function : Option Function) (machine : Machine) (carried : Result Left FocalRefusal)
    → IsWholeMemory machine.memory → CarriesNamed pages how function machine carried → Leaves carried
named pages how (Some function) machine carried whole is = taken pages how (Plain function) machine carried tt whole is
named pages how None machine carried whole is = rw is (fault_left how machine Nonexistent whole)

called_name : (pages : PageMap) (how : Manner) (numbers : Option (ℕ × ℕ)) (name : List ℕ) (machine : Machine)
    (carried : Result Left FocalRefusal) → IsWholeMemory machine.memory → CallsName pages how numbers name machine carried
    → Leaves carried
called_name pages how (Some numbers) name machine carried whole is = search (rules, by_entry)
called_name pages how None name machine carried whole is = named pages how is.0 machine carried whole is.2

goes_on : (pages : PageMap) (how : Manner) (machine : Machine) (left : Left) (answer : Answer) (carried : Result Left FocalRefusal)
    → IsWholeMemory machine.memory → IsWholeMemory left.machine.memory → GoesOn pages how machine left answer carried → Leaves carried
goes_on pages how machine left (answers.Calls number entry) carried whole after is = search (rules, by_entry)
goes_on pages how machine left (answers.Seeks name) carried whole after is = search (rules, called_name)
goes_on pages how machine left answer carried whole after is = rw is after

goes_on_from : (pages : PageMap) (how : Manner) (machine : Machine) (own carried : Result Left FocalRefusal)
    → IsWholeMemory machine.memory → Leaves own → GoesOnFrom pages how machine own carried → Leaves carried
goes_on_from pages how machine (Ok left) carried whole after is = goes_on pages how machine left left.answer carried whole after is
goes_on_from pages how machine (Err refusal) carried whole after is = rw is tt

carried_whole : (pages : PageMap) (how : Manner) (line : Line) (machine : Machine) (carried : Result Left FocalRefusal) → IsLine line
    → IsWholeMemory machine.memory → CarriesWhole pages how line machine carried → Leaves carried
carried_whole pages how line machine carried valid whole is = search (rules, goes_on_from, taken)

carried_standing : (pages : PageMap) (machine : Machine) (standing : Result (Line × Position) FocalRefusal)
    (carried : Result Left FocalRefusal) → IsWholeMemory machine.memory → Stands pages machine standing
    → CarriesStanding pages machine standing carried → Leaves carried
carried_standing pages machine (Ok standing) carried whole stands is =
    let first = stands.1 in
    let valid = line_valid pages machine.memory machine.focal.position first.0 first.1 in
    carried_whole pages (Stepped standing.1) standing.0 machine carried (rw (← first.2) valid) whole is
carried_standing pages machine (Err refusal) carried whole stands is = rw is tt

-- A line leaves memory well-formed.
pub line_leaves : (source : LineSource) (pages : PageMap) (machine : Machine) (carried : Result Left FocalRefusal) → IsWholeSource source
    → IsWholeMemory machine.memory → CarriesLine source pages machine carried → Leaves carried
line_leaves sources.Program pages machine carried valid whole is = carried_standing pages machine is.0 carried whole is.1 is.2
line_leaves (sources.Keys line) pages machine carried valid whole is =
    matched (is_sound machine.memory) (CarriesWhole pages Typed line machine carried) (carried ≡ Err refusals.MemoryLost)
    (Leaves carried) is (carried_whole pages Typed line machine carried valid whole) (λ lost. rw lost tt)
