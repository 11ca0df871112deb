-- Memory whose program is changed remains well-formed.
use Rattle.std.proofs.Common.{◌≡◌, ℕ, ◌+◌, ◌-◌, ◌*◌, ◌/◌, ◌<◌, ◌≤◌, Bool, true, false, List, [], ◌∷◌, ◌++◌, map, length, rules}
use Rattle.std.proofs.Common.{slice_set, if◌then◌else◌, Option, Some, None, Result, Ok, Err, inl, inr, refl, sym, ◌∙◌, ap, arith}
use Rattle.std.specs.Prelude.{nat_lt, All, ◌&&◌, is_some}
use Rattle.std.specs.List.{flat_map}
use Rattle.std.specs.Bool.{then_some}
use Rattle.std.specs.Option.{unwrap_or}
use Rattle.std.proofs.lemmas.Bool.{and_parts, cases_Bool, leb-true, ltb-true}
use Rattle.std.proofs.lemmas.List.Elements.{All-append, All-cons, All-head, All-map, All-nil, All-replicate, All-set, All-tail}
use Rattle.h41_codes.specs.ByteGrammar.{IsLine, IsOperand, IsText, label_byte, operand_byte, spelling, indirect_byte, text_bytes}
use Rattle.h41_codes.specs.Codes.{branch_code, character_code, function_code, name_function_code, parameter_function_code}
use Rattle.h41_codes.specs.Codes.{register_function_code}
use Rattle.h41_codes.specs.declared.characters.Character.{Character}
use Rattle.h41_codes.specs.declared.characters.Character.TheVariants as characters
use Rattle.h41_codes.specs.declared.functions.Branch.{Branch}
use Rattle.h41_codes.specs.declared.functions.Branch.TheVariants.{GoTo, Execute}
use Rattle.h41_codes.specs.declared.functions.Function.{Function}
use Rattle.h41_codes.specs.declared.functions.Function.TheVariants as functions
use Rattle.h41_codes.specs.declared.functions.NameFunction.{NameFunction}
use Rattle.h41_codes.specs.declared.functions.NameFunction.TheVariants as namings
use Rattle.h41_codes.specs.declared.functions.ParameterFunction.{ParameterFunction}
use Rattle.h41_codes.specs.declared.functions.ParameterFunction.TheVariants as parameters
use Rattle.h41_codes.specs.declared.functions.RegisterFunction.{RegisterFunction}
use Rattle.h41_codes.specs.declared.functions.RegisterFunction.TheVariants as registers
use Rattle.h41_codes.specs.declared.line.Line.{Line}
use Rattle.h41_codes.specs.declared.line.Line.TheVariants as lines
use Rattle.h41_codes.specs.declared.line.Operand.{Operand}
use Rattle.h41_codes.specs.declared.line.Operand.TheVariants.{Direct, Indirect}
use Rattle.h41_digits.specs.Register.{IsRegister}
use Rattle.h41_program.proofs.Inner.{KeepsInner, before_inner, changed_inner, closed_inner, loaded_inner}
use Rattle.h41_program.specs.Edits.{EditGives, LoadGives, LoadsBehind, before_end, close_behind, lines_of, has_line_at}
use Rattle.h41_program.specs.Edits.{load_outcome, memory_with_answer, without_end}
use Rattle.h41_program.specs.Packing.{gap, packed_lines, packing}
use Rattle.h41_program.specs.ProgramBytes.{final_position, program_bytes}
use Rattle.h41_program.specs.ProgramLaws.{IsInner}
use Rattle.h41_program.specs.ProgramLines.{LinesFrom, Reads}
use Rattle.h41_program.specs.Rewriting.{end_after, free_register, rewritten_register, with_program_bytes, with_program_lines}
use Rattle.h41_program.specs.Size.{moved_curtain, moved_end, moved_statistics, resized_c, resized_register, size_outcome, with_size}
use Rattle.h41_program.specs.declared.listed_line.ListedLine.{ListedLine}
use Rattle.h41_program.specs.declared.refusal.ProgramRefusal.{ProgramRefusal}
use Rattle.h41_ram.specs.NamedRegisters.{data_address, size_of}
use Rattle.h41_ram.specs.RegisterMap.{RegisterMap, c_address, c_of, curtain_of, end_of, is_sound}
use Rattle.h41_ram.specs.RegisterMap.{register_at, three_digits, top_of, with_three_places, zeros}
use Rattle.h41_laws_words.proofs.Registers.{digit_at, register_set, zeros_register}
use Rattle.h41_laws_calculator.specs.WholeMemory.{AreBytes, IsWholeMemory}
use Rattle.h41_laws_calculator.proofs.Bytes.{IsByte, alone, chosen, of_text, register_of}
use Rattle.h41_laws_calculator.proofs.WholeMemories.{main_written, read}

-- THE BYTES OF LINES. Codes.
code_small : (function : Function) → function_code function < 256
code_small functions.Add = omega arith
code_small function = omega arith

parameter_small : (function : ParameterFunction) → parameter_function_code function < 256
parameter_small parameters.Recall = omega arith
parameter_small function = omega arith

character_small : (character : Character) → character_code character < 256
character_small characters.Zero = omega arith
character_small character = omega arith

name_small : (function : NameFunction) → name_function_code function < 256
name_small namings.GoToName = omega arith
name_small function = omega arith

register_small : (function : RegisterFunction) (register : ℕ) → register < 16 → register_function_code function + register < 256
register_small registers.RecallRegister register small = omega arith
register_small function register small = omega arith

branch_small : (branch : Branch) (distance : ℕ) → distance < 4096 → branch_code branch + distance / 256 < 256
branch_small GoTo distance small = omega arith
branch_small Execute distance small = omega arith

operand_small : (operand : Operand) → IsOperand operand → operand_byte operand < 256
operand_small (Direct parameter) small = omega (arith, small)
operand_small (Indirect parameter) small = omega (arith, small)

indirect_small : (branch : Branch) (register : ℕ) → register < 128 → indirect_byte branch register < 256
indirect_small GoTo register small = omega (arith, small)
indirect_small Execute register small = omega (arith, small)

label_small : (backwards : Bool) (label : ℕ) → label < 128 → label_byte backwards label < 256
label_small true label small = omega (arith, small)
label_small false label small = omega (arith, small)

two : (first second : ℕ) → first < 256 → second < 256 → AreBytes (first ∷ second ∷ [])
two first second one other = All-cons IsByte first (second ∷ []) one (alone second other)

three : (first second third : ℕ) → first < 256 → second < 256 → third < 256 → AreBytes (first ∷ second ∷ third ∷ [])
three first second third one other last = All-cons IsByte first (second ∷ third ∷ []) one (two second third other last)

text_spelled : (most : ℕ) (text : List ℕ) → most ≤ 15 → IsText most text → AreBytes (text_bytes text)
text_spelled most text few is = All-cons IsByte (0xF0 + length text) text (omega (arith, is.fits)) (of_text text is.bytes)

number_spelled : (text : List Character) → AreBytes (map character_code text)
number_spelled text = All-map IsByte character_code text (λ index character within. character_small _)

pub spelled : (line : Line) → IsLine line → AreBytes (spelling line)
spelled lines.Null valid = alone 0x00 (omega arith)
spelled (lines.LocalLabel label) valid = alone (0x01 + label) (omega (arith, valid))
spelled (lines.Number text) valid = number_spelled text
spelled (lines.Named function name) valid = search (rules, All-cons, name_small, text_spelled)
spelled (lines.Register function register) valid = search (rules, alone, register_small)
spelled (lines.Plain function) valid = alone (function_code function) (code_small function)
spelled (lines.WithOperand function operand) valid = search (rules, two, parameter_small, operand_small)
spelled (lines.Module number entry) valid = search (rules, two)
spelled (lines.BranchIndirect branch register) valid = search (rules, two, indirect_small)
spelled (lines.ShortGoTo label distance) valid = two (0xB1 + label) distance (omega (arith, valid.0)) valid.1
spelled (lines.GlobalLabel link key name) valid = search (rules, All-cons, of_text)
spelled (lines.End link marks) valid = search (rules, three)
spelled (lines.FinalEnd link marks) valid = search (rules, three)
spelled (lines.BranchTo branch distance backwards label) valid = search (rules, three, branch_small, label_small)
spelled (lines.Text text) valid = text_spelled 15 text (omega arith) valid

-- The bytes of programs.
gap_bytes : (line : Line) (others : List Line) → AreBytes (gap line others)
gap_bytes line [] = All-nil IsByte
gap_bytes line (next ∷ others) = search (rules, chosen, alone, All-nil)

packed_bytes : (program : List Line) → All IsInner program → AreBytes (packed_lines program)
packed_bytes [] inner = All-nil IsByte
packed_bytes (line ∷ others) inner =
    All-append IsByte (spelling line ++ gap line others) (packed_lines others)
    (All-append IsByte (spelling line) (gap line others) (spelled line (All-head IsInner line others inner).valid) (gap_bytes line others))
    (packed_bytes others (All-tail IsInner line others inner))

pub packing_bytes : (program : List Line) → All IsInner program → AreBytes (packing program)
packing_bytes program inner = search (rules, All-append, packed_bytes, All-replicate, three)

-- MEMORY WITH ANOTHER PROGRAM. Three digits of a register.
three_small : (register : List ℕ) (place : ℕ) → IsRegister 14 register → three_digits register place < 4096
three_small register place valid = search (rules, digit_at)

pub three_set : (register : List ℕ) (place number : ℕ) → IsRegister 14 register → number < 4096
    → IsRegister 14 (with_three_places register place number)
three_set register place number valid small = search (rules, register_set)

free_valid : (memory : RegisterMap) (address : ℕ) → IsWholeMemory memory → IsRegister 14 (free_register memory address)
free_valid memory address whole = search (rules, chosen, read, zeros_register)

rewritten_valid : (memory : RegisterMap) (bytes : List ℕ) (address : ℕ) → IsWholeMemory memory → AreBytes bytes
    → IsRegister 14 (rewritten_register memory bytes address)
rewritten_valid memory bytes address whole all =
    chosen (IsRegister 14) (nat_lt address (end_after memory bytes)) _ _ (λ free. free_valid memory address whole)
    (λ other. chosen (IsRegister 14) (nat_lt address (curtain_of memory)) _ _
    (λ program. register_of bytes (7 * (curtain_of memory - 1 - address)) all) (λ above. read memory address whole))

pub rewritten : (memory : RegisterMap) (bytes : List ℕ) → IsWholeMemory memory → AreBytes bytes
    → IsWholeMemory (with_program_bytes memory bytes)
rewritten memory bytes whole all =
    let c = read memory c_address whole in
    let ends = with_three_places (c_of memory) 0 (end_after memory bytes) in
    main_written memory (slice_set memory.status c_address ends) (rewritten_register memory bytes) whole
    (All-set (IsRegister 14) memory.status c_address ends
    (three_set (c_of memory) 0 (end_after memory bytes) c (omega (arith, three_small (c_of memory) 3 c))) whole.holds.status)
    (λ address. rewritten_valid memory bytes address whole all)

-- The memory that a call leaves, if it leaves one.
abbrev pub Kept : {A : Type 0} → Result (RegisterMap × A) ProgramRefusal → Type 0
Kept (Ok outcome) = IsWholeMemory outcome.0
Kept (Err refusal) = Unit {0}

abbrev Made : Result RegisterMap ProgramRefusal → Type 0
Made (Ok memory) = IsWholeMemory memory
Made (Err refusal) = Unit {0}

written_lines : (memory : RegisterMap) (program : List Line) → IsWholeMemory memory → All IsInner program
    → Made (with_program_lines memory program)
written_lines memory program whole inner = search (rules, chosen, rewritten, packing_bytes)

answered : {A : Type 0} (answer : A) (made : Result RegisterMap ProgramRefusal) → Made made → Kept (memory_with_answer answer made)
answered answer (Ok memory) whole = whole
answered answer (Err refusal) whole = tt

-- A list of lines that is changed.
listed_inner : (memory : RegisterMap) (change : ListedLine → List Line) (listed : List ListedLine) → KeepsInner change
    → LinesFrom memory 0 listed → All IsInner (flat_map change listed)
listed_inner memory change listed keeps from = elim (cases_Bool (is_sound memory)) [
  | inl sound ↦ changed_inner (program_bytes memory) (final_position memory) change keeps 0 listed (from.sound sound)
  | inr lost ↦ rw (from.lost lost) (All-nil IsInner)
]

pub edited : (memory : RegisterMap) (change : ℕ → ListedLine → List Line) (at : ℕ)
    (outcome : Result (RegisterMap × Unit {0}) ProgramRefusal)
    → ((position : ℕ) → KeepsInner (change position)) → IsWholeMemory memory → EditGives memory change at outcome → Kept outcome
edited memory change at outcome keeps whole (inl found) =
    let listed = found.2.0 in
    rw found.2.2 (chosen (λ (of : Result (RegisterMap × Unit {0}) ProgramRefusal). Kept of)
    (is_some (before_end listed) && has_line_at found.0.position listed) _ _
    (λ has. answered tt _ (written_lines memory (flat_map (change found.0.position) listed) whole
    (listed_inner memory (change found.0.position) listed (keeps found.0.position) found.2.1))) (λ none. tt))
edited memory change at outcome keeps whole (inr none) = rw none.1 tt

-- The lines before .END.
own_inner : (memory : RegisterMap) (listed before : List ListedLine) → LinesFrom memory 0 listed → before_end listed ≡ Some before
    → All IsInner (lines_of before)
own_inner memory listed before from own = elim (cases_Bool (is_sound memory)) [
  | inl sound ↦ before_inner (program_bytes memory) (final_position memory) 0 listed before (from.sound sound) own
  | inr lost ↦ absurd (let none : ◌≡◌ {A = Option (List ListedLine)} None (Some before) = ap before_end (sym (from.lost lost)) ∙ own in cc)
]

-- A load.
load_of : (memory : RegisterMap) (before : List ListedLine) (loaded : Option (List Line)) → IsWholeMemory memory
    → All IsInner (lines_of before) → ((program : List Line) → loaded ≡ Some program → All IsInner program)
    → Kept (load_outcome memory before loaded)
load_of memory before None whole own all = tt
load_of memory before (Some program) whole own all = search (rules, answered, written_lines, All-append, closed_inner)

given_inner : (bytes : List ℕ) (t : Bool) (given : List ListedLine) (program : List Line) → Reads bytes (length bytes) 0 given
    → (if t then Some (without_end (lines_of given)) else None) ≡ Some program → All IsInner program
given_inner bytes true given program reads is = search (rules, loaded_inner)
given_inner bytes false given program reads is = search rules

loads_behind : (memory : RegisterMap) (bytes : List ℕ) (listed : List ListedLine) (own : Option (List ListedLine))
    (outcome : Result (RegisterMap × ℕ) ProgramRefusal) → IsWholeMemory memory → LinesFrom memory 0 listed → before_end listed ≡ own
    → LoadsBehind memory bytes own outcome → Kept outcome
loads_behind memory bytes listed None outcome whole from is loads = rw loads tt
loads_behind memory bytes listed (Some before) outcome whole from is loads = search (rules, load_of, own_inner, given_inner)

pub loaded : (memory : RegisterMap) (bytes : List ℕ) (outcome : Result (RegisterMap × ℕ) ProgramRefusal) → IsWholeMemory memory
    → LoadGives memory bytes outcome → Kept outcome
loaded memory bytes outcome whole gives = loads_behind memory bytes gives.0 (before_end gives.0) outcome whole gives.1 refl gives.2

-- The last program is closed.
close_of : (memory : RegisterMap) (own : Option (List ListedLine)) (listed : List ListedLine) → IsWholeMemory memory
    → LinesFrom memory 0 listed → before_end listed ≡ own → Kept (close_behind memory own)
close_of memory None listed whole from is = tt
close_of memory (Some before) listed whole from is = search (rules, chosen, answered, written_lines, closed_inner, own_inner)

pub closed : (memory : RegisterMap) (listed : List ListedLine) → IsWholeMemory memory → LinesFrom memory 0 listed
    → Kept (close_behind memory (before_end listed))
closed memory listed whole from = close_of memory (before_end listed) listed whole from refl

-- ANOTHER NUMBER OF DATA REGISTERS, if memory is sound.
record Bounds (memory : RegisterMap) : Type 0 where
  pub end : end_of memory < curtain_of memory
  pub curtain : curtain_of memory ≤ top_of memory

bounds : (memory : RegisterMap) → is_sound memory ≡ true → Bounds memory
bounds memory sound = search (rules, and_parts, ltb-true, leb-true)

data_valid : (memory : RegisterMap) (t : Bool) (register : List ℕ) → IsRegister 14 register
    → IsRegister 14 (unwrap_or (then_some t register) zeros)
data_valid memory true register valid = valid
data_valid memory false register valid = zeros_register

resized_valid : (memory : RegisterMap) (size address : ℕ) → IsWholeMemory memory → IsRegister 14 (resized_register memory size address)
resized_valid memory size address whole =
    let number = address - moved_curtain memory size in
    chosen (IsRegister 14) (nat_lt address (moved_end memory size)) _ _ (λ free. free_valid memory address whole)
    (λ other. chosen (IsRegister 14) (nat_lt address (moved_curtain memory size)) _ _
    (λ program. read memory (address + end_of memory - moved_end memory size) whole)
    (λ above. data_valid memory (nat_lt number (size_of memory)) (register_at memory (data_address memory number))
    (read memory (data_address memory number) whole)))

resized : (memory : RegisterMap) (size : ℕ) → IsWholeMemory memory → is_sound memory ≡ true → IsWholeMemory (with_size memory size)
resized memory size whole sound =
    let c = read memory c_address whole in
    let bound = bounds memory sound in
    let ends = with_three_places (c_of memory) 0 (moved_end memory size) in
    let curtains = with_three_places ends 3 (moved_curtain memory size) in
    let small_end : moved_end memory size < 4096 = omega (arith, bound.end, bound.curtain, whole.most) in
    let small_curtain : moved_curtain memory size < 4096 = omega (arith, whole.most) in
    let ends_valid : IsRegister 14 ends = three_set (c_of memory) 0 (moved_end memory size) c small_end in
    let curtains_valid : IsRegister 14 curtains = three_set ends 3 (moved_curtain memory size) ends_valid small_curtain in
    main_written memory (slice_set memory.status c_address (resized_c memory size)) (resized_register memory size) whole
    (All-set (IsRegister 14) memory.status c_address (resized_c memory size)
    (three_set curtains 11 (moved_statistics memory size) curtains_valid (omega arith)) whole.holds.status)
    (λ address. resized_valid memory size address whole)

pub sized : (memory : RegisterMap) (size : ℕ) → IsWholeMemory memory → is_sound memory ≡ true → Kept (size_outcome memory size)
sized memory size whole sound = search (rules, chosen, resized)
