-- Calculators remain whole.
use Rattle.std.proofs.Common.{◌≡◌, ℕ, ◌+◌, ◌-◌, ◌<◌, ◌≤◌, Bool, true, false, [], ◌∷◌, Option, Some, None, Result, Ok, Err, refl}
use Rattle.std.proofs.Common.{ap, ◌∙◌, arith, length, slice_set, rules}
use Rattle.std.specs.Bool.{then_some}
use Rattle.std.specs.Option.{option_or}
use Rattle.std.specs.Prelude.{All, MatchOption, not}
use Rattle.std.specs.Result.{result_unwrap_or}
use Rattle.std.proofs.Math.ListN.{length-set}
use Rattle.std.proofs.lemmas.Bool.{and_parts, leb-true}
use Rattle.std.proofs.lemmas.List.{length-replicate}
use Rattle.std.proofs.lemmas.List.Elements.{All-append, All-cons, All-from_recursion, All-nil, All-replicate, All-set}
use Rattle.h41_digits.specs.Register.{IsRegister}
use Rattle.h41_positions.specs.FocalState.{Machine}
use Rattle.h41_focal.specs.Outcomes.{Answer}
use Rattle.h41_focal.specs.Outcomes as answers
use Rattle.h41_nut.specs.Addresses.{address_count}
use Rattle.h41_nut.specs.MemoryWords.{block_address}
use Rattle.h41_nut.specs.Processor.{Processor, at_function, initial_state}
use Rattle.h41_nut.specs.WordStep.{Micro, Nut, WordEffect, ram_after}
use Rattle.h41_pages.proofs.OtherPages.{bank_below}
use Rattle.h41_pages.proofs.PageMaps.{choice_changed, choices_cleared, image_changed, none_held, none_is_page_map, page_changed}
use Rattle.h41_pages.proofs.PageMaps.{plugged_held}
use Rattle.h41_pages.specs.Addresses.{is_pluggable}
use Rattle.h41_pages.specs.PageMap.{IsPageMap, PageMap, bank_numbered, bank_place, is_bank, no_banks, with_page_image, without_images}
use Rattle.h41_pages.specs.declared.refusal.UnplugRefusal.{UnplugRefusal}
use Rattle.h41_pages.specs.declared.refusal.UnplugRefusal.TheVariants as unplugs
use Rattle.h41_program.specs.Size.{size_outcome}
use Rattle.h41_program.specs.declared.refusal.ProgramRefusal.{ProgramRefusal}
use Rattle.h41_ram.specs.RegisterMap as ram
use Rattle.h41_ram.specs.RegisterMap.{RegisterMap, empty_program, is_sound, sound_constant, start_c, start_curtain, start_d}
use Rattle.h41_ram.specs.RegisterMap.{with_three_places, zeros}
use Rattle.h41_words.specs.declared.rows.Row.{Row}
use Rattle.h41_words.specs.declared.rows.Row.TheVariants as rows
use Rattle.h41_xrom.specs.Calculator.{CalculatorState, StepIn, StepsByLine, after_answer, after_line, after_word, machine_of}
use Rattle.h41_xrom.specs.Calculator.{not_typing, with_function, with_machine, with_pages}
use Rattle.h41_focal.specs.LineStep.{Left}
use Rattle.h41_xrom.specs.Messages.{processor_after}
use Rattle.h41_xrom.specs.Programs.{after_load, after_size, unless_refused, change_refusal}
use Rattle.h41_xrom.specs.declared.calculator.Caller.{Caller}
use Rattle.h41_xrom.specs.declared.calculator.Mode.{Mode}
use Rattle.h41_xrom.specs.declared.calculator.Mode.TheVariants as modes
use Rattle.h41_xrom.specs.declared.refusal.CalculatorRefusal.{CalculatorRefusal}
use Rattle.h41_xrom.specs.declared.refusal.CalculatorRefusal.TheVariants.{Busy, MemoryLost}
use Rattle.h41_laws_words.proofs.Registers.{zeros_register}
use Rattle.h41_digits.proofs.Packed.{register-digits_of}
use Rattle.h41_laws_words.specs.WholeStates.{HasAllRegisters, HoldsRegisters, IsWhole, WordLeavesWhole}
use Rattle.h41_laws_calculator.specs.WholeCalculators.{CallLeavesWhole, IsWholeCalculator, LoadLeavesWhole, PlugLeavesWhole}
use Rattle.h41_laws_calculator.specs.WholeCalculators.{ResetLeavesWhole, SizeLeavesWhole, StartIsWhole, StepLeavesWhole, UnplugLeavesWhole}
use Rattle.h41_laws_calculator.specs.WholeMemory.{IsWholeMemory}
use Rattle.h41_laws_calculator.proofs.WholeLines.{line_leaves}
use Rattle.h41_laws_calculator.proofs.WholeMemories.{size_with}
use Rattle.h41_laws_calculator.proofs.WholePrograms.{Kept, loaded, sized, three_set}
use Rattle.h41_program.specs.Edits.{LoadGives}
use Rattle.h41_focal.specs.OutsideCalls as sources

-- The memory of a calculator.
pub memory_of : (s : CalculatorState) → IsWholeCalculator s → IsWholeMemory s.nut.ram
memory_of s whole = record { holds = whole.nut.memory; most = whole.most }

-- The processor with another state of the display.
answered : (answer : Answer) (s : Processor) → HasAllRegisters s → HasAllRegisters (processor_after answer s)
answered answers.TurnedOff s has = search rules
answered answer s has = has

-- The address where a function begins.
addresses : (address : ℕ) → address < address_count → All (λ address. address < address_count) (address ∷ 0 ∷ 0 ∷ 0 ∷ [])
addresses address small = search (rules, All-from_recursion)

begun : (s : Processor) (address : ℕ) → HasAllRegisters (at_function s address)
begun s address = search (rules, zeros_register, addresses)

initial : HasAllRegisters initial_state
initial = search (rules, zeros_register, addresses)

-- LINES. Only memory and what no word reads change.
pub machine_set : (machine : Machine) (s : CalculatorState) → IsWholeCalculator s → IsWholeMemory machine.memory
    → IsWholeCalculator (with_machine machine s)
machine_set machine s whole memory = search rules

typing_ended : (s : CalculatorState) → IsWholeCalculator s → IsWholeCalculator (not_typing s)
typing_ended s whole = record { nut = whole.nut; most = whole.most; input = record { entry = tt; prompt = whole.input.prompt } }

function_begun : (address : ℕ) (s : CalculatorState) → IsWholeCalculator s → IsWholeCalculator (with_function address s)
function_begun address s whole = search (rules, begun)

answer_shown : (answer : Answer) (s : CalculatorState) → IsWholeCalculator s → IsWholeCalculator (after_answer answer s)
answer_shown (answers.Begins address) s whole = function_begun address s whole
answer_shown answer s whole = search (rules, answered)

pub line_left : (s : CalculatorState) (left : Left) → IsWholeCalculator s → IsWholeMemory left.machine.memory
    → IsWholeCalculator (after_line s left)
line_left s left whole memory = answer_shown left.answer (with_machine left.machine s) (machine_set left.machine s whole memory)

-- WORDS do not change the size of memory.
ram_size : (row : Row) (s : Nut) → length (ram_after row s).main ≡ length s.ram.main
ram_size rows.WriteData s = size_with s.ram s.processor.selected s.processor.c
ram_size (rows.Write register) s = size_with s.ram (block_address register s.processor) s.processor.c
ram_size row s = refl

word_size : (row : Row) (s t : Nut) → WordEffect row s t → length t.ram.main ≡ length s.ram.main
word_size (rows.Arithmetic operation field) s t effect = ap (λ (nut : Nut). length nut.ram.main) effect.1
word_size row s t effect = ap (λ (nut : Nut). length nut.ram.main) effect ∙ ram_size row s

-- A STEP
module _ (words : WordLeavesWhole) where
  by_line : (s t : CalculatorState) → IsWholeCalculator s → StepsByLine s t → IsWholeCalculator t
  by_line s t whole is =
      let memory = line_leaves sources.Program s.nut.pages (machine_of s) (Ok is.0) tt (memory_of s whole) is.1 in
      rw is.2 (line_left (not_typing s) is.0 (typing_ended s whole) memory)

  by_word : (caller : Caller) (s t : CalculatorState) → IsWholeCalculator s → Micro s.nut t.nut
      → IsWholeCalculator (after_word caller s t.nut)
  by_word caller s t whole is = search (rules, word_size)

  step_in : (mode : Mode) (s t : CalculatorState) → IsWholeCalculator s → StepIn mode s t → IsWholeCalculator t
  step_in modes.Idle s t whole is = by_line s t whole is
  step_in modes.Run s t whole is = by_line s t whole is
  step_in (modes.Micro caller) s t whole is = rw is.1 (by_word caller s t whole is.0)

  pub step_whole : StepLeavesWhole
  step_whole s t whole is = step_in s.mode s t whole is

-- A CALL
pub call_whole : CallLeavesWhole
call_whole address s whole = function_begun address (not_typing s) (typing_ended s whole)

-- PROGRAMS. The result, if there is one.
abbrev pub MadeWhole : Result CalculatorState CalculatorRefusal → Type 0
MadeWhole (Ok made) = IsWholeCalculator made
MadeWhole (Err refusal) = Unit {0}

pub becomes_whole : (made : Result CalculatorState CalculatorRefusal) (s : CalculatorState) → IsWholeCalculator s → MadeWhole made
    → IsWholeCalculator (result_unwrap_or made s)
becomes_whole (Ok made) s whole is = is
becomes_whole (Err refusal) s whole is = whole

pub by_refusal : (why : Option CalculatorRefusal) (made : Result CalculatorState CalculatorRefusal) (A : Type 0)
    → MatchOption why A (λ why. made ≡ Err why) → (why ≡ None → A → MadeWhole made) → MadeWhole made
by_refusal None made A is goes = goes refl is
by_refusal (Some why) made A is goes = rw is tt

memory_set : (memory : RegisterMap) (s : CalculatorState) → IsWholeCalculator s → IsWholeMemory memory
    → IsWhole (record s.nut { ram = memory })
memory_set memory s whole is = search rules

load_whole : (s : CalculatorState) (outcome : Result (RegisterMap × ℕ) ProgramRefusal) → IsWholeCalculator s → Kept outcome
    → MadeWhole (after_load s outcome)
load_whole s (Ok outcome) whole kept = search (rules, memory_set)
load_whole s (Err why) whole kept = tt

pub loads_whole : LoadLeavesWhole
loads_whole bytes s t refusal whole is =
    let of =
    by_refusal (change_refusal s) is.0
    ((outcome : Result (RegisterMap × ℕ) ProgramRefusal) × LoadGives s.nut.ram bytes outcome × (is.0 ≡ after_load s outcome)) is.1
    (λ none gives. rw gives.2 (load_whole s gives.0 whole (loaded s.nut.ram bytes gives.0 (memory_of s whole) gives.1))) in
    rw is.2.0 (becomes_whole is.0 s whole of)

size_whole : (s : CalculatorState) (outcome : Result (RegisterMap × Unit {0}) ProgramRefusal) → IsWholeCalculator s → Kept outcome
    → MadeWhole (after_size s outcome)
size_whole s (Ok outcome) whole kept = search (rules, memory_set)
size_whole s (Err why) whole kept = tt

size_made : (idle sound : Bool) (s : CalculatorState) (count : ℕ) → is_sound s.nut.ram ≡ sound → IsWholeCalculator s
    → MadeWhole (unless_refused (option_or (then_some (not idle) Busy) (then_some (not sound) MemoryLost))
    (after_size s (size_outcome s.nut.ram count)))
size_made false sound s count is whole = tt
size_made true false s count is whole = tt
size_made true true s count is whole = size_whole s (size_outcome s.nut.ram count) whole (sized s.nut.ram count (memory_of s whole) is)

pub sizes_whole : SizeLeavesWhole
sizes_whole count s whole = search (rules, becomes_whole, size_made)

-- PAGES
pages_set : (all : PageMap) (s : CalculatorState) → IsWholeCalculator s → IsPageMap all → IsWholeCalculator (with_pages all s)
pages_set all s whole is = search rules

page_below : (page : ℕ) → is_pluggable page ≡ true → page < 16
page_below page is = search (rules, leb-true, and_parts)

pub plugs_whole : PlugLeavesWhole
plugs_whole page bank writable words s whole none =
    let held = plugged_held s.nut.pages page bank writable words none in
    let place = bank_place (bank_numbered bank) in
    pages_set (with_page_image s.nut.pages page bank writable words) s whole
    (image_changed s.nut.pages page place (Some (record { words = words; writable = writable })) whole.nut.pages
    (page_below page (and_parts (is_pluggable page) (is_bank (place + 1)) held.held).0) (bank_below (bank_numbered bank)) held)

not_refused : (t : Bool) (why : UnplugRefusal) (other : Option UnplugRefusal) → option_or (then_some (not t) why) other ≡ None → t ≡ true
not_refused true why other is = refl
not_refused false why other is = absurd (let never : ◌≡◌ {A = Option UnplugRefusal} (Some why) None = is in cc)

pub unplugs_whole : UnplugLeavesWhole
unplugs_whole page s whole none =
    let pages = s.nut.pages in
    let below = page_below page (not_refused (is_pluggable page) unplugs.NoSuchPage _ none) in
    let emptied = record pages { images = slice_set pages.images page no_banks } in
    pages_set (without_images pages page) s whole
    (choice_changed emptied page _ (page_changed pages page no_banks whole.nut.pages below refl (none_held page)))

-- THE INITIAL STATE
curtain_small : (registers : ℕ) → registers ≤ 320 → start_curtain registers ≤ 512
curtain_small registers most = omega (arith, most)

c_valid : (curtain : ℕ) → curtain ≤ 512 → IsRegister 14 (start_c curtain)
c_valid curtain most =
    let ends = three_set zeros 0 (curtain - 1) zeros_register (omega (arith, most)) in
    let curtains = three_set (with_three_places zeros 0 (curtain - 1)) 3 curtain ends (omega (arith, most)) in
    three_set _ 11 (curtain + 11) (three_set _ 6 sound_constant curtains (omega arith)) (omega (arith, most))

d_valid : IsRegister 14 start_d
d_valid = register-digits_of 14 0x2C048000

empty_valid : IsRegister 14 empty_program
empty_valid = register-digits_of 14 0xC00020

memory_start : (registers : ℕ) → registers ≤ 320 → HoldsRegisters (ram.start registers)
memory_start registers most =
    search (rules, All-append, All-replicate, zeros_register, All-cons, c_valid, curtain_small, d_valid, All-nil, All-set, empty_valid)

main_size : (registers : ℕ) → length (ram.start registers).main ≡ registers
main_size registers = search (rules, length-set, length-replicate)

pub start_whole : StartIsWhole
start_whole registers most = search (rules, initial, memory_start, none_is_page_map, main_size)

pub reset_whole : ResetLeavesWhole
reset_whole s whole = search (rules, pages_set, start_whole, choices_cleared)
