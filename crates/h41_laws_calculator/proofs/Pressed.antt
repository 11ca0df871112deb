-- Keys leave calculators whole.
use Rattle.std.proofs.Common.{ℕ, ◌<◌, Bool, true, List, [], Option, Some, None, Result, Ok, Err, refl, arith, rules, ◌∷◌, false, ◌++◌, take}
use Rattle.std.specs.Prelude.{IfSome, not}
use Rattle.std.proofs.lemmas.List.Elements.{All-append, All-nil, All-take}
use Rattle.h41_codes.specs.declared.functions.Function.{Function}
use Rattle.h41_codes.specs.declared.functions.NameFunction.TheVariants.{ExecuteName}
use Rattle.h41_codes.specs.declared.line.Line.{Line}
use Rattle.h41_codes.specs.declared.line.Line.TheVariants as lines
use Rattle.h41_digits.specs.Register.{IsRegister}
use Rattle.h41_positions.specs.FocalState.{Machine}
use Rattle.h41_focal.specs.LineStep.{Left}
use Rattle.h41_focal.specs.declared.refusal.FocalRefusal.{FocalRefusal}
use Rattle.h41_keys.specs.Keyboard.{code_of}
use Rattle.h41_keys.specs.declared.action.Action.{Action}
use Rattle.h41_keys.specs.declared.action.Action.TheVariants as actions
use Rattle.h41_keys.specs.declared.input.Input.{Input}
use Rattle.h41_keys.specs.declared.input.Pressed.{Pressed}
use Rattle.h41_keys.specs.declared.key.Key.{Key}
use Rattle.h41_keys.specs.declared.key.Key.TheVariants as keyboard
use Rattle.h41_pages.specs.FunctionTables.{AreNumbers}
use Rattle.h41_pages.specs.PageMap.{PageMap}
use Rattle.h41_program.specs.ProgramLaws.{IsInner}
use Rattle.h41_program.specs.declared.refusal.ProgramRefusal.{ProgramRefusal}
use Rattle.h41_ram.specs.NamedFlags.{alpha_entry, alpha_mode, number_entry}
use Rattle.h41_ram.specs.RegisterMap.{RegisterMap, flag_of, alpha_of}
use Rattle.h41_rows.specs.RowEffects.{last_24}
use Rattle.h41_xrom.specs.Calculator.{CalculatorState, machine_of}
use Rattle.h41_xrom.specs.KeyActions.{Acts, Carries, Edits, IsStoredAs, KeyMakes, StoredFunction, StoredIfNoLabel, StoredName, key_refusal}
use Rattle.h41_xrom.specs.KeyActions.{after_outcome, edit_effect, line_effect, taken_in, with_key_accepted, with_letters, with_text}
use Rattle.h41_focal.specs.OutsideCalls.{LineSource}
use Rattle.h41_xrom.specs.declared.refusal.CalculatorRefusal.{CalculatorRefusal}
use Rattle.h41_laws_calculator.proofs.Numbered.{are_numbers}
use Rattle.h41_laws_calculator.specs.Keys.{KeyHasOneOutcome, PressStoresInner, StoresInner}
use Rattle.h41_laws_calculator.specs.WholeCalculators.{IsWholeCalculator, PressLeavesWhole, WholeKeyHasOneOutcome}
use Rattle.h41_laws_calculator.specs.WholeInputs.{IsWholeAction, IsWholeInput, IsWholePress, KeyLeavesWhole}
use Rattle.h41_laws_calculator.specs.WholeMemory.{AreBytes, IsWholeMemory}
use Rattle.h41_laws_calculator.proofs.Bytes.{IsByte, alone, last_bytes}
use Rattle.h41_laws_calculator.proofs.Edited.{MachineKept, before_kept, deleted_kept, end_kept, inserted_kept, next_kept, replaced_kept}
use Rattle.h41_laws_calculator.proofs.WholeLines.{IsWholeSource, Leaves, computed_by, line_leaves, matched}
use Rattle.h41_laws_calculator.proofs.WholeMemories.{all_taken, alpha_of_bytes, alpha_written, flagged}
use Rattle.h41_laws_calculator.proofs.WholeStates.{MadeWhole, becomes_whole, by_refusal, line_left, memory_of}
use Rattle.h41_editor.specs.Moves.{ShowsNext}
use Rattle.h41_focal.specs.OutsideCalls as sources
use Rattle.h41_rows.specs.Values.{Written}
use Rattle.std.proofs.Common.{◌≡◌}

-- The result of an action, if there is one.
abbrev Made : Type 0
Made = Result Left CalculatorRefusal

abbrev LeavesWhole : Made → Type 0
LeavesWhole (Ok left) = IsWholeMemory left.machine.memory
LeavesWhole (Err refusal) = Unit {0}

-- Lines.
line_made : (carried : Result Left FocalRefusal) → Leaves carried → LeavesWhole (line_effect carried)
line_made (Ok left) whole = whole
line_made (Err refusal) whole = tt

carried : (source : LineSource) (pages : PageMap) (machine : Machine) (effect : Made) → IsWholeSource source → IsWholeMemory machine.memory
    → Carries source pages machine effect → LeavesWhole effect
carried source pages machine effect valid whole is = rw is.2 (line_made is.0 (line_leaves source pages machine is.0 valid whole is.1))

-- Program mode.
edit_made : (made : Result Machine ProgramRefusal) → MachineKept made → LeavesWhole (edit_effect made)
edit_made (Ok machine) whole = whole
edit_made (Err refusal) whole = tt

edited : (Edit : Machine → Result Machine ProgramRefusal → Type 0) (machine : Machine) (effect : Made)
    → ((made : Result Machine ProgramRefusal) → Edit machine made → MachineKept made) → Edits Edit machine effect → LeavesWhole effect
edited Edit machine effect kept is = rw is.2 (edit_made is.0 (kept is.0 is.1))

-- A line that is stored.
stored_function : (line : Line) (function : Option Function) (stored : Line) → IsInner line → StoredFunction line function stored
    → IsInner stored
stored_function line (Some function) stored inner is = rw is (record { valid = tt; inner = refl })
stored_function line None stored inner is = rw is inner

stored_elsewhere : (line : Line) (name : List ℕ) (numbers : Option (ℕ × ℕ)) (stored : Line) → IsInner line → IfSome numbers AreNumbers
    → StoredIfNoLabel line name numbers stored → IsInner stored
stored_elsewhere line name (Some numbers) stored inner are is = search rules
stored_elsewhere line name None stored inner are is = stored_function line is.0 stored inner is.2

stored_name : (pages : PageMap) (line : Line) (name : List ℕ) (label : Option ℕ) (stored : Line) → IsInner line
    → StoredName pages line name label stored → IsInner stored
stored_name pages line name (Some position) stored inner is = rw is inner
stored_name pages line name None stored inner is = search (rules, stored_elsewhere, are_numbers)

stored_as : (pages : PageMap) (memory : RegisterMap) (line stored : Line) → IsInner line → IsStoredAs pages memory line stored
    → IsInner stored
stored_as pages memory (lines.Named ExecuteName name) stored inner is = search (rules, stored_name)
stored_as pages memory line stored inner is = rw is inner

-- Numbers.
number_taken : (memory : RegisterMap) (lift : Bool) (register : List ℕ) → IsWholeMemory memory → IsRegister 14 register
    → IsWholeMemory (taken_in memory lift register)
number_taken memory lift register whole valid = search (rules, all_taken)

-- The ALPHA register.
text_set : (memory : RegisterMap) (text : List ℕ) → IsWholeMemory memory → AreBytes text → IsWholeMemory (with_text memory text)
text_set memory text whole all = alpha_written memory (last_24 text) whole (last_bytes text all)

letters_set : (memory : RegisterMap) (text : List ℕ) → IsWholeMemory memory → AreBytes text → IsWholeMemory (with_letters memory text)
letters_set memory text whole all = flagged (with_text memory text) alpha_entry true (text_set memory text whole all)

-- EACH ACTION
acts : (pages : PageMap) (program_mode : Bool) (action : Action) (machine : Machine) (effect : Made) → IsWholeAction action
    → IsWholeMemory machine.memory → Acts pages program_mode action machine effect → LeavesWhole effect
acts pages program_mode actions.Step machine effect valid whole is =
    matched program_mode (Edits (ShowsNext pages) machine effect) (Carries sources.Program pages machine effect) (LeavesWhole effect) is
    (edited (ShowsNext pages) machine effect (next_kept pages machine whole)) (carried sources.Program pages machine effect tt whole)
acts pages program_mode actions.StepBack machine effect valid whole is = search (rules, edited, before_kept)
acts pages program_mode actions.GoToEnd machine effect valid whole is = search (rules, edited, end_kept)
acts pages program_mode (actions.CarryOut line) machine effect valid whole is = search (rules, carried)
acts pages program_mode (actions.Insert line) machine effect valid whole is = search (rules, edited, inserted_kept, stored_as)
acts pages program_mode (actions.Replace line) machine effect valid whole is = search (rules, edited, replaced_kept)
acts pages program_mode actions.Delete machine effect valid whole is = search (rules, edited, deleted_kept)
acts pages program_mode (actions.BeginNumber text) machine effect valid whole is =
    let register = computed_by (Written text) machine.memory 0 (Ok is.0) is.1 in
    rw is.2 (flagged (taken_in machine.memory machine.focal.lift is.0) number_entry true
    (number_taken machine.memory machine.focal.lift is.0 whole register))
acts pages program_mode (actions.ChangeNumber text) machine effect valid whole is =
    rw is.2 (number_taken machine.memory false is.0 whole (computed_by (Written text) machine.memory 0 (Ok is.0) is.1))
acts pages program_mode actions.EndNumber machine effect valid whole is = search (rules, carried)
acts pages program_mode actions.ToggleAlpha machine effect valid whole is =
    rw is (flagged machine.memory alpha_mode (not (flag_of machine.memory alpha_mode)) whole)
acts pages program_mode (actions.BeginText letter) machine effect valid whole is =
    rw is (letters_set machine.memory (letter ∷ []) whole (alone letter valid))
acts pages program_mode (actions.AddLetter letter) machine effect valid whole is =
    let text = alpha_of machine.memory in
    rw is (letters_set machine.memory (text ++ letter ∷ []) whole
    (All-append IsByte text (letter ∷ []) (alpha_of_bytes machine.memory whole) (alone letter valid)))
acts pages program_mode actions.TakeLetter machine effect valid whole is =
    let text = alpha_of machine.memory in
    rw is (text_set machine.memory (take 23 text) whole (All-take IsByte 23 text (alpha_of_bytes machine.memory whole)))
acts pages program_mode actions.ClearAlpha machine effect valid whole is = rw is (text_set machine.memory [] whole (All-nil IsByte))
acts pages program_mode action machine effect valid whole is = rw is whole

-- A KEY. Its code is a byte.
code_small : (key : Key) → code_of key < 256
code_small keyboard.On = omega arith
code_small key = omega arith

told : (key : Key) (input : Input) (s : CalculatorState) → IsWholeCalculator s → IsWholeInput input
    → IsWholeCalculator (with_key_accepted key input s)
told key input s whole is = search (rules, code_small)

acted : (s : CalculatorState) (effect : Made) → IsWholeCalculator s → LeavesWhole effect → MadeWhole (after_outcome s effect)
acted s (Ok left) whole is = line_left s left whole is
acted s (Err refusal) whole is = tt

makes : (s : CalculatorState) (key : Key) (press : Option Pressed) (made : Result CalculatorState CalculatorRefusal)
    → IsWholeCalculator s → IfSome press IsWholePress → KeyMakes s key press made → MadeWhole made
makes s key None made whole valid is = rw is tt
makes s key (Some press) made whole valid is =
    by_refusal (key_refusal s) made
    ((effect : Made) × Acts s.nut.pages press.input.program_mode press.action (machine_of s) effect
    × (made ≡ after_outcome (with_key_accepted key press.input s) effect)) is
    (λ none goes.
    rw goes.2 (acted (with_key_accepted key press.input s) goes.0 (told key press.input s whole valid.1)
    (acts s.nut.pages press.input.program_mode press.action (machine_of s) goes.0 valid.0 (memory_of s whole) goes.1)))

module _ (keys : KeyLeavesWhole) where
  pub press_whole : PressLeavesWhole
  press_whole key s t refusal whole is = search (rules, makes, becomes_whole)

  -- What it stores can be encoded in bytes.
  stores_inner : (action : Action) → IsWholeAction action → StoresInner action
  stores_inner (actions.Insert line) valid = valid
  stores_inner (actions.Replace line) valid = valid
  stores_inner other valid = tt

  press_inner : (press : Option Pressed) → IfSome press IsWholePress → PressStoresInner press
  press_inner None valid = tt
  press_inner (Some press) valid = stores_inner press.action valid.0

  pub one_key : KeyHasOneOutcome → WholeKeyHasOneOutcome
  one_key outcomes key s whole = search (rules, press_inner)
