-- The result of a key.
use Rattle.std.proofs.Common.{◌≡◌, ℕ, Bool, true, false, List, Option, Some, None, Result, Ok, Err, MatchOption, refl, rules}
use Rattle.std.specs.Prelude.{◌&&◌, ◌||◌, not, IfSome, IsOkAnd}
use Rattle.std.specs.Bool.{then_some}
use Rattle.h41_codes.specs.declared.characters.Character.{Character}
use Rattle.h41_codes.specs.declared.functions.Function.{Function}
use Rattle.h41_codes.specs.declared.functions.Function.TheVariants.{ClearX}
use Rattle.h41_codes.specs.declared.functions.NameFunction.TheVariants.{ExecuteName}
use Rattle.h41_codes.specs.declared.line.Line.{Line}
use Rattle.h41_codes.specs.declared.line.Line.TheVariants as lines
use Rattle.h41_decimal.specs.declared.fault.DecimalFault.{DecimalFault}
use Rattle.h41_decimal.specs.declared.sign.Sign.{Sign}
use Rattle.h41_decimal.specs.declared.ten.Ten.{Ten}
use Rattle.h41_editor.specs.Changes.{Deletes, Inserts, Replaces}
use Rattle.h41_editor.specs.Moves.{GoesToEnd, ShowsBefore, ShowsNext}
use Rattle.h41_positions.specs.FocalState.{Machine}
use Rattle.h41_keys.specs.Keyboard.{row_of}
use Rattle.h41_keys.specs.KeyPress.{presses, while_in_microcode, while_running}
use Rattle.h41_keys.specs.declared.action.Action.{Action}
use Rattle.h41_keys.specs.declared.action.Action.TheVariants as actions
use Rattle.h41_keys.specs.declared.input.Flags.{Flags}
use Rattle.h41_keys.specs.declared.input.Input.{Input}
use Rattle.h41_keys.specs.declared.input.Place.TheVariants as places
use Rattle.h41_keys.specs.declared.input.Pressed.{Pressed}
use Rattle.h41_keys.specs.declared.key.Key.{Key}
use Rattle.h41_keys.specs.declared.meaning.Meaning.{Meaning}
use Rattle.h41_keys.specs.declared.meaning.Meaning.TheVariants as meanings
use Rattle.h41_numbers.specs.NumberLines.{IsNumberOf}
use Rattle.h41_pages.specs.FunctionTables.{AreNumbers, function_of_name}
use Rattle.h41_pages.specs.PageMap.{PageMap}
use Rattle.h41_positions.specs.Positions.{LineAt}
use Rattle.h41_positions.specs.declared.position.Position.{Position}
use Rattle.h41_positions.specs.declared.position.Position.TheVariants.{Memory, Page}
use Rattle.h41_program.specs.LastProgram.{open_in}
use Rattle.h41_program.specs.ProgramLaws.{IsInner}
use Rattle.h41_program.specs.Searches.{named_in, position_of}
use Rattle.h41_program.specs.declared.refusal.ProgramRefusal.{ProgramRefusal}
use Rattle.h41_ram.specs.RegisterMap.{RegisterMap, is_sound}
use Rattle.h41_rows.specs.Values.{Computes, Kept, Written}
use Rattle.h41_rows.specs.declared.fault.LineFault.{LineFault}
use Rattle.h41_focal.specs.LineStep.{Left, left_done}
use Rattle.h41_xrom.specs.Calculator.{CalculatorState, is_idle, machine_of}
use Rattle.h41_xrom.specs.CalculatorLaws.{KeyIsDetermined}
use Rattle.h41_xrom.specs.KeyActions.{Acts, BeginsNumber, Carries, ChangesNumber, Edits, HasFlags, IsPlace, IsStoredAs}
use Rattle.h41_xrom.specs.KeyActions.{KeyMakes, Presses, StoredFunction, StoredIfNoLabel, StoredName}
use Rattle.h41_xrom.specs.KeyActions.{StoresLine, activity_of, after_outcome, edit_effect, flags_at, is_final, line_effect}
use Rattle.h41_xrom.specs.KeyActions.{press_of, puts_end, with_key_accepted, with_number_changed, with_number_started}
use Rattle.h41_xrom.specs.declared.calculator.Caller.{Caller}
use Rattle.h41_xrom.specs.declared.calculator.Mode.{Mode}
use Rattle.h41_xrom.specs.declared.calculator.Mode.TheVariants as modes
use Rattle.h41_focal.specs.OutsideCalls.{LineSource}
use Rattle.h41_focal.specs.OutsideCalls as sources
use Rattle.h41_xrom.specs.declared.refusal.CalculatorRefusal.{CalculatorRefusal}
use Rattle.h41_xrom.specs.declared.refusal.CalculatorRefusal.TheVariants.{KeyNotHeld, MemoryLost}
use Rattle.h41_laws_words.specs.HasOne.{HasOne}
use Rattle.h41_laws_words.proofs.Answering.{Has}
use Rattle.h41_laws_calculator.specs.ProgramAnswers.{MemoryHasOneAnswer, PositionHasOne}
use Rattle.h41_laws_calculator.specs.LineValues.{ValueHasOneRegister}
use Rattle.h41_laws_calculator.specs.Keys.{KeyHasOneOutcome, KeyLeaves, PressStoresInner, StoresInner}
use Rattle.h41_laws_calculator.specs.LineEnds.{LineHasOneEnd, NameHasOneFunction}
use Rattle.h41_laws_calculator.specs.ProgramMode.{ChangeHasOneOutcome, MoveHasOneOutcome}
use Rattle.h41_laws_calculator.proofs.Chosen.{alone, either, one_pair, one_there, made_of}
use Rattle.h41_laws_calculator.proofs.Loading.{becomes, becomes-right}
use Rattle.h41_laws_calculator.proofs.Numbered.{are_numbers}

-- The result of an action.
abbrev Made : Type 0
Made = Result Left CalculatorRefusal

edits : (Edit : Machine → Result Machine ProgramRefusal → Type 0) (machine : Machine) → Has (Edit machine) → Has (Edits Edit machine)
edits Edit machine edited = record { answer = edit_effect edited.answer; right = (edited.answer, edited.right, refl) }

-- A number that is typed always has a value, so it has a register.
never_fault : (characters : List Character) (sign : Sign) (ignored : Bool) (fault : LineFault) (answer : Result Ten DecimalFault)
    → IsOkAnd answer (IsNumberOf characters) → Kept sign ignored answer (Err fault) → ⊥
never_fault characters sign ignored fault (Ok number) is kept = kept
never_fault characters sign ignored fault (Err why) is kept = is

register_of : (text : List Character) (memory : RegisterMap) (result : Result (List ℕ) LineFault)
    → Computes (Written text) memory 0 result → Has (λ register. Computes (Written text) memory 0 (Ok register))
register_of text memory (Ok register) computes = record { answer = register; right = computes }
register_of text memory (Err fault) computes = search (rules, never_fault)

module _ (ends : LineHasOneEnd) (names : NameHasOneFunction) (labels : MemoryHasOneAnswer (Option ℕ)) (values : ValueHasOneRegister)
    (next : (pages : PageMap) → MoveHasOneOutcome (ShowsNext pages)) (before : (pages : PageMap) → MoveHasOneOutcome (ShowsBefore pages))
    (end : MoveHasOneOutcome GoesToEnd) (deletion : (pages : PageMap) → MoveHasOneOutcome (Deletes pages))
    (insertion : (pages : PageMap) → ChangeHasOneOutcome (Inserts pages)) (replacement : ChangeHasOneOutcome Replaces) where
  carries : (source : LineSource) (pages : PageMap) (machine : Machine) → Has (Carries source pages machine)
  carries source pages machine = made_of line_effect (one_there (ends source pages machine))

  begins : (text : List Character) (machine : Machine) → Has (BeginsNumber text machine)
  begins text machine =
      let found = values (Written text) machine.memory 0 in
      made_of (λ of. Ok (left_done (with_number_started machine of))) (register_of text machine.memory found.answer found.right)

  changes : (text : List Character) (machine : Machine) → Has (ChangesNumber text machine)
  changes text machine =
      let found = values (Written text) machine.memory 0 in
      made_of (λ of. Ok (left_done (with_number_changed machine of))) (register_of text machine.memory found.answer found.right)

  -- The line that is stored, which is one that programs can contain.
  abbrev Stored : (Line → Type 0) → Type 0
  Stored IsStored = (stored : Line) × IsStored stored × IsInner stored

  stored_function : (line : Line) (function : Option Function) → IsInner line → Stored (StoredFunction line function)
  stored_function line (Some function) inner = (lines.Plain function, refl, record { valid = tt; inner = refl })
  stored_function line None inner = (line, refl, inner)

  stored_elsewhere : (line : Line) (name : List ℕ) (numbers : Option (ℕ × ℕ)) → IsInner line → IfSome numbers AreNumbers
      → Stored (StoredIfNoLabel line name numbers)
  stored_elsewhere line name (Some numbers) inner are =
      (lines.Module numbers.0 numbers.1, refl, record { valid = (are.1, are.2); inner = refl })
  stored_elsewhere line name None inner are =
      let function = names name in
      let of = stored_function line function.answer inner in
      (of.0, (function.answer, function.right, of.1), of.2)

  stored_name : (pages : PageMap) (line : Line) (name : List ℕ) (label : Option ℕ) → IsInner line
      → Stored (StoredName pages line name label)
  stored_name pages line name (Some position) inner = (line, refl, inner)
  stored_name pages line name None inner = stored_elsewhere line name (function_of_name pages name) inner (are_numbers pages name)

  stored_as : (pages : PageMap) (memory : RegisterMap) (line : Line) → IsInner line → Stored (IsStoredAs pages memory line)
  stored_as pages memory (lines.Named ExecuteName name) inner =
      let label = labels (λ listed. position_of (named_in name listed)) memory 0 in
      let of = stored_name pages (lines.Named ExecuteName name) name label.answer inner in
      (of.0, (label.answer, label.right, of.1), of.2)
  stored_as pages memory line inner = (line, refl, inner)

  stores : (pages : PageMap) (line : Line) (machine : Machine) → IsInner line → is_sound machine.memory ≡ true
      → Has (StoresLine pages line machine)
  stores pages line machine inner sound =
      let stored = stored_as pages machine.memory line inner in
      let made = edits (Inserts pages stored.0) machine (one_there (insertion pages stored.0 machine stored.2 sound)) in
      record { answer = made.answer; right = (stored.0, stored.1, made.right) }

  -- Each action.
  acts : (pages : PageMap) (program_mode : Bool) (action : Action) (machine : Machine) → StoresInner action
      → is_sound machine.memory ≡ true → Has (Acts pages program_mode action machine)
  acts pages program_mode actions.Step machine inner sound =
      either program_mode (Edits (ShowsNext pages) machine) (Carries sources.Program pages machine)
      (edits (ShowsNext pages) machine (one_there (next pages machine))) (carries sources.Program pages machine)
  acts pages program_mode actions.StepBack machine inner sound = edits (ShowsBefore pages) machine (one_there (before pages machine))
  acts pages program_mode actions.GoToEnd machine inner sound = edits GoesToEnd machine (one_there (end machine))
  acts pages program_mode (actions.CarryOut line) machine inner sound = carries (sources.Keys line) pages machine
  acts pages program_mode (actions.Insert line) machine inner sound = stores pages line machine inner sound
  acts pages program_mode (actions.Replace line) machine inner sound =
      edits (Replaces line) machine (one_there (replacement line machine inner sound))
  acts pages program_mode actions.Delete machine inner sound = edits (Deletes pages) machine (one_there (deletion pages machine))
  acts pages program_mode (actions.BeginNumber text) machine inner sound = begins text machine
  acts pages program_mode (actions.ChangeNumber text) machine inner sound = changes text machine
  acts pages program_mode actions.EndNumber machine inner sound = carries (sources.Keys (lines.Plain ClearX)) pages machine
  acts pages program_mode action machine inner sound = alone _

  -- The result of a key, in a mode.
  abbrev Makes : CalculatorState → Key → Action → Input → Result CalculatorState CalculatorRefusal → Type 0
  Makes s key action input made =
      (effect : Made) × Acts s.nut.pages input.program_mode action (machine_of s) effect
      × (made ≡ after_outcome (with_key_accepted key input s) effect)

  abbrev MakesIn : Mode → CalculatorState → Key → Option Pressed → Result CalculatorState CalculatorRefusal → Type 0
  MakesIn mode s key None made = made ≡ Err KeyNotHeld
  MakesIn mode s key (Some press) made =
      MatchOption (then_some (is_idle mode && not (is_sound s.nut.ram)) MemoryLost) (Makes s key press.action press.input made)
      (λ why. made ≡ Err why)

  makes : (s : CalculatorState) (key : Key) (action : Action) (input : Input)
      → Has (Acts s.nut.pages input.program_mode action (machine_of s)) → Has (Makes s key action input)
  makes s key action input effect =
      record { answer = after_outcome (with_key_accepted key input s) effect.answer; right = (effect.answer, effect.right, refl) }

  made_if : (sound : Bool) (s : CalculatorState) (key : Key) (press : Pressed) → is_sound s.nut.ram ≡ sound → StoresInner press.action
      → Has (λ made. MatchOption (then_some (not sound) MemoryLost) (Makes s key press.action press.input made) (λ why. made ≡ Err why))
  made_if true s key press is inner =
      makes s key press.action press.input (acts s.nut.pages press.input.program_mode press.action (machine_of s) inner is)
  made_if false s key press is inner = alone (Err MemoryLost)

  -- While something runs, a key stops it or only stores its code.
  while_run : (s : CalculatorState) (key : Key) (meaning : Meaning) → Has (MakesIn modes.Run s key (while_running s.input meaning))
  while_run s key meanings.Nothing = alone (Err KeyNotHeld)
  while_run s key meanings.RunStop = makes s key actions.Stop s.input (alone _)
  while_run s key other = makes s key actions.Nothing s.input (alone _)

  while_micro : (s : CalculatorState) (key : Key) (meaning : Meaning) → Has (MakesIn modes.Run s key (while_in_microcode s.input meaning))
  while_micro s key meanings.Nothing = alone (Err KeyNotHeld)
  while_micro s key other = makes s key actions.Nothing s.input (alone _)

  in_idle : (s : CalculatorState) (key : Key) (of : Option Pressed) → PressStoresInner of → Has (MakesIn modes.Idle s key of)
  in_idle s key None inner = alone (Err KeyNotHeld)
  in_idle s key (Some press) inner = made_if (is_sound s.nut.ram) s key press refl inner

  in_micro : (s : CalculatorState) (key : Key) (caller : Caller) (of : Option Pressed) → Has (MakesIn modes.Run s key of)
      → Has (MakesIn (modes.Micro caller) s key of)
  in_micro s key caller None made = record { answer = made.answer; right = made.right }
  in_micro s key caller (Some press) made = record { answer = made.answer; right = made.right }

  in_mode : (mode : Mode) (s : CalculatorState) (key : Key) (flags : Flags)
      → PressStoresInner (presses s.input key (activity_of mode) flags)
      → Has (MakesIn mode s key (presses s.input key (activity_of mode) flags))
  in_mode modes.Idle s key flags inner = in_idle s key _ inner
  in_mode modes.Run s key flags inner = while_run s key (row_of key).plain
  in_mode (modes.Micro caller) s key flags inner =
      in_micro s key caller (while_in_microcode s.input (row_of key).plain) (while_micro s key (row_of key).plain)

  key_makes : (s : CalculatorState) (key : Key) (of : Option Pressed) → Has (MakesIn s.mode s key of) → Has (KeyMakes s key of)
  key_makes s key None made = record { answer = made.answer; right = made.right }
  key_makes s key (Some press) made = record { answer = made.answer; right = made.right }

  -- Where the shown line is.
  module _ (positions : PositionHasOne LineAt) (last : MemoryHasOneAnswer (Result Bool ProgramRefusal)) where
    placed : (pages : PageMap) (machine : Machine) (at : Position) → Has (IsPlace pages machine at)
    placed pages machine (Memory byte) = alone places.Memory
    placed pages machine (Page address) =
        let first = positions pages machine.memory (Page address) in
        let open_there = last open_in machine.memory 0 in
        record {
          answer =
              places.Page (machine.focal.at_line_00 || (is_sound machine.memory && is_final first.answer)) (puts_end open_there.answer);
          right = (first.answer, open_there.answer, first.right, open_there.right, refl);
        }

    flagged : (s : CalculatorState) → Has (HasFlags s)
    flagged s = made_of (λ found. flags_at found s) (placed s.nut.pages (machine_of s) s.focal.position)

    pub one_key : KeyIsDetermined → KeyHasOneOutcome
    one_key determined key s inner =
        let flags = flagged s in
        let made =
        key_makes s key (press_of s key flags.answer) (in_mode s.mode s key flags.answer (inner flags.answer flags.right)) in
        let right : KeyLeaves key s (becomes made.answer s) =
        (flags.answer, flags.right, made.answer, made.right, becomes-right made.answer s) in
        one_pair (KeyLeaves key s) (becomes made.answer s) right
        (λ other again. determined key s other.0 (becomes made.answer s).0 other.1 (becomes made.answer s).1 again right)

-- A key that was pressed.
pub one_pressed : KeyIsDetermined → (key : Key) (s t : CalculatorState) (refusal : Option CalculatorRefusal) → Presses key s t refusal
    → HasOne (KeyLeaves key s)
one_pressed determined key s t refusal presses =
    one_pair (KeyLeaves key s) (t, refusal) presses (λ other again. determined key s other.0 t other.1 refusal again presses)
