-- The label cache after each call: the searches that it contains, and the dirty flag of memory.
-- That searches are cached, and when they are forgotten, is this project's choice.
use Rattle.std.specs.Prelude.{◌≡◌, Bool, false, ◌&&◌, MatchBool, MatchOption, Option, Some, None}
use Rattle.h41_codes.specs.declared.functions.Function.TheVariants.{ClearX}
use Rattle.h41_codes.specs.declared.line.Line.TheVariants as lines
use Rattle.h41_editor.specs.Changes.{MarksDeletion}
use Rattle.h41_focal.specs.LabelSearches.{StepKeeps, TypingKeeps}
use Rattle.h41_focal.specs.OutsideCalls as sources
use Rattle.h41_focal.specs.OutsideCalls.{LineSource}
use Rattle.h41_keys.specs.declared.action.Action.{Action}
use Rattle.h41_keys.specs.declared.action.Action.TheVariants as actions
use Rattle.h41_keys.specs.declared.input.Flags.{Flags}
use Rattle.h41_keys.specs.declared.input.Input.{Input}
use Rattle.h41_keys.specs.declared.input.Pressed.{Pressed}
use Rattle.h41_keys.specs.declared.key.Key.{Key}
use Rattle.h41_nut.specs.WordStep.{Nut, writes_program}
use Rattle.h41_pages.specs.PageMap.{PageMap}
use Rattle.h41_positions.specs.FocalState.{Machine}
use Rattle.h41_positions.specs.LabelledMachine.{LabelledMachine}
use Rattle.h41_program.specs.LastProgram.{MarksClosing}
use Rattle.h41_ram.specs.RamState.{MarksIf, RamState}
use Rattle.h41_xrom.specs.Calculator.{machine_of}
use Rattle.h41_xrom.specs.KeyActions.{HasFlags, key_refusal, press_of}
use Rattle.h41_xrom.specs.LabelledCalculator.{CacheState, LabelledCalculator, labelled}
use Rattle.h41_xrom.specs.declared.calculator.Mode.{Mode}
use Rattle.h41_xrom.specs.declared.calculator.Mode.TheVariants as modes

-- The cache after a line at the position, or after a typed line: if the dirty flag is set, the
-- cache is emptied first. Then the line's own search is cached, if it makes one.
abbrev pub KeepsSearchBy : LineSource → PageMap → (old new : LabelledMachine) → Type 0
KeepsSearchBy sources.Program pages old new = StepKeeps pages old new
KeepsSearchBy (sources.Keys line) pages old new = TypingKeeps line old new

-- The cache after a line with all that it calls. What it calls outside program memory makes no
-- search. After any line, executed or refused, the dirty flag is clear.
abbrev pub KeepsAfterLine : LineSource → PageMap → Machine → (before after : CacheState) → Type 0
KeepsAfterLine source pages machine before after =
    KeepsSearchBy source pages (labelled machine before) (labelled machine after)
    × (after.touched ≡ false)

-- The cache after a change of memory that is no line: each answer stays, and the dirty flag follows
-- the given rule.
abbrev pub KeepsAfterChange : (RamState → RamState → Type 0) → Machine
    → (before after : CacheState) → Type 0
KeepsAfterChange marks machine before after =
    (after.labels ≡ before.labels)
    × marks (labelled machine before).ram (labelled machine after).ram

-- The cache after a word of a function, executed or refused: WRIT DATA and WRIT n set the dirty
-- flag if they write a register of the program.
abbrev pub KeepsAfterWord : (done : Bool) → Nut → Machine → (before after : CacheState) → Type 0
KeepsAfterWord done nut machine before after =
    KeepsAfterChange (MarksIf (writes_program nut && done)) machine before after

-- The cache after a step in a mode, executed or refused: a step is a line, or a word of a function.
abbrev pub KeepsAfterStepIn : Mode → (done : Bool) → (s t : LabelledCalculator) → Type 0
KeepsAfterStepIn modes.Idle done s t =
    KeepsAfterLine sources.Program s.state.nut.pages (machine_of s.state) s.cache t.cache
KeepsAfterStepIn modes.Run done s t =
    KeepsAfterLine sources.Program s.state.nut.pages (machine_of s.state) s.cache t.cache
KeepsAfterStepIn (modes.Micro caller) done s t =
    KeepsAfterWord done s.state.nut (machine_of s.state) s.cache t.cache

-- The cache after a step, executed or refused.
abbrev pub KeepsAfterStep : (done : Bool) → (s t : LabelledCalculator) → Type 0
KeepsAfterStep done s t = KeepsAfterStepIn s.state.mode done s t

-- The cache after a load or a new size, executed or refused: each writes the program if executed.
abbrev pub KeepsAfterProgram : (done : Bool) → (s t : LabelledCalculator) → Type 0
KeepsAfterProgram done s t =
    KeepsAfterChange (MarksIf done) (machine_of s.state) s.cache t.cache

-- The cache after the action of a key, executed or refused. A line that the key executes changes it
-- as above. A change of the program sets the dirty flag if it writes. No other action changes it.
abbrev pub KeepsAfterAction : PageMap → (program_mode : Bool) → (done : Bool) → Action → Machine
    → (before after : CacheState) → Type 0
KeepsAfterAction pages program_mode done actions.Step machine before after =
    MatchBool program_mode (after ≡ before)
    (KeepsAfterLine sources.Program pages machine before after)
KeepsAfterAction pages program_mode done (actions.CarryOut line) machine before after =
    KeepsAfterLine (sources.Keys line) pages machine before after
KeepsAfterAction pages program_mode done actions.EndNumber machine before after =
    KeepsAfterLine (sources.Keys (lines.Plain ClearX)) pages machine before after
KeepsAfterAction pages program_mode done (actions.Insert line) machine before after =
    KeepsAfterChange (MarksIf done) machine before after
KeepsAfterAction pages program_mode done (actions.Replace line) machine before after =
    KeepsAfterChange (MarksIf done) machine before after
KeepsAfterAction pages program_mode done actions.Delete machine before after =
    KeepsAfterChange (MarksDeletion done pages machine) machine before after
KeepsAfterAction pages program_mode done actions.GoToEnd machine before after =
    KeepsAfterChange (MarksClosing done) machine before after
KeepsAfterAction pages program_mode done action machine before after = after ≡ before

-- The cache after a key that has a meaning: a key that is refused before its action does not change
-- the cache.
abbrev pub KeepsAfterMeaning : (done : Bool) → Action → Input → (s t : LabelledCalculator) → Type 0
KeepsAfterMeaning done action input s t =
    MatchOption (key_refusal s.state)
    (KeepsAfterAction s.state.nut.pages input.program_mode done action (machine_of s.state)
    s.cache t.cache)
    (λ why. t.cache ≡ s.cache)

-- The cache after a key that may have no meaning: such a key does not change the cache.
abbrev pub KeepsAfterPress : (done : Bool) → Option Pressed → (s t : LabelledCalculator) → Type 0
KeepsAfterPress done None s t = t.cache ≡ s.cache
KeepsAfterPress done (Some pressed) s t = KeepsAfterMeaning done pressed.action pressed.input s t

-- The cache after a key, accepted or refused.
abbrev pub KeepsAfterKey : (done : Bool) → Key → (s t : LabelledCalculator) → Type 0
KeepsAfterKey done key s t =
    (flags : Flags)
    × HasFlags s.state flags
    × KeepsAfterPress done (press_of s.state key flags) s t
