use Rattle.std.proofs.Common.{Bool, true, ◌≡◌, Result, Ok, Err, ap, refl, subst, sym, ◌∙◌}
use Rattle.std.specs.Prelude.{IsTrue, is_ok}
use Rattle.h41_codes.specs.declared.characters.Number.{Number}
use Rattle.h41_codes.specs.declared.functions.Function.TheVariants.{ClearX}
use Rattle.h41_codes.specs.declared.line.Line.{Line}
use Rattle.h41_codes.specs.declared.line.Line.TheVariants as lines
use Rattle.h41_editor.specs.Changes.{Deletes, Inserts, Replaces}
use Rattle.h41_editor.specs.Moves.{GoesToEnd, ShowsBefore, ShowsNext, made_as}
use Rattle.h41_focal.specs.LineStep.{left_done}
use Rattle.h41_focal.specs.MachineCalls.{carried_as}
use Rattle.h41_focal.specs.OutsideCalls as sources
use Rattle.h41_focal.specs.OutsideCalls.{CarriesLine, LineSource}
use Rattle.h41_focal.specs.declared.outcome.LineOutcome.{LineOutcome}
use Rattle.h41_focal.specs.declared.refusal.FocalRefusal.{FocalRefusal}
use Rattle.h41_keys.specs.declared.action.Action.{Action}
use Rattle.h41_keys.specs.declared.action.Action.TheVariants as actions
use Rattle.h41_pages.specs.PageMap.{PageMap}
use Rattle.h41_positions.specs.FocalState.{Machine, machine_with}
use Rattle.h41_positions.specs.LabelledMachine.{LabelledFocal, LabelledMachine, labelled_with, machine_of}
use Rattle.h41_program.specs.LastProgram.{MarksClosing}
use Rattle.h41_program.specs.declared.refusal.ProgramRefusal.{ProgramRefusal}
use Rattle.h41_ram.specs.RamState.{RamState}
use Rattle.h41_ram.specs.RegisterMap.{RegisterMap, is_sound}
use Rattle.h41_rows.specs.RowMarks.{LeavesMark}
use Rattle.h41_xrom.proofs.LabelsStay.{right_beside, right_over}
use Rattle.h41_xrom.proofs.acting.act.Goals as goal
use Rattle.h41_xrom.specs.KeyActions.{Acts, Carries, Edits, edit_effect, leaves_memory, line_effect}
use Rattle.h41_xrom.specs.KeptLabels.{KeepsAfterAction, KeepsAfterChange}
use Rattle.h41_xrom.specs.LabelledCalculator.{CacheState, cache_of}
use Rattle.h41_xrom.specs.declared.refusal.CalculatorRefusal.{CalculatorRefusal}
use Rattle.h41_xrom.specs.private.PrivateCalls.{IsActed, acted_as, edited_as, lettered, line_as}

-- The result of an edit, or of a move, is its effect.
effect_of_edit : (new : Machine) (given : Result (Unit {0}) ProgramRefusal)
    → acted_as new (edited_as given) ≡ edit_effect (made_as new given)
effect_of_edit new (Ok done) = refl
effect_of_edit new (Err refusal) = refl

edits : (edit : Machine → Result Machine ProgramRefusal → Type 0) (old from : LabelledMachine) (new : Machine)
    (given : Result (Unit {0}) ProgramRefusal) (result : Result LineOutcome CalculatorRefusal) → from ≡ old
    → edit (machine_of from) (made_as new given) → result ≡ edited_as given → Edits edit (machine_of old) (acted_as new result)
edits edit old from new given result is made told = (
  made_as new given,
  subst (λ (machine : LabelledMachine). edit (machine_of machine) (made_as new given)) is made,
  ap (acted_as new) told ∙ effect_of_edit new given,
)

-- The result of a line is its effect.
effect_of_line : (new : Machine) (given : Result LineOutcome FocalRefusal)
    → acted_as new (line_as given) ≡ line_effect (carried_as new given)
effect_of_line new (Ok outcome) = refl
effect_of_line new (Err refusal) = refl

carries : (source : LineSource) (pages : PageMap) (old new : Machine) (given : Result LineOutcome FocalRefusal)
    (result : Result LineOutcome CalculatorRefusal)
    → CarriesLine source pages old (carried_as new given) → result ≡ line_as given → Carries source pages old (acted_as new result)
carries source pages old new given result line told =
    (carried_as new given, line, ap (acted_as new) told ∙ effect_of_line new given)

-- Any other action is one of letters, or does nothing.
module _ (pages : PageMap) (program_mode : Bool) (machine : Machine) where
  abbrev Lettered : Action → Type 0
  Lettered a = Acts pages program_mode a machine (leaves_memory (lettered a machine.memory) machine)

  letters_act : (a : Action) → (a ≡ actions.Stop → ⊥) → (a ≡ actions.Run → ⊥) → (a ≡ actions.Step → ⊥) → (a ≡ actions.StepBack → ⊥)
      → ((line : Line) → a ≡ actions.CarryOut line → ⊥) → ((line : Line) → a ≡ actions.Insert line → ⊥)
      → ((line : Line) → a ≡ actions.Replace line → ⊥) → (a ≡ actions.Delete → ⊥)
      → ((number : Number) → a ≡ actions.BeginNumber number → ⊥) → ((number : Number) → a ≡ actions.ChangeNumber number → ⊥)
      → (a ≡ actions.EndNumber → ⊥) → (a ≡ actions.GoToEnd → ⊥) → Lettered a
  letters_act actions.Stop stop run step back out insert replace delete begin change end go = absurd (stop refl)
  letters_act actions.Run stop run step back out insert replace delete begin change end go = absurd (run refl)
  letters_act actions.Step stop run step back out insert replace delete begin change end go = absurd (step refl)
  letters_act actions.StepBack stop run step back out insert replace delete begin change end go = absurd (back refl)
  letters_act (actions.CarryOut line) stop run step back out insert replace delete begin change end go = absurd (out line refl)
  letters_act (actions.Insert line) stop run step back out insert replace delete begin change end go = absurd (insert line refl)
  letters_act (actions.Replace line) stop run step back out insert replace delete begin change end go = absurd (replace line refl)
  letters_act actions.Delete stop run step back out insert replace delete begin change end go = absurd (delete refl)
  letters_act (actions.BeginNumber number) stop run step back out insert replace delete begin change end go = absurd (begin number refl)
  letters_act (actions.ChangeNumber number) stop run step back out insert replace delete begin change end go = absurd (change number refl)
  letters_act actions.EndNumber stop run step back out insert replace delete begin change end go = absurd (end refl)
  letters_act actions.GoToEnd stop run step back out insert replace delete begin change end go = absurd (go refl)
  letters_act a stop run step back out insert replace delete begin change end go = refl

-- In sound memory it does not change the label cache.
module _ (pages : PageMap) (program_mode done : Bool) (machine : Machine) (before after : CacheState) where
  letters_keep : (a : Action) → (a ≡ actions.Nothing → ⊥)
      → (a ≡ actions.Stop → ⊥) → (a ≡ actions.Run → ⊥) → (a ≡ actions.Step → ⊥) → (a ≡ actions.StepBack → ⊥)
      → ((line : Line) → a ≡ actions.CarryOut line → ⊥) → ((line : Line) → a ≡ actions.Insert line → ⊥)
      → ((line : Line) → a ≡ actions.Replace line → ⊥) → (a ≡ actions.Delete → ⊥)
      → ((number : Number) → a ≡ actions.BeginNumber number → ⊥) → ((number : Number) → a ≡ actions.ChangeNumber number → ⊥)
      → (a ≡ actions.EndNumber → ⊥) → (a ≡ actions.GoToEnd → ⊥) → IsActed a machine.memory
      → (IsTrue (is_sound machine.memory) → after ≡ before) → KeepsAfterAction pages program_mode done a machine before after
  letters_keep actions.Nothing none stop run step back out insert replace delete begin change end go acted stays = absurd (none refl)
  letters_keep actions.Stop none stop run step back out insert replace delete begin change end go acted stays = absurd (stop refl)
  letters_keep actions.Run none stop run step back out insert replace delete begin change end go acted stays = absurd (run refl)
  letters_keep actions.Step none stop run step back out insert replace delete begin change end go acted stays = absurd (step refl)
  letters_keep actions.StepBack none stop run step back out insert replace delete begin change end go acted stays = absurd (back refl)
  letters_keep (actions.CarryOut line) none stop run step back out insert replace delete begin change end go acted stays =
      absurd (out line refl)
  letters_keep (actions.Insert line) none stop run step back out insert replace delete begin change end go acted stays =
      absurd (insert line refl)
  letters_keep (actions.Replace line) none stop run step back out insert replace delete begin change end go acted stays =
      absurd (replace line refl)
  letters_keep actions.Delete none stop run step back out insert replace delete begin change end go acted stays = absurd (delete refl)
  letters_keep (actions.BeginNumber number) none stop run step back out insert replace delete begin change end go acted stays =
      absurd (begin number refl)
  letters_keep (actions.ChangeNumber number) none stop run step back out insert replace delete begin change end go acted stays =
      absurd (change number refl)
  letters_keep actions.EndNumber none stop run step back out insert replace delete begin change end go acted stays = absurd (end refl)
  letters_keep actions.GoToEnd none stop run step back out insert replace delete begin change end go acted stays = absurd (go refl)
  letters_keep a none stop run step back out insert replace delete begin change end go acted stays = stays acted

left_over : (old from : LabelledMachine) (ram : RamState) → from ≡ old → LeavesMark from.ram ram → IsTrue (is_sound old.ram.registers)
    → cache_of (labelled_with ram from.focal) ≡ cache_of old
left_over old from ram is left =
    subst (λ (of : LabelledMachine). IsTrue (is_sound of.ram.registers) → cache_of (labelled_with ram from.focal) ≡ cache_of of) is
    (λ sound. λ i. record { labels = from.focal.labels; touched = left sound i })

-- GTO . . sets the dirty flag if it adds an END.
same_ok : (given : Result (Unit {0}) ProgramRefusal) → is_ok (edited_as given) ≡ is_ok given
same_ok (Ok done) = refl
same_ok (Err refusal) = refl

closes : (old from : LabelledMachine) (ram : RamState) (focal : LabelledFocal) (done told : Bool) → from ≡ old → told ≡ done
    → focal.labels ≡ from.focal.labels → MarksClosing told from.ram ram
    → KeepsAfterChange (MarksClosing done) (machine_of old) (cache_of old) (cache_of (labelled_with ram focal))
closes old from ram focal done told is same labels marked =
    subst (λ (of : LabelledMachine).
    KeepsAfterChange (MarksClosing done) (machine_of of) (cache_of of) (cache_of (labelled_with ram focal))) is
    (labels, subst (λ (of : Bool). MarksClosing of from.ram ram) same marked)

leaves_lettered : (pages : PageMap) (program_mode : Bool) (a : Action) (old from : LabelledMachine) (memory : RegisterMap) → from ≡ old
    → memory ≡ lettered a from.ram.registers → Lettered pages program_mode (machine_of old) a
    → Acts pages program_mode a (machine_of old) (Ok (left_done (machine_with memory from.focal.state)))
leaves_lettered pages program_mode a old from memory is changed letters = rw (changed, is) letters

pub returns-in-Step-clause-effect : goal.returns-in-Step-clause-effect
returns-in-Step-clause-effect g c =
    rw (c.in-Step.is, c.if-program_mode.true)
    (edits (ShowsNext c.args.pages.now) c.args.machine.now _ _ c.show_next.result c.edited.result
    c.machine.view_is c.show_next.ensures.line c.edited.ensures)

pub returns-in-StepBack-clause-effect : goal.returns-in-StepBack-clause-effect
returns-in-StepBack-clause-effect g c =
    rw c.in-StepBack.is
    (edits (ShowsBefore c.args.pages.now) c.args.machine.now _ _ c.show_before.result c.edited-in-StepBack.result
    c.machine-in-StepBack.view_is c.show_before.ensures.line c.edited-in-StepBack.ensures)

pub returns-in-GoToEnd-clause-effect : goal.returns-in-GoToEnd-clause-effect
returns-in-GoToEnd-clause-effect g c =
    rw c.in-GoToEnd.is
    (edits GoesToEnd c.args.machine.now _ _ c.go_to_end.result c.edited-in-GoToEnd.result
    c.machine-in-GoToEnd.view_is c.go_to_end.ensures.line c.edited-in-GoToEnd.ensures)

pub returns-in-Insert-clause-effect : goal.returns-in-Insert-clause-effect
returns-in-Insert-clause-effect g c =
    rw c.in-Insert.is (
      c.stored_line-stored.result,
      c.stored_line-stored.ensures.line,
      edits (Inserts c.args.pages.now c.stored_line-stored.result) c.args.machine.now _ _ c.insert_line.result c.edited-in-Insert.result
          c.machine-in-Insert.view_is c.insert_line.ensures.line c.edited-in-Insert.ensures,
    )

pub returns-in-Replace-clause-effect : goal.returns-in-Replace-clause-effect
returns-in-Replace-clause-effect g c =
    rw c.in-Replace.is
    (edits (Replaces c.in-Replace.line) c.args.machine.now _ _ c.replace_line.result c.edited-in-Replace.result
    c.machine-in-Replace.view_is c.replace_line.ensures.line c.edited-in-Replace.ensures)

pub returns-in-Delete-clause-effect : goal.returns-in-Delete-clause-effect
returns-in-Delete-clause-effect g c =
    rw c.in-Delete.is
    (edits (Deletes c.args.pages.now) c.args.machine.now _ _ c.delete_line.result c.edited-in-Delete.result
    c.machine-in-Delete.view_is c.delete_line.ensures.line c.edited-in-Delete.ensures)

pub returns-in-Step-2-clause-effect : goal.returns-in-Step-2-clause-effect
returns-in-Step-2-clause-effect g c =
    rw (c.in-Step-2.is, c.if-program_mode.false)
    (carries sources.Program c.args.pages.now (machine_of c.args.machine.now) (machine_of c.step.new.self) c.step.result c.carried.result
    c.step.ensures.line c.carried.ensures)

pub returns-in-CarryOut-clause-effect : goal.returns-in-CarryOut-clause-effect
returns-in-CarryOut-clause-effect g c =
    rw c.in-CarryOut.is
    (carries (sources.Keys c.in-CarryOut.line) c.args.pages.now (machine_of c.args.machine.now) (machine_of c.key.new.self) c.key.result
    c.carried-in-CarryOut.result c.key.ensures.line c.carried-in-CarryOut.ensures)

pub returns-in-EndNumber-clause-effect : goal.returns-in-EndNumber-clause-effect
returns-in-EndNumber-clause-effect g c =
    rw c.in-EndNumber.is
    (carries (sources.Keys (lines.Plain ClearX)) c.args.pages.now (machine_of c.args.machine.now) (machine_of c.key-in-EndNumber.new.self)
    c.key-in-EndNumber.result c.carried-in-EndNumber.result c.key-in-EndNumber.ensures.line c.carried-in-EndNumber.ensures)

pub returns-in-BeginNumber-clause-effect : goal.returns-in-BeginNumber-clause-effect
returns-in-BeginNumber-clause-effect g c =
    rw c.in-BeginNumber.is c.begin_number.ensures.number

pub returns-in-ChangeNumber-clause-effect : goal.returns-in-ChangeNumber-clause-effect
returns-in-ChangeNumber-clause-effect g c =
    rw c.in-ChangeNumber.is c.change_number.ensures.number

pub returns-in-GoToEnd-clause-right : goal.returns-in-GoToEnd-clause-right
returns-in-GoToEnd-clause-right g c =
    right_beside c.kept_answers_stay_right.ensures.keeping c.args.machine.now _ c.go_to_end.new.ram c.go_to_end.new.focal
    c.machine-in-GoToEnd.view_is c.go_to_end.ensures.mark c.go_to_end.ensures.labels c.requires.right

pub returns-in-Insert-clause-right : goal.returns-in-Insert-clause-right
returns-in-Insert-clause-right g c =
    right_beside c.kept_answers_stay_right.ensures.keeping c.args.machine.now _ c.insert_line.new.ram c.insert_line.new.focal
    c.machine-in-Insert.view_is c.insert_line.ensures.mark c.insert_line.ensures.labels c.requires.right

pub returns-in-Replace-clause-right : goal.returns-in-Replace-clause-right
returns-in-Replace-clause-right g c =
    right_beside c.kept_answers_stay_right.ensures.keeping c.args.machine.now _ c.replace_line.new.ram c.replace_line.new.focal
    c.machine-in-Replace.view_is c.replace_line.ensures.mark c.replace_line.ensures.labels c.requires.right

pub returns-in-Delete-clause-right : goal.returns-in-Delete-clause-right
returns-in-Delete-clause-right g c =
    right_beside c.kept_answers_stay_right.ensures.keeping c.args.machine.now _ c.delete_line.new.ram c.delete_line.new.focal
    c.machine-in-Delete.view_is c.delete_line.ensures.mark c.delete_line.ensures.labels c.requires.right

pub returns-in-BeginNumber-clause-right : goal.returns-in-BeginNumber-clause-right
returns-in-BeginNumber-clause-right g c =
    c.kept_answers_stay_right.ensures.keeping c.args.machine.now c.begin_number.new.machine c.begin_number.ensures.keeps c.requires.right

pub returns-in-ChangeNumber-clause-right : goal.returns-in-ChangeNumber-clause-right
returns-in-ChangeNumber-clause-right g c =
    c.kept_answers_stay_right.ensures.keeping c.args.machine.now c.change_number.new.machine c.change_number.ensures.keeps c.requires.right

pub returns-in_default-clause-effect : goal.returns-in_default-clause-effect
returns-in_default-clause-effect g c =
    let other = c.in_default in
    let letters = letters_act c.args.pages.now c.args.program_mode (machine_of c.args.machine.now) c.args.action
    other.not-Stop other.not-Run other.not-Step other.not-StepBack other.not-CarryOut other.not-Insert other.not-Replace other.not-Delete
    other.not-BeginNumber other.not-ChangeNumber other.not-EndNumber other.not-GoToEnd in
    leaves_lettered c.args.pages.now c.args.program_mode c.args.action c.args.machine.now _ _ c.machine-in_default.view_is
    c.type_letters.ensures.memory letters

pub returns-in_default-clause-right : goal.returns-in_default-clause-right
returns-in_default-clause-right g c =
    right_over c.kept_answers_stay_right.ensures.keeping c.args.machine.now _ c.type_letters.new.ram c.machine-in_default.view_is
    c.type_letters.ensures.mark
    c.requires.right

pub returns-in-GoToEnd-clause-kept : goal.returns-in-GoToEnd-clause-kept
returns-in-GoToEnd-clause-kept g c =
    rw c.in-GoToEnd.is (closes c.args.machine.now _ c.go_to_end.new.ram c.go_to_end.new.focal _ _ c.machine-in-GoToEnd.view_is
    (sym (ap is_ok c.edited-in-GoToEnd.ensures ∙ same_ok c.go_to_end.result)) c.go_to_end.ensures.labels c.go_to_end.ensures.marked)

pub returns-in_default-clause-kept : goal.returns-in_default-clause-kept
returns-in_default-clause-kept g c =
    let other = c.in_default in
    letters_keep c.args.pages.now c.args.program_mode true (machine_of c.args.machine.now) (cache_of c.args.machine.now) _ c.args.action
    other.not-Nothing other.not-Stop other.not-Run other.not-Step other.not-StepBack other.not-CarryOut other.not-Insert other.not-Replace
    other.not-Delete other.not-BeginNumber other.not-ChangeNumber other.not-EndNumber other.not-GoToEnd c.requires.acted
    (left_over c.args.machine.now _ c.type_letters.new.ram c.machine-in_default.view_is c.type_letters.ensures.left)
