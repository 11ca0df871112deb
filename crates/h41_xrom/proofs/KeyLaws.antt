-- Why a state and a key determine the result.
use Rattle.std.proofs.Common.{◌≡◌, ℕ, Bool, true, false, List, Option, Some, None, Result, Ok, Err, sym, ap, subst, ◌∙◌}
use Rattle.std.specs.Prelude.{◌&&◌, ◌||◌, MatchBool, MatchOption}
use Rattle.std.specs.Result.{result_err, result_unwrap_or}
use Rattle.h41_codes.specs.declared.characters.Character.{Character}
use Rattle.h41_codes.specs.declared.functions.Function.{Function}
use Rattle.h41_codes.specs.declared.functions.Function.TheVariants.{ClearX}
use Rattle.h41_codes.specs.declared.functions.NameFunction.TheVariants.{ExecuteName, GoToName, Wordless}
use Rattle.h41_codes.specs.declared.line.Line.{Line}
use Rattle.h41_codes.specs.declared.line.Line.TheVariants as lines
use Rattle.h41_editor.specs.Changes.{Deletes, Inserts, Replaces}
use Rattle.h41_editor.specs.EditorLaws.{ChangeIsDetermined, MoveIsDetermined}
use Rattle.h41_editor.specs.Moves.{GoesToEnd, ShowsBefore, ShowsNext}
use Rattle.h41_focal.specs.LineLaws.{LineIsDetermined, NameIsDetermined}
use Rattle.h41_focal.specs.LineStep.{Left, left_done}
use Rattle.h41_positions.specs.FocalState.{Machine}
use Rattle.h41_keys.specs.declared.action.Action.{Action}
use Rattle.h41_keys.specs.declared.action.Action.TheVariants as actions
use Rattle.h41_keys.specs.declared.input.Flags.{Flags}
use Rattle.h41_keys.specs.declared.input.Input.{Input}
use Rattle.h41_keys.specs.declared.input.Place.{Place}
use Rattle.h41_keys.specs.declared.input.Place.TheVariants as places
use Rattle.h41_keys.specs.declared.input.Pressed.{Pressed}
use Rattle.h41_keys.specs.declared.key.Key.{Key}
use Rattle.h41_pages.specs.FunctionTables.{function_of_name}
use Rattle.h41_pages.specs.PageMap.{PageMap}
use Rattle.h41_positions.specs.PositionLaws.{IsReadOnce}
use Rattle.h41_positions.specs.declared.position.Position.{Position}
use Rattle.h41_positions.specs.declared.position.Position.TheVariants.{Memory, Page}
use Rattle.h41_program.specs.LastProgram.{open_in}
use Rattle.h41_program.specs.SearchLaws.{AnswersAreDetermined}
use Rattle.h41_program.specs.Searches.{named_in, position_of}
use Rattle.h41_program.specs.declared.listed_line.ListedLine.{ListedLine}
use Rattle.h41_program.specs.declared.refusal.ProgramRefusal.{ProgramRefusal}
use Rattle.h41_ram.specs.RegisterMap.{RegisterMap, is_sound}
use Rattle.h41_rows.specs.RowLaws.{ValuesAreDetermined}
use Rattle.h41_rows.specs.Values.{Computes, Written}
use Rattle.h41_rows.specs.declared.fault.LineFault.{LineFault}
use Rattle.h41_xrom.specs.Calculator.{CalculatorState, machine_of}
use Rattle.h41_xrom.specs.CalculatorLaws.{KeyIsDetermined}
use Rattle.h41_xrom.specs.KeyActions.{Acts, BeginsNumber, Carries, ChangesNumber, Edits, HasFlags, IsPlace, IsStoredAs, KeyMakes}
use Rattle.h41_xrom.specs.KeyActions.{StoredFunction, StoredIfNoLabel, StoredName, StoresLine, after_outcome}
use Rattle.h41_xrom.specs.KeyActions.{edit_effect, flags_at, is_final, key_refusal, line_effect, press_of, puts_end, with_key_accepted}
use Rattle.h41_xrom.specs.KeyActions.{with_number_changed, with_number_started}
use Rattle.h41_focal.specs.OutsideCalls.{LineSource}
use Rattle.h41_focal.specs.OutsideCalls as sources
use Rattle.h41_xrom.specs.declared.refusal.CalculatorRefusal.{CalculatorRefusal}

-- The result of an action.
abbrev Made : Type 0
Made = Result Left CalculatorRefusal

-- An edit of the program, or a move.
same_edit : (Edit : Machine → Result Machine ProgramRefusal → Type 0) (same : MoveIsDetermined Edit) (machine : Machine) (a b : Made)
    → Edits Edit machine a → Edits Edit machine b → a ≡ b
same_edit Edit same machine a b (p, p_edits, p_is) (q, q_edits, q_is) = p_is ∙ ap edit_effect (same machine p q p_edits q_edits) ∙ sym q_is

-- A number that is typed.
same_register : (register other : List ℕ) → ◌≡◌ {A = Result (List ℕ) LineFault} (Ok register) (Ok other) → register ≡ other
same_register register other is = cc

module _ (same_value : ValuesAreDetermined) where
  same_written : (text : List Character) (memory : RegisterMap) (register other : List ℕ)
      → Computes (Written text) memory 0 (Ok register) → Computes (Written text) memory 0 (Ok other) → register ≡ other
  same_written text memory register other p q =
      same_register register other (same_value (Written text) memory 0 (Ok register) (Ok other) p q)

  same_beginning : (text : List Character) (machine : Machine) (a b : Made) → BeginsNumber text machine a → BeginsNumber text machine b
      → a ≡ b
  same_beginning text machine a b (p, p_computes, p_is) (q, q_computes, q_is) =
      p_is ∙ ap (λ (of : List ℕ). Ok (left_done (with_number_started machine of)))
      (same_written text machine.memory p q p_computes q_computes)
      ∙ sym q_is

  same_change : (text : List Character) (machine : Machine) (a b : Made) → ChangesNumber text machine a → ChangesNumber text machine b
      → a ≡ b
  same_change text machine a b (p, p_computes, p_is) (q, q_computes, q_is) =
      p_is ∙ ap (λ (of : List ℕ). Ok (left_done (with_number_changed machine of)))
      (same_written text machine.memory p q p_computes q_computes)
      ∙ sym q_is

-- Where the shown line is.
module _ (positions : IsReadOnce) (same_last : AnswersAreDetermined (Result Bool ProgramRefusal)) where
  same_place : (pages : PageMap) (machine : Machine) (at : Position) (a b : Place) → IsPlace pages machine at a → IsPlace pages machine at b
      → a ≡ b
  same_place pages machine (Memory byte) a b p q = p ∙ sym q
  same_place pages machine (Page address) a b (f, l, f_stands, l_answers, a_is) (g, m, g_stands, m_answers, b_is) =
      let first : f ≡ g = positions.line pages machine.memory (Page address) f g f_stands g_stands in
      let last : l ≡ m = same_last machine.memory open_in 0 l m l_answers m_answers in
      a_is
      ∙ (λ i. places.Page (machine.focal.at_line_00 || (is_sound machine.memory && is_final (first i))) (puts_end (last i)))
      ∙ sym b_is

  same_flags : (s : CalculatorState) (a b : Flags) → HasFlags s a → HasFlags s b → a ≡ b
  same_flags s a b (p, p_place, a_is) (q, q_place, b_is) =
      a_is ∙ ap (λ (place : Place). flags_at place s) (same_place s.nut.pages (machine_of s) s.focal.position p q p_place q_place)
      ∙ sym b_is

module _ (same_line : LineIsDetermined) (same_function : NameIsDetermined) where
  -- A line that is executed.
  same_carry : (source : LineSource) (pages : PageMap) (machine : Machine) (a b : Made) → Carries source pages machine a
      → Carries source pages machine b → a ≡ b
  same_carry source pages machine a b (p, p_carries, p_is) (q, q_carries, q_is) =
      p_is ∙ ap line_effect (same_line source pages machine p q p_carries q_carries) ∙ sym q_is

  -- The line that is stored.
  same_stored_function : (function : Option Function) (line a b : Line) → StoredFunction line function a → StoredFunction line function b
      → a ≡ b
  same_stored_function (Some function) line a b p q = p ∙ sym q
  same_stored_function None line a b p q = p ∙ sym q

  same_elsewhere : (numbers : Option (ℕ × ℕ)) (line : Line) (name : List ℕ) (a b : Line)
      → StoredIfNoLabel line name numbers a → StoredIfNoLabel line name numbers b → a ≡ b
  same_elsewhere (Some numbers) line name a b p q = p ∙ sym q
  same_elsewhere None line name a b (f, f_named, f_stored) (g, g_named, g_stored) =
      let same : f ≡ g = same_function name f g f_named g_named in
      same_stored_function g line a b (subst (λ (function : Option Function). StoredFunction line function a) same f_stored) g_stored

  same_stored_name : (label : Option ℕ) (pages : PageMap) (line : Line) (name : List ℕ) (a b : Line)
      → StoredName pages line name label a → StoredName pages line name label b → a ≡ b
  same_stored_name (Some position) pages line name a b p q = p ∙ sym q
  same_stored_name None pages line name a b p q = same_elsewhere (function_of_name pages name) line name a b p q

  module _ (same_search : AnswersAreDetermined (Option ℕ)) where
    same_stored : (line : Line) (pages : PageMap) (memory : RegisterMap) (a b : Line) → IsStoredAs pages memory line a
        → IsStoredAs pages memory line b → a ≡ b
    same_stored (lines.Named ExecuteName name) pages memory a b (p, p_answers, p_stored) (q, q_answers, q_stored) =
        let same : p ≡ q =
        same_search memory (λ (listed : List ListedLine). position_of (named_in name listed)) 0 p q p_answers q_answers in
        same_stored_name q pages (lines.Named ExecuteName name) name a b
        (subst (λ (label : Option ℕ). StoredName pages (lines.Named ExecuteName name) name label a) same p_stored) q_stored
    same_stored (lines.Named GoToName name) pages memory a b p q = p ∙ sym q
    same_stored (lines.Named Wordless name) pages memory a b p q = p ∙ sym q
    same_stored lines.Null pages memory a b p q = p ∙ sym q
    same_stored (lines.LocalLabel label) pages memory a b p q = p ∙ sym q
    same_stored (lines.Number text) pages memory a b p q = p ∙ sym q
    same_stored (lines.Register function register) pages memory a b p q = p ∙ sym q
    same_stored (lines.Plain function) pages memory a b p q = p ∙ sym q
    same_stored (lines.WithOperand function operand) pages memory a b p q = p ∙ sym q
    same_stored (lines.Module number entry) pages memory a b p q = p ∙ sym q
    same_stored (lines.BranchIndirect branch register) pages memory a b p q = p ∙ sym q
    same_stored (lines.ShortGoTo label distance) pages memory a b p q = p ∙ sym q
    same_stored (lines.GlobalLabel link key name) pages memory a b p q = p ∙ sym q
    same_stored (lines.End link marks) pages memory a b p q = p ∙ sym q
    same_stored (lines.FinalEnd link marks) pages memory a b p q = p ∙ sym q
    same_stored (lines.BranchTo branch distance backwards label) pages memory a b p q = p ∙ sym q
    same_stored (lines.Text text) pages memory a b p q = p ∙ sym q

    module _ (positions : IsReadOnce) (same_last : AnswersAreDetermined (Result Bool ProgramRefusal))
        (same_next : (pages : PageMap) → MoveIsDetermined (ShowsNext pages))
        (same_before : (pages : PageMap) → MoveIsDetermined (ShowsBefore pages))
        (same_ending : MoveIsDetermined GoesToEnd) (same_insertion : (pages : PageMap) → ChangeIsDetermined (Inserts pages))
        (same_replacement : ChangeIsDetermined Replaces) (same_deletion : (pages : PageMap) → MoveIsDetermined (Deletes pages))
        (same_value : ValuesAreDetermined) where
      same_storing : (pages : PageMap) (line : Line) (machine : Machine) (a b : Made) → StoresLine pages line machine a
          → StoresLine pages line machine b → a ≡ b
      same_storing pages line machine a b (p, p_stored, p_edits) (q, q_stored, q_edits) =
          let same : p ≡ q = same_stored line pages machine.memory p q p_stored q_stored in
          same_edit (Inserts pages q) (same_insertion pages q) machine a b
          (subst (λ (of : Line). Edits (Inserts pages of) machine a) same p_edits) q_edits

      -- The key SST.
      same_single : (program_mode : Bool) (pages : PageMap) (machine : Machine) (a b : Made)
          → MatchBool program_mode (Edits (ShowsNext pages) machine a) (Carries sources.Program pages machine a)
          → MatchBool program_mode (Edits (ShowsNext pages) machine b) (Carries sources.Program pages machine b) → a ≡ b
      same_single true pages machine a b p q = same_edit (ShowsNext pages) (same_next pages) machine a b p q
      same_single false pages machine a b p q = same_carry sources.Program pages machine a b p q

      -- Each action.
      same_act : (action : Action) (pages : PageMap) (program_mode : Bool) (machine : Machine) (a b : Made)
          → Acts pages program_mode action machine a → Acts pages program_mode action machine b → a ≡ b
      same_act actions.Nothing pages program_mode machine a b p q = p ∙ sym q
      same_act actions.Stop pages program_mode machine a b p q = p ∙ sym q
      same_act actions.Run pages program_mode machine a b p q = p ∙ sym q
      same_act actions.Step pages program_mode machine a b p q = same_single program_mode pages machine a b p q
      same_act actions.StepBack pages program_mode machine a b p q = same_edit (ShowsBefore pages) (same_before pages) machine a b p q
      same_act actions.GoToEnd pages program_mode machine a b p q = same_edit GoesToEnd same_ending machine a b p q
      same_act (actions.CarryOut line) pages program_mode machine a b p q = same_carry (sources.Keys line) pages machine a b p q
      same_act (actions.Insert line) pages program_mode machine a b p q = same_storing pages line machine a b p q
      same_act (actions.Replace line) pages program_mode machine a b p q = same_edit (Replaces line) (same_replacement line) machine a b p q
      same_act actions.Delete pages program_mode machine a b p q = same_edit (Deletes pages) (same_deletion pages) machine a b p q
      same_act (actions.BeginNumber text) pages program_mode machine a b p q = same_beginning same_value text machine a b p q
      same_act (actions.ChangeNumber text) pages program_mode machine a b p q = same_change same_value text machine a b p q
      same_act actions.EndNumber pages program_mode machine a b p q = same_carry (sources.Keys (lines.Plain ClearX)) pages machine a b p q
      same_act actions.ToggleAlpha pages program_mode machine a b p q = p ∙ sym q
      same_act (actions.BeginText letter) pages program_mode machine a b p q = p ∙ sym q
      same_act (actions.AddLetter letter) pages program_mode machine a b p q = p ∙ sym q
      same_act actions.TakeLetter pages program_mode machine a b p q = p ∙ sym q
      same_act actions.ClearAlpha pages program_mode machine a b p q = p ∙ sym q

      -- The result of a key.
      same_made : (why : Option CalculatorRefusal) (s : CalculatorState) (key : Key)
          (action : Action) (input : Input) (a b : Result CalculatorState CalculatorRefusal)
          → MatchOption why
          ((effect : Made) × Acts s.nut.pages input.program_mode action (machine_of s) effect
          × (a ≡ after_outcome (with_key_accepted key input s) effect))
          (λ why. a ≡ Err why)
          → MatchOption why
          ((effect : Made) × Acts s.nut.pages input.program_mode action (machine_of s) effect
          × (b ≡ after_outcome (with_key_accepted key input s) effect))
          (λ why. b ≡ Err why)
          → a ≡ b
      same_made None s key action input a b p q =
          p.2 ∙ ap (after_outcome (with_key_accepted key input s))
          (same_act action s.nut.pages input.program_mode (machine_of s) p.0 q.0 p.1 q.1) ∙ sym q.2
      same_made (Some why) s key action input a b p q = p ∙ sym q

      same_key : (of : Option Pressed) (s : CalculatorState) (key : Key) (a b : Result CalculatorState CalculatorRefusal)
          → KeyMakes s key of a → KeyMakes s key of b → a ≡ b
      same_key None s key a b p q = p ∙ sym q
      same_key (Some of) s key a b p q = same_made (key_refusal s) s key of.action of.input a b p q

      pub key_determined : KeyIsDetermined
      key_determined key s t u a b (f, f_has, p, p_makes, p_becomes) (g, g_has, q, q_makes, q_becomes) =
          let flags : f ≡ g = same_flags positions same_last s f g f_has g_has in
          let makes = subst (λ (of : Flags). KeyMakes s key (press_of s key of) p) flags p_makes in
          let made : p ≡ q = same_key (press_of s key g) s key p q makes q_makes in (
            p_becomes.0 ∙ ap (λ (of : Result CalculatorState CalculatorRefusal). result_unwrap_or of s) made ∙ sym q_becomes.0,
            p_becomes.1 ∙ ap result_err made ∙ sym q_becomes.1,
          )
