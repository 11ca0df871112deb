-- The states that decks lead to, and the results that their commands depend on there.
use Rattle.h41_laws_calculator.proofs.Chosen.{one_made, one_pair}
use Rattle.std.proofs.Common.{◌≡◌, ℕ, Bool, zero, suc, List, [], ◌∷◌, Option, Some, None, Result, Ok, Err, flat_map, rules, refl}
use Rattle.std.specs.Prelude.{MatchOption, option_map}
use Rattle.h41_commands.specs.Items.{Spelled}
use Rattle.h41_commands.specs.declared.commands.Command.{Command}
use Rattle.h41_commands.specs.declared.commands.Command.TheVariants as named
use Rattle.h41_commands.specs.declared.commands.ProgramKind.{ProgramKind}
use Rattle.h41_commands.specs.declared.commands.ProgramKind.TheVariants.{Bytes, Text}
use Rattle.h41_commands.specs.declared.refusal.LineRefusal.{LineRefusal}
use Rattle.h41_debug.specs.Bench.{BenchState, PressesInTurn, Steps, StepsInto, start, with_calculator, with_set, without_set}
use Rattle.h41_debug.specs.BenchLaws.{PressesAreDetermined, TracesAreSteps}
use Rattle.h41_deck.specs.Answers.{Answer, printed_text}
use Rattle.h41_deck.specs.Deck.{FirstTextIsFront, commands_ended}
use Rattle.h41_deck.specs.Replies.{LoadsBytes, PlugsWords, Reply, state_unless, block_refusal, set_refusal, unset_refusal, with_words}
use Rattle.h41_refusals.specs.declared.refusal.Refusal.{Refusal}
use Rattle.h41_keys.specs.declared.key.Key.{Key}
use Rattle.h41_xrom.specs.Calculator.{CalculatorState, after_call, without_page}
use Rattle.h41_xrom.specs.KeyActions.{Presses}
use Rattle.h41_xrom.specs.declared.refusal.CalculatorRefusal.{CalculatorRefusal}
use Rattle.h41_laws_decks.specs.DeckAnswers.{LoadRestsOn, ProgramBlockMeansOne, RestsOn}
use Rattle.h41_laws_decks.specs.DeckTexts.{AnswersHaveOneList, DeckHasOneText, InTurnRestsOn}
use Rattle.h41_laws_decks.specs.WholeBenches.{EachDeckHasOneText, EachFrontHasOneText, FirstTextHasRest, IsWholeBench, ReplyLeavesWhole}
use Rattle.h41_laws_decks.specs.WholeBenches.{WholeBenchRests}
use Rattle.h41_laws_words.proofs.Answering.{Has}
use Rattle.h41_laws_words.specs.HasOne.{HasOne}
use Rattle.h41_laws_calculator.specs.BenchOutcomes.{KeysLeave, LeadsToRegisters}
use Rattle.h41_laws_calculator.specs.WholeCalculators.{CallLeavesWhole, LoadLeavesWhole, PlugLeavesWhole, PressLeavesWhole}
use Rattle.h41_laws_calculator.specs.WholeCalculators.{ResetLeavesWhole, SizeLeavesWhole, StartIsWhole, StepLeavesWhole, UnplugLeavesWhole}
use Rattle.h41_laws_calculator.specs.WholeCalculators.{WholeKeyHasOneOutcome}
use Rattle.h41_refusals.specs.Pages.{of_plug, of_unplug}
use Rattle.h41_commands.specs.Blocks.{page_of_words}

-- A change that is made unless there is a refusal.
unless_whole : (refusal : Option Refusal) (changed s : BenchState) → IsWholeBench s → (refusal ≡ None → IsWholeBench changed)
    → IsWholeBench (state_unless refusal changed s)
unless_whole None changed s whole makes = makes refl
unless_whole (Some refusal) changed s whole makes = whole

no_refusal : {A B : Type 0} (of : A → B) (refusal : Option A) → option_map of refusal ≡ None → refusal ≡ None
no_refusal of None is = refl
no_refusal {A} {B} of (Some refusal) is = absurd (let never : ◌≡◌ {A = Option B} (Some (of refusal)) None = is in cc)

-- STEPS in turn
module _ (steps : StepLeavesWhole) where
  step_made : (count : ℕ) (s t : BenchState) (refusal why : Option CalculatorRefusal) → IsWholeBench s
      → ((next : BenchState) → IsWholeBench next → Steps count next t refusal → IsWholeBench t)
      → MatchOption why (StepsInto (λ next. Steps count next t refusal) s) (λ why. (t ≡ s) × (refusal ≡ Some why)) → IsWholeBench t
  step_made count s t refusal None whole more is = search rules
  step_made count s t refusal (Some why) whole more is = rw is.0 whole

  pub steps_whole : (count : ℕ) (s t : BenchState) (refusal : Option CalculatorRefusal) → IsWholeBench s → Steps count s t refusal
      → IsWholeBench t
  steps_whole zero s t refusal whole is = rw is.0 whole
  steps_whole (suc count) s t refusal whole is =
      step_made count s t refusal is.0 whole (λ next next_whole more. steps_whole count next t refusal next_whole more) is.2

  pub leads : (s : BenchState) → IsWholeBench s → LeadsToRegisters s
  leads s whole made t is = (steps_whole made s t None whole is).nut.processor.abc

-- KEYS in turn
module _ (presses : PressLeavesWhole) where
  key_made : (keys : List Key) (s t : BenchState) (next : CalculatorState) (refusal why : Option CalculatorRefusal)
      → IsWholeBench (with_calculator next s)
      → ((from : BenchState) → IsWholeBench from → PressesInTurn keys from t refusal → IsWholeBench t)
      → MatchOption why (PressesInTurn keys (with_calculator next s) t refusal)
      (λ why. (t ≡ with_calculator next s) × (refusal ≡ Some why))
      → IsWholeBench t
  key_made keys s t next refusal None whole more is = more (with_calculator next s) whole is
  key_made keys s t next refusal (Some why) whole more is = rw is.0 whole

  keys_whole : (keys : List Key) (s t : BenchState) (refusal : Option CalculatorRefusal) → IsWholeBench s
      → PressesInTurn keys s t refusal → IsWholeBench t
  keys_whole [] s t refusal whole is = rw is.0 whole
  keys_whole (key ∷ keys) s t refusal whole is =
      key_made keys s t is.0 refusal is.1 (presses key s.calculator is.0 is.1 whole is.2)
      (λ from from_whole more. keys_whole keys from t refusal from_whole more) is.3

  key_there : (key : Key) (keys : List Key) (s : BenchState) (next : CalculatorState) (why : Option CalculatorRefusal)
      → Presses key s.calculator next why → Has (KeysLeave keys (with_calculator next s)) → Has (KeysLeave (key ∷ keys) s)
  key_there key keys s next None press more = record { answer = more.answer; right = (next, None, press, more.right) }
  key_there key keys s next (Some why) press more =
      record { answer = (with_calculator next s, Some why); right = (next, Some why, press, (refl, refl)) }

  module _ (outcomes : WholeKeyHasOneOutcome) where
    keys_there : (keys : List Key) (s : BenchState) → IsWholeBench s → Has (KeysLeave keys s)
    keys_there [] s whole = record { answer = (s, None); right = (refl, refl) }
    keys_there (key ∷ keys) s whole =
        let one = outcomes key s.calculator whole in
        let next_whole = presses key s.calculator one.answer.0 one.answer.1 whole one.right in
        key_there key keys s one.answer.0 one.answer.1 one.right (keys_there keys (with_calculator one.answer.0 s) next_whole)

    pub one_of_keys : PressesAreDetermined → (keys : List Key) (s : BenchState) → IsWholeBench s → HasOne (KeysLeave keys s)
    one_of_keys determined keys s whole =
        let found = keys_there keys s whole in
        one_pair (KeysLeave keys s) found.answer found.right
        (λ other again. determined keys s other.0 found.answer.0 other.1 found.answer.1 again found.right)

-- REPLIES
module _ (steps : StepLeavesWhole) (presses : PressLeavesWhole) (loads : LoadLeavesWhole) (sizes : SizeLeavesWhole)
    (calls : CallLeavesWhole) (resets : ResetLeavesWhole) (plugs : PlugLeavesWhole) (unplugs : UnplugLeavesWhole)
    (traces : TracesAreSteps) where
  plugged : (page bank : ℕ) (writable : Bool) (words : Result (List ℕ) LineRefusal) (s t : BenchState) (answer : Answer) → IsWholeBench s
      → PlugsWords page bank writable words s t answer → IsWholeBench t
  plugged page bank writable (Ok words) s t answer whole is =
      rw is.0 (unless_whole (block_refusal s page bank words) (with_words page bank writable words s) s whole
      (λ none. plugs page bank writable (page_of_words words) s.calculator whole (no_refusal of_plug _ none)))
  plugged page bank writable (Err refusal) s t answer whole is = rw is.0 whole

  loaded : (bytes : Result (List ℕ) LineRefusal) (s t : BenchState) (answer : Answer) → IsWholeBench s → LoadsBytes bytes s t answer
      → IsWholeBench t
  loaded (Ok bytes) s t answer whole is = loads bytes s.calculator t.calculator is.0 whole is.1
  loaded (Err refusal) s t answer whole is = rw is.0 whole

  replied : (command : Command) (values : List ℕ) (s t : BenchState) (answer : Answer) → IsWholeBench s
      → Reply command values s t answer → IsWholeBench t
  replied (named.Plug kind page bank writable) values s t answer whole is = plugged page bank writable is.0 s t answer whole is.2
  replied (named.Load kind) values s t answer whole is = loaded is.0 s t answer whole is.2
  replied (named.Unplug page) values s t answer whole is =
      rw is.0 (unless_whole _ (with_calculator (without_page page s.calculator) s) s whole
      (λ none. unplugs page s.calculator whole (no_refusal of_unplug _ none)))
  replied (named.Size count) values s t answer whole is = rw is.1.0 (sizes count s.calculator whole)
  replied named.Reset values s t answer whole is = rw is.0 (resets s.calculator whole)
  replied (named.Call address) values s t answer whole is =
      rw is.0 (unless_whole _ (with_calculator (after_call address s.calculator) s) s whole (λ none. calls address s.calculator whole))
  replied (named.Key keys) values s t answer whole is = keys_whole presses keys s t is.0 whole is.1
  replied (named.Step count) values s t answer whole is = steps_whole steps count s t is.0 whole is.1
  replied (named.Run limit) values s t answer whole is = steps_whole steps is.0 s t None whole is.2.steps
  replied (named.Trace count) values s t answer whole is = steps_whole steps count s t is.1 whole (traces count s t is.0 is.1 is.2)
  replied (named.Break location) values s t answer whole is =
      rw is.0 (unless_whole (set_refusal s location) (with_set location s) s whole (λ none. whole))
  replied (named.Unbreak location) values s t answer whole is =
      rw is.0 (unless_whole (unset_refusal s location) (without_set location s) s whole (λ none. whole))
  replied (named.List address count) values s t answer whole is = rw is.0 whole
  replied (named.Show view) values s t answer whole is = rw is.0 whole

  pub reply_whole : ReplyLeavesWhole
  reply_whole (Ok given) s t answer whole is = replied given.0 given.1 s t answer whole is
  reply_whole (Err refusal) s t answer whole is = rw is.0 whole

-- WHAT COMMANDS DEPEND ON
module _ (steps : StepLeavesWhole) (meant : ProgramBlockMeansOne)
    (keys : (keys : List Key) (s : BenchState) → IsWholeBench s → HasOne (KeysLeave keys s)) where
  load_rests : (kind : ProgramKind) (values : List ℕ) → LoadRestsOn kind values
  load_rests Bytes values = tt
  load_rests Text source = meant Text source

  rests_on : (command : Command) (values : List ℕ) (s : BenchState) → IsWholeBench s → RestsOn command values s
  rests_on (named.Load kind) values s whole = load_rests kind values
  rests_on (named.Key names) values s whole = keys names s whole
  rests_on (named.Step count) values s whole = leads steps s whole
  rests_on (named.Run limit) values s whole = leads steps s whole
  rests_on (named.Trace count) values s whole = leads steps s whole
  rests_on command values s whole = tt

  pub bench_rests : WholeBenchRests
  bench_rests (Ok given) s whole = rests_on given.0 given.1 s whole
  bench_rests (Err refusal) s whole = tt

-- DECKS
module _ (starts : StartIsWhole) (leaves : ReplyLeavesWhole) (rests : WholeBenchRests) where
  in_turn : (items : List Spelled) (s : BenchState) → IsWholeBench s → InTurnRestsOn items s
  in_turn [] s whole = tt
  in_turn (item ∷ items) s whole = (rests item s whole, λ t answer is. in_turn items t (leaves item s t answer whole is))

  pub each_deck : DeckHasOneText → EachDeckHasOneText
  each_deck decks registers deck most bound = search (rules, in_turn)

  pub each_front : AnswersHaveOneList → EachFrontHasOneText
  each_front all registers bytes most =
      one_made (flat_map printed_text)
      (all (commands_ended bytes) (start registers) (in_turn (commands_ended bytes) (start registers) (starts registers most)))

pub first_rest : EachDeckHasOneText → FirstTextIsFront → FirstTextHasRest
first_rest decks fronts registers deck first most bound is =
    let text = (decks registers deck most bound).0 in
    let front = fronts registers deck first text.answer is text.right in
    (text.answer, text.right, front.0, front.1)
