-- Why a deck determines what it prints, if steps, loads, blocks and lists of lines are determined.
use Rattle.std.proofs.Common.{◌≡◌, ℕ, Bool, Result, Option, Ok, Err, List, [], ◌∷◌, ◌++◌, flat_map, refl, sym, ap, subst, ◌∙◌}
use Rattle.std.specs.Prelude.{option_map}
use Rattle.std.proofs.lemmas.Grind.{flat_map-append}
use Rattle.h41_commands.specs.BlockLaws.{FillingIsDetermined, MeaningIsDetermined}
use Rattle.h41_commands.specs.declared.commands.Command.{Command}
use Rattle.h41_commands.specs.declared.commands.Command.TheVariants as commands
use Rattle.h41_commands.specs.declared.commands.View.{View}
use Rattle.h41_commands.specs.declared.commands.View.TheVariants as views
use Rattle.h41_commands.specs.declared.refusal.LineRefusal.{LineRefusal}
use Rattle.h41_commands.specs.Items.{Spelled}
use Rattle.h41_debug.specs.Bench.{BenchState, start, with_calculator}
use Rattle.h41_debug.specs.BenchLaws.{PressesAreDetermined, RunsAreDetermined, StepsAreDetermined, TracesAreDetermined}
use Rattle.h41_debug.specs.declared.run.Stop.{Stop}
use Rattle.h41_program.specs.ProgramLaws.{ListsAreDetermined}
use Rattle.h41_xrom.specs.declared.refusal.CalculatorRefusal.{CalculatorRefusal}
use Rattle.h41_xrom.specs.Calculator.{CalculatorState}
use Rattle.h41_xrom.specs.CalculatorLaws.{DisplayIsDetermined, LoadIsDetermined}
use Rattle.h41_xrom.specs.Programs.{Becomes, Loads, size_makes}
use Rattle.h41_refusals.specs.declared.refusal.Refusal.{Refusal}
use Rattle.h41_refusals.specs.declared.refusal.Refusal.TheVariants.{Calculator}
use Rattle.h41_deck.specs.Answers.{Answer, ends_by, printed_text, says_and_ends, says_or_ends}
use Rattle.h41_deck.specs.Deck.{AnswersInTurn, DeckDeterminesOutcome, DeckDeterminesText, EndedTextIsDetermined, FirstTextIsFront}
use Rattle.h41_deck.specs.Deck.{outcome_of}
use Rattle.h41_views.specs.ProgramListing.{listed_line}
use Rattle.h41_deck.specs.Replies.{Calls, ItemReply, LoadsBytes, PlugsWords, Reply}
use Rattle.h41_deck.specs.Runs.{run_answer}
use Rattle.h41_deck.specs.Views.{Shows, line_of}

-- A relation of the calculator that determines its result.
abbrev Leaves : Type 1
Leaves = CalculatorState → CalculatorState → Option CalculatorRefusal → Type 0

abbrev IsDetermined : Leaves → Type 0
IsDetermined does = (s t u : CalculatorState) (a b : Option CalculatorRefusal) → does s t a → does s u b → (t ≡ u) × (a ≡ b)

same_call : (does : Leaves) → IsDetermined does → (s t u : BenchState) (a b : Answer) → Calls does s t a → Calls does s u b
    → (t ≡ u) × (a ≡ b)
same_call does same s t u a b p q =
    let both = same s.calculator t.calculator u.calculator p.0 q.0 p.1 q.1 in (
      p.2 ∙ ap (λ c. with_calculator c s) both.0 ∙ sym q.2,
      p.3 ∙ ap (λ (why : Option CalculatorRefusal). ends_by (option_map Calculator why)) both.1 ∙ sym q.3,
    )

same_size : (count : ℕ) → IsDetermined (λ old. Becomes (size_makes old count) old)
same_size count s t u a b p q = (p.0 ∙ sym q.0, p.1 ∙ sym q.1)

same_plug : (page bank : ℕ) (writable : Bool) (words : Result (List ℕ) LineRefusal) (s t u : BenchState) (a b : Answer)
    → PlugsWords page bank writable words s t a → PlugsWords page bank writable words s u b → (t ≡ u) × (a ≡ b)
same_plug page bank writable (Ok words) s t u a b p q = (p.0 ∙ sym q.0, p.1 ∙ sym q.1)
same_plug page bank writable (Err why) s t u a b p q = (p.0 ∙ sym q.0, p.1 ∙ sym q.1)

module _ (same_steps : StepsAreDetermined) (same_load : LoadIsDetermined) (same_filling : FillingIsDetermined)
    (same_meaning : MeaningIsDetermined) (same_list : ListsAreDetermined)
    (same_keys : PressesAreDetermined) (same_display : DisplayIsDetermined)
    (same_run : RunsAreDetermined) (same_trace : TracesAreDetermined) where
  -- What is loaded.
  same_bytes : (bytes : Result (List ℕ) LineRefusal) (s t u : BenchState) (a b : Answer) → LoadsBytes bytes s t a → LoadsBytes bytes s u b
      → (t ≡ u) × (a ≡ b)
  same_bytes (Ok bytes) s t u a b p q = same_call (Loads bytes) (same_load bytes) s t u a b p q
  same_bytes (Err why) s t u a b p q = (p.0 ∙ sym q.0, p.1 ∙ sym q.1)

  -- What is shown.
  same_view : (view : View) (s : BenchState) (a b : Result (List ℕ) Refusal) → Shows view s a → Shows view s b → a ≡ b
  same_view views.Lines s a b p q =
      let lines = same_list s.calculator.nut.ram 0 p.1.0 q.1.0 p.1.1 q.1.1 in
      p.2 ∙ ap (λ (text : List ℕ). Ok text) (p.1.2 ∙ ap (flat_map listed_line) lines ∙ sym q.1.2) ∙ sym q.2
  same_view views.Display s a b p q =
      p.2 ∙ ap (λ (text : List ℕ). Ok (line_of text)) (same_display s.calculator p.0 q.0 p.1 q.1) ∙ sym q.2
  same_view view s a b p q = p ∙ sym q

  same_reply : (command : Command) (values : List ℕ) (s t u : BenchState) (a b : Answer) → Reply command values s t a
      → Reply command values s u b → (t ≡ u) × (a ≡ b)
  same_reply (commands.Plug kind page bank writable) values s t u a b p q =
      let same : p.0 ≡ q.0 = same_filling kind page values p.0 q.0 p.1 q.1 in
      same_plug page bank writable q.0 s t u a b (subst (λ made. PlugsWords page bank writable made s t a) same p.2) q.2
  same_reply (commands.Load kind) values s t u a b p q =
      let same : p.0 ≡ q.0 = same_meaning kind values p.0 q.0 p.1 q.1 in
      same_bytes q.0 s t u a b (subst (λ bytes. LoadsBytes bytes s t a) same p.2) q.2
  same_reply (commands.Size count) values s t u a b p q =
      same_call (λ old. Becomes (size_makes old count) old) (same_size count) s t u a b p q
  same_reply (commands.Step count) values s t u a b p q =
      let both = same_steps count s t u p.0 q.0 p.1 q.1 in
      (both.0, p.2 ∙ ap (λ (why : Option CalculatorRefusal). ends_by (option_map Calculator why)) both.1 ∙ sym q.2)
  same_reply (commands.Run limit) values s t u a b p q =
      let all = same_run limit s t u p.0 q.0 p.1 q.1 p.2 q.2 in
      (all.0, p.3 ∙ ap (λ (made : ℕ). run_answer made p.1) all.1 ∙ ap (λ (why : Stop). run_answer q.0 why) all.2 ∙ sym q.3)
  same_reply (commands.Trace count) values s t u a b p q =
      let all = same_trace count s t u p.0 q.0 p.1 q.1 p.2 q.2 in (
        all.0,
        p.3 ∙ ap (λ (lines : List ℕ). says_and_ends lines (option_map Calculator p.1)) all.1
            ∙ ap (λ (why : Option CalculatorRefusal). says_and_ends q.0 (option_map Calculator why)) all.2 ∙ sym q.3,
      )
  same_reply (commands.Key keys) values s t u a b p q =
      let both = same_keys keys s t u p.0 q.0 p.1 q.1 in
      (both.0, p.2 ∙ ap (λ (why : Option CalculatorRefusal). ends_by (option_map Calculator why)) both.1 ∙ sym q.2)
  same_reply (commands.Show view) values s t u a b p q =
      (p.0 ∙ sym q.0, p.3 ∙ ap says_or_ends (same_view view s p.1 q.1 p.2 q.2) ∙ sym q.3)
  same_reply command values s t u a b p q = (p.0 ∙ sym q.0, p.1 ∙ sym q.1)

  same_item : (item : Spelled) (s t u : BenchState) (a b : Answer) → ItemReply item s t a → ItemReply item s u b → (t ≡ u) × (a ≡ b)
  same_item (Err why) s t u a b p q = (p.0 ∙ sym q.0, p.1 ∙ sym q.1)
  same_item (Ok given) s t u a b p q = same_reply given.0 given.1 s t u a b p q

  same_answers : (items : List Spelled) (s : BenchState) (a b : List Answer) → AnswersInTurn items s a → AnswersInTurn items s b → a ≡ b
  same_answers [] s [] [] p q = refl
  same_answers [] s [] (y ∷ b) p q = absurd q
  same_answers [] s (x ∷ a) b p q = absurd p
  same_answers (item ∷ items) s [] b p q = absurd p
  same_answers (item ∷ items) s (x ∷ a) [] p q = absurd q
  same_answers (item ∷ items) s (x ∷ a) (y ∷ b) p q =
      let both = same_item item s p.0 q.0 x y p.1 q.1 in
      let rest = same_answers items q.0 a b (subst (λ from. AnswersInTurn items from a) both.0 p.2) q.2 in
      λ i. both.1 i ∷ rest i

  same_text : DeckDeterminesText
  same_text registers bytes text other p q =
      p.2 ∙ ap (λ answers. flat_map printed_text answers) (same_answers _ (start registers) p.0 q.0 p.1.answered q.1.answered) ∙ sym q.2

  same_ended : EndedTextIsDetermined
  same_ended registers bytes text other p q =
      p.2 ∙ ap (λ answers. flat_map printed_text answers) (same_answers _ (start registers) p.0 q.0 p.1 q.1) ∙ sym q.2

  same_outcome : DeckDeterminesOutcome
  same_outcome registers bytes outcome other p q =
      p.2 ∙ ap outcome_of (same_answers _ (start registers) p.0 q.0 p.1.answered q.1.answered) ∙ sym q.2

  same_first : (items more : List Spelled) (s : BenchState) (a b : List Answer) → AnswersInTurn items s a
      → AnswersInTurn (items ++ more) s b → (c : List Answer) × (b ≡ a ++ c)
  same_first [] more s [] b p q = (b, refl)
  same_first [] more s (x ∷ a) b p q = absurd p
  same_first (item ∷ items) more s [] b p q = absurd p
  same_first (item ∷ items) more s (x ∷ a) [] p q = absurd q
  same_first (item ∷ items) more s (x ∷ a) (y ∷ b) p q =
      let both = same_item item s q.0 p.0 y x q.1 p.1 in
      let rest = same_first items more p.0 a b p.2 (subst (λ from. AnswersInTurn (items ++ more) from b) both.0 q.2) in
      (rest.0, λ i. both.1 i ∷ rest.1 i)

  first_is_front : FirstTextIsFront
  first_is_front registers deck first text p q =
      let given = subst (λ (of : List Spelled). AnswersInTurn of (start registers) q.0) p.begins q.1.answered in
      let more = same_first p.first p.rest (start registers) p.answers q.0 p.answered given in (
        flat_map printed_text more.0,
        q.2 ∙ ap (λ answers. flat_map printed_text answers) more.1 ∙ flat_map-append printed_text p.answers more.0
            ∙ ap (λ (front : List ℕ). front ++ flat_map printed_text more.0) (sym p.text_is),
      )

  pub all_determined : DeckDeterminesText × EndedTextIsDetermined × DeckDeterminesOutcome × FirstTextIsFront
  all_determined = (same_text, same_ended, same_outcome, first_is_front)
