-- The answers of commands.
use Rattle.h41_debug.specs.Traces.{Traces}
use Rattle.h41_debug.specs.Run.{Run}
use Rattle.h41_laws_calculator.proofs.Chosen.{one_pair}
use Rattle.std.proofs.Common.{◌≡◌, ℕ, Bool, List, Option, Result, Ok, Err, refl, ap, ◌∙◌}
use Rattle.std.specs.Prelude.{option_map}
use Rattle.h41_commands.specs.PageBlocks.{Fills}
use Rattle.h41_commands.specs.ProgramBlocks.{Means}
use Rattle.h41_commands.specs.declared.commands.Command.TheVariants as commands
use Rattle.h41_commands.specs.declared.commands.ProgramKind.{ProgramKind}
use Rattle.h41_commands.specs.declared.commands.ProgramKind.TheVariants.{Bytes, Text}
use Rattle.h41_commands.specs.declared.refusal.LineRefusal.{LineRefusal}
use Rattle.h41_debug.specs.Bench.{BenchState, with_calculator, PressesInTurn, Steps}
use Rattle.h41_xrom.specs.Calculator.{CalculatorState}
use Rattle.h41_xrom.specs.Programs.{Becomes, Loads, size_makes}
use Rattle.h41_xrom.specs.declared.refusal.CalculatorRefusal.{CalculatorRefusal}
use Rattle.h41_deck.specs.Answers.{Answer, ends_by, says_and_ends, says_or_ends}
use Rattle.h41_deck.specs.Replies.{Calls, LoadsBytes, PlugsWords, Reply}
use Rattle.h41_deck.specs.Runs.{run_answer}
use Rattle.h41_refusals.specs.declared.refusal.Refusal.TheVariants.{Calculator}
use Rattle.h41_laws_words.specs.HasOne.{HasOne}
use Rattle.h41_laws_calculator.specs.CalculatorAnswers.{LoadHasOneOutcome, SizeHasOneOutcome}
use Rattle.h41_laws_calculator.specs.BenchOutcomes.{RunHasOneOutcome, StepsHaveOneOutcome, TraceHasOneOutcome}
use Rattle.h41_laws_decks.specs.DeckAnswers.{LoadRestsOn, PageBlockSaysOne, ReplyHasOneAnswer, ViewHasOneText}
use Rattle.h41_laws_decks.proofs.Said.{given}

-- A state and an answer as a pair.
abbrev Left : Type 0
Left = BenchState × Answer

-- Both are given by equations.
pub both_given : (t : BenchState) (answer : Answer) → HasOne {A = Left} (λ other. (other.0 ≡ t) × (other.1 ≡ answer))
both_given t answer = one_pair (λ other. (other.0 ≡ t) × (other.1 ≡ answer)) (t, answer) (refl, refl) (λ other is. is)

-- The answer is made of what a call leaves beside the state.
told_by : {B : Type 0} (tells : B → Answer) (does : BenchState → B → Type 0) → HasOne {A = BenchState × B} (λ after. does after.0 after.1)
    → HasOne {A = Left} (λ other. (of : B) × does other.0 of × (other.1 ≡ tells of))
told_by {B} tells does found =
    one_pair (λ (other : Left). (of : B) × does other.0 of × (other.1 ≡ tells of)) (found.answer.0, tells found.answer.1)
    (found.answer.1, found.right, refl) (λ other is.
    let same = found.only (other.0, is.0) is.1 in
    (ap (λ (after : BenchState × B). after.0) same, is.2 ∙ ap (λ (after : BenchState × B). tells after.1) same))

-- A call of the calculator.
abbrev Does : Type 1
Does = CalculatorState → CalculatorState → Option CalculatorRefusal → Type 0

abbrev ends : Option CalculatorRefusal → Answer
ends refusal = ends_by (option_map Calculator refusal)

called : (does : Does) (s : BenchState)
    → HasOne {A = CalculatorState × Option CalculatorRefusal} (λ after. does s.calculator after.0 after.1)
    → HasOne {A = Left} (λ other. Calls does s other.0 other.1)
called does s found =
    let t = with_calculator found.answer.0 s in
    one_pair (λ (other : Left). Calls does s other.0 other.1) (t, ends found.answer.1) (found.answer.1, found.right, refl, refl)
    (λ other is.
    let same = found.only (other.0.calculator, is.0) is.1 in (
      is.2 ∙ ap (λ (after : CalculatorState × Option CalculatorRefusal). with_calculator after.0 s) same,
      is.3 ∙ ap (λ (after : CalculatorState × Option CalculatorRefusal). ends after.1) same,
    ))

-- Blocks.
plugged : (page bank : ℕ) (writable : Bool) (words : Result (List ℕ) LineRefusal) (s : BenchState)
    → HasOne {A = Left} (λ other. PlugsWords page bank writable words s other.0 other.1)
plugged page bank writable (Ok words) s = both_given _ _
plugged page bank writable (Err refusal) s = both_given _ _

loaded : LoadHasOneOutcome → (bytes : Result (List ℕ) LineRefusal) (s : BenchState)
    → HasOne {A = Left} (λ other. LoadsBytes bytes s other.0 other.1)
loaded loads (Ok bytes) s = called (Loads bytes) s (loads bytes s.calculator)
loaded loads (Err refusal) s = both_given _ _

-- The content of a block, and what is done with it.
with_said : {A : Type 0} (Says : A → Type 0) (does : A → BenchState → BenchState → Answer → Type 0) (s : BenchState)
    → HasOne Says → ((said : A) → HasOne {A = Left} (λ other. does said s other.0 other.1))
    → HasOne {A = Left} (λ other. (said : A) × Says said × does said s other.0 other.1)
with_said {A} Says does s said done =
    let after = done said.answer in
    record {
      answer = after.answer;
      right = (said.answer, said.right, after.right);
      only = λ other is. after.only other (rw (← (said.only is.0 is.1)) is.2);
    }

says : (kind : ProgramKind) (values : List ℕ) → LoadRestsOn kind values → HasOne (Means kind values)
says Bytes values rests = given (Ok values)
says Text source rests = rests

-- Each command.
pub one_reply : ViewHasOneText → PageBlockSaysOne → LoadHasOneOutcome → SizeHasOneOutcome → StepsHaveOneOutcome → RunHasOneOutcome
    → TraceHasOneOutcome → ReplyHasOneAnswer
one_reply views blocks loads sizes steps runs traces (commands.Plug kind page bank writable) values s rests =
    with_said (Fills kind page values) (PlugsWords page bank writable) s (blocks kind page values)
    (λ words. plugged page bank writable words s)
one_reply views blocks loads sizes steps runs traces (commands.Load kind) values s rests =
    with_said (Means kind values) LoadsBytes s (says kind values rests) (λ bytes. loaded loads bytes s)
one_reply views blocks loads sizes steps runs traces (commands.Size count) values s rests =
    called (λ old. Becomes (size_makes old count) old) s (sizes count s.calculator)
one_reply views blocks loads sizes steps runs traces (commands.Step count) values s rests =
    told_by ends (Steps count s) (steps count s rests)
one_reply views blocks loads sizes steps runs traces (commands.Key keys) values s found = told_by ends (PressesInTurn keys s) found
one_reply views blocks loads sizes steps runs traces (commands.Run limit) values s rests =
    let found = told_by (λ of. run_answer of.0 of.1) (λ t of. Run limit s t of.0 of.1) (runs limit s rests) in record {
      answer = found.answer;
      right = (found.right.0.0, found.right.0.1, found.right.1, found.right.2);
      only = λ other is. found.only other ((is.0, is.1), is.2, is.3);
    }
one_reply views blocks loads sizes steps runs traces (commands.Trace count) values s rests =
    let found =
    told_by (λ of. says_and_ends of.0 (option_map Calculator of.1)) (λ t of. Traces count s t of.0 of.1) (traces count s rests) in
    record {
      answer = found.answer;
      right = (found.right.0.0, found.right.0.1, found.right.1, found.right.2);
      only = λ other is. found.only other ((is.0, is.1), is.2, is.3);
    }
one_reply views blocks loads sizes steps runs traces (commands.Show view) values s rests =
    let made = views view s in
    one_pair (λ (other : Left). Reply (commands.Show view) values s other.0 other.1) (s, says_or_ends made.answer)
    (refl, made.answer, made.right, refl) (λ other is. (is.0, is.3 ∙ ap says_or_ends (made.only is.1 is.2)))
one_reply views blocks loads sizes steps runs traces command values s rests = both_given _ _
