-- How a run and a trace are answered.
use Rattle.std.proofs.Common.{◌≡◌, Ok, ℕ, suc, List, [], ◌++◌, Option, Some, None, refl, sym, ap, subst, append-nil, append_assoc, ◌∙◌}
use Rattle.std.proofs.KnownBytes.{Appends-trans}
use Rattle.std.specs.Prelude.{option_map}
use Rattle.std.specs.Io.KnownBytes.{Appends}
use Rattle.h41_commands.specs.declared.commands.Command.TheVariants as commands
use Rattle.h41_debug.specs.Bench.{BenchState, Steps, with_calculator}
use Rattle.h41_debug.specs.BenchLaws.{StepsAreTraced}
use Rattle.h41_debug.specs.Run.{Run}
use Rattle.h41_debug.specs.Traces.{Traces, traced_line}
use Rattle.h41_debug.specs.declared.run.Stop.{Stop}
use Rattle.h41_ends.specs.Ends.{AppendsPart}
use Rattle.h41_xrom.specs.Calculator.{RefusesStep, Step}
use Rattle.h41_xrom.specs.declared.refusal.CalculatorRefusal.{CalculatorRefusal}
use Rattle.h41_refusals.specs.declared.refusal.Refusal.TheVariants.{Calculator}
use Rattle.h41_deck.specs.Answers.{Answer, ending_line, printed_text, says_and_ends}
use Rattle.h41_deck.specs.Runs.{run_answer, ran_text, stop_refusal}
use Rattle.h41_deck.specs.private.Writing.{RepliesInPart, SaysText, IsTraceLine}
use Rattle.h41_deck.proofs.Commanded.{later_part, part_longer}

pub run_in_part : (limit made : ℕ) (why : Stop) (values : List ℕ) (s t : BenchState) (old new : Option (List ℕ))
    → Run limit s t made why → AppendsPart old new (ran_text made why) → RepliesInPart (Ok (commands.Run limit, values)) s t old new
run_in_part limit made why values s t old new run part = record {
  text = printed_text (run_answer made why);
  printed_until = (run_answer made why, (made, why, run, refl), refl);
  written = part_longer old new (ran_text made why) (ending_line (stop_refusal why)) part;
}

-- What a trace has written so far, and that it continues with the steps that remain.
pub record TracesOn (count left : ℕ) (s mid : BenchState) (old now : Option (List ℕ)) : Type 0 where
  pub lines : List ℕ
  pub written : Appends old now lines
  pub goes_on : (t : BenchState) (more : List ℕ) (refusal : Option CalculatorRefusal) → Traces left mid t more refusal
      → Traces count s t (lines ++ more) refusal

-- A step whose line is written and that is made, and one whose line is written and that is refused.
pub traces_more : (count left : ℕ) (s mid next : BenchState) (old before now : Option (List ℕ)) (line : List ℕ)
    → TracesOn count (suc left) s mid old before → IsTraceLine mid line → Appends before now line
    → RefusesStep mid.calculator None → Step mid.calculator next.calculator → next ≡ with_calculator next.calculator mid
    → TracesOn count left s next old now
traces_more count left s mid next old before now line on tells written accepted step others = record {
  lines = on.lines ++ line;
  written = Appends-trans old before now on.lines line on.written written;
  goes_on = λ t more refusal rest.
      let own : Traces left (with_calculator next.calculator mid) t more refusal =
      subst (λ (from : BenchState). Traces left from t more refusal) others rest in
      let told : line ++ more ≡ traced_line tells.0 ++ more = ap (λ (of : List ℕ). of ++ more) tells.2 in
      subst (λ (all : List ℕ). Traces count s t all refusal) (sym (append_assoc on.lines line more))
      (on.goes_on t (line ++ more) refusal (tells.0, tells.1, more, told, None, accepted, (next.calculator, step, own)));
}

pub traces_end : (count left : ℕ) (values : List ℕ) (s t : BenchState) (old now : Option (List ℕ)) → left ≡ 0
    → TracesOn count left s t old now → SaysText (Ok (commands.Trace count, values)) s t old now None
traces_end count left values s t old now none on = record {
  text = on.lines;
  reply = (
    on.lines,
    None,
    subst (λ (all : List ℕ). Traces count s t all None) (append-nil on.lines)
        (on.goes_on t [] None (subst (λ k. Traces k t t [] None) (sym none) (refl, refl, refl))),
    refl,
  );
  written = on.written;
}

pub traces_refused : (count left : ℕ) (values : List ℕ) (s t : BenchState)
    (old before now : Option (List ℕ)) (line : List ℕ) (why : CalculatorRefusal)
    → TracesOn count (suc left) s t old before → IsTraceLine t line → Appends before now line → RefusesStep t.calculator (Some why)
    → SaysText (Ok (commands.Trace count, values)) s t old now (Some (Calculator why))
traces_refused count left values s t old before now line why on tells written refused = record {
  text = on.lines ++ line;
  reply = (
    on.lines ++ line,
    Some why,
    on.goes_on t line (Some why)
        (tells.0, tells.1, [], tells.2 ∙ sym (append-nil (traced_line tells.0)), Some why, refused, (refl, refl, refl)),
    refl,
  );
  written = Appends-trans old before now on.lines line on.written written;
}

-- A line that is not written completely: the steps that remain are made all the same.
pub traces_in_part : StepsAreTraced
    → (count left : ℕ) (values : List ℕ) (s mid t : BenchState)
    (old before now : Option (List ℕ)) (line : List ℕ) (refusal : Option CalculatorRefusal)
    → TracesOn count (suc left) s mid old before → IsTraceLine mid line → AppendsPart before now line → Steps (suc left) mid t refusal
    → RepliesInPart (Ok (commands.Trace count, values)) s t old now
traces_in_part traced count left values s mid t old before now line refusal on tells part steps =
    let more = traced left mid t tells.0 refusal tells.1 steps in
    let all = on.goes_on t (traced_line tells.0 ++ more.0) refusal more.1 in
    let answer : Answer = says_and_ends (on.lines ++ (traced_line tells.0 ++ more.0)) (option_map Calculator refusal) in
    let text : printed_text answer ≡ (on.lines ++ line) ++ (more.0 ++ ending_line answer.refusal) =
    ap (λ (of : List ℕ). (on.lines ++ (of ++ more.0)) ++ ending_line answer.refusal) (sym tells.2) ∙ simp append_assoc in record {
      text = printed_text answer;
      printed_until = (answer, (on.lines ++ (traced_line tells.0 ++ more.0), refusal, all, refl), refl);
      written = subst (AppendsPart old now) (sym text)
          (part_longer old now (on.lines ++ line) (more.0 ++ ending_line answer.refusal)
          (later_part old before now on.lines line on.written part));
    }
