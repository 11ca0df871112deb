-- Why lines that go on to the next line leave the same if the calculator steps them as if they are typed.
use Rattle.std.proofs.Common.{◌≡◌, true, false, List, [], ◌∷◌, All, Result, Ok, Err, refl, ap, subst, ◌∙◌}
use Rattle.std.proofs.lemmas.List.Elements.{All-head, All-tail}
use Rattle.h41_codes.specs.declared.line.Line.{Line}
use Rattle.h41_focal.specs.LineLaws.{AreAlike, GoesToNext, IsAt, NextIsHere, StepsInTurn}
use Rattle.h41_focal.specs.LineLaws as lines
use Rattle.h41_focal.specs.Destinations.{Manner, Stepped}
use Rattle.h41_focal.specs.LineStep.{Left, Stands, StepsLine}
use Rattle.h41_focal.specs.OutsideCalls.{CarriesStanding, GoesOn, GoesOnFrom}
use Rattle.h41_positions.specs.FocalState.{Machine}
use Rattle.h41_focal.specs.Outcomes.{Answer, calls_outside}
use Rattle.h41_focal.specs.Outcomes as answers
use Rattle.h41_focal.specs.declared.refusal.FocalRefusal.{FocalRefusal}
use Rattle.h41_pages.specs.PageMap.{PageMap}
use Rattle.h41_positions.specs.declared.position.Position.{Position}
use Rattle.h41_xrom.specs.Calculator.{CalculatorState, Step, StepIn, StepsByLine, after_answer, after_line, machine_of, mode_after}
use Rattle.h41_xrom.specs.Calculator.{not_typing, with_machine, with_shown}
use Rattle.h41_xrom.specs.CalculatorLaws.{StepsLines, TypedAsStepped, takes_lines}
use Rattle.h41_xrom.specs.declared.calculator.Mode.{Mode}
use Rattle.h41_xrom.specs.declared.calculator.Mode.TheVariants as modes

no_end : (left : Left) (refusal : FocalRefusal) → ◌≡◌ {A = Result Left FocalRefusal} (Ok left) (Err refusal) → ⊥
no_end left refusal is = cc

same_end : (left other : Left) → ◌≡◌ {A = Result Left FocalRefusal} (Ok left) (Ok other) → left ≡ other
same_end left other is = cc

-- A line that calls nothing outside memory is done.
done_here : (pages : PageMap) (how : Manner) (machine : Machine) (left : Left) (answer : Answer) (after : Left)
    → calls_outside answer ≡ false → GoesOn pages how machine left answer (Ok after) → after ≡ left
done_here pages how machine left (answers.Calls number entry) after none goes = cc
done_here pages how machine left (answers.Seeks name) after none goes = cc
done_here pages how machine left answer after none goes = same_end after left goes

-- Its answer is shown.
shown_here : (answer : Answer) (s : CalculatorState) → calls_outside answer ≡ false
    → after_answer answer s ≡ record (with_shown answer s) { mode = mode_after answer s.mode }
shown_here (answers.Begins address) s none = cc
shown_here answer s none = refl

-- Its answer never makes a function run.
still_lines : (answer : Answer) (mode : Mode) → takes_lines mode ≡ true → takes_lines (mode_after answer mode) ≡ true
still_lines answers.Stopped mode takes = refl
still_lines answers.TurnedOff mode takes = refl
still_lines (answers.Prompted text) mode takes = refl
still_lines answers.Runs mode takes = refl
still_lines (answers.Failed fault) mode takes = refl
still_lines answer mode takes = takes

-- A step of the calculator leaves what its line leaves.
record LineStepped (s next : CalculatorState) : Type 0 where
  left : Left
  stepped : StepsLine s.nut.pages (machine_of s) (Ok left)
  same : machine_of next ≡ left.machine
  pages : next.nut.pages ≡ s.nut.pages
  takes : takes_lines next.mode ≡ true

by_line : (mode : Mode) (s next : CalculatorState) → takes_lines mode ≡ true → StepIn mode s next → StepsByLine s next
by_line modes.Idle s next takes step = step
by_line modes.Run s next takes step = step
by_line (modes.Micro caller) s next takes step = cc

module _ (here : NextIsHere) where
  from_own : (line : Line) (how : Manner) (s next : CalculatorState) (own : Result Left FocalRefusal) (left : Left) → GoesToNext line
      → IsAt s.nut.pages line (machine_of s) → takes_lines s.mode ≡ true → StepsLine s.nut.pages (machine_of s) own
      → GoesOnFrom s.nut.pages how (machine_of s) own (Ok left) → next ≡ after_line (not_typing s) left → LineStepped s next
  from_own line how s next (Err refusal) left goes_on stands takes stepped goes is = absurd (no_end left refusal goes)
  from_own line how s next (Ok own) left goes_on stands takes stepped goes is =
      let none = here s.nut.pages line (machine_of s) own goes_on stands stepped in
      let done : left ≡ own = done_here s.nut.pages how (machine_of s) own own.answer left none goes in
      let at_own = with_machine own.machine (not_typing s) in
      let after : next ≡ record (with_shown own.answer at_own) { mode = mode_after own.answer s.mode } =
      is ∙ ap (λ (left : Left). after_line (not_typing s) left) done ∙ shown_here own.answer at_own none in
      record {
        left = own;
        stepped = stepped;
        same = ap (λ (at : CalculatorState). machine_of at) after;
        pages = ap (λ (at : CalculatorState). at.nut.pages) after;
        takes = ap (λ (at : CalculatorState). takes_lines at.mode) after ∙ still_lines own.answer s.mode takes;
      }

  from_standing : (line : Line) (s next : CalculatorState) (standing : Result (Line × Position) FocalRefusal) (left : Left)
      → GoesToNext line → IsAt s.nut.pages line (machine_of s) → takes_lines s.mode ≡ true → Stands s.nut.pages (machine_of s) standing
      → CarriesStanding s.nut.pages (machine_of s) standing (Ok left) → next ≡ after_line (not_typing s) left → LineStepped s next
  from_standing line s next (Err refusal) left goes_on stands takes at carries is = absurd (no_end left refusal carries)
  from_standing line s next (Ok standing) left goes_on stands takes at (own, taken, goes) is =
      from_own line (Stepped standing.1) s next own left goes_on stands takes (Ok standing, at, taken) goes is

  one_line : (line : Line) (s next : CalculatorState) → GoesToNext line → IsAt s.nut.pages line (machine_of s)
      → takes_lines s.mode ≡ true → Step s next → LineStepped s next
  one_line line s next goes_on stands takes step =
      let (left, (standing, at, carries), is) = by_line s.mode s next takes step in
      from_standing line s next standing left goes_on stands takes at carries is

  in_turn : (lines : List Line) (s t : CalculatorState) → takes_lines s.mode ≡ true → All GoesToNext lines → StepsLines lines s t
      → StepsInTurn s.nut.pages lines (machine_of s) (machine_of t)
  in_turn [] s t takes go_on is = ap (λ (at : CalculatorState). machine_of at) is
  in_turn (line ∷ lines) s t takes go_on (stands, next, step, others) =
      let one = one_line line s next (All-head GoesToNext line lines go_on) stands takes step in
      let rest = in_turn lines next t one.takes (All-tail GoesToNext line lines go_on) others in
      let here = subst (λ (pages : PageMap). StepsInTurn pages lines (machine_of next) (machine_of t)) one.pages rest in
      (stands, one.left, one.stepped, subst (λ (from : Machine). StepsInTurn s.nut.pages lines from (machine_of t)) one.same here)

  pub typed_lines : lines.TypedAsStepped → TypedAsStepped
  typed_lines alike lines s t other typed takes go_on same steps types =
      alike s.nut.pages lines (machine_of s) other (machine_of t) typed go_on same (in_turn lines s t takes go_on steps) types
