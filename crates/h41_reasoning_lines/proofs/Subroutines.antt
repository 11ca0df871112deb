-- A call of a subroutine, and the subroutine's own theorem, as one run of the program that calls it.
use Rattle.std.proofs.Common.{◌≡◌, ℕ, ◌+◌, ◌-◌, ◌≤◌, List, [], ◌∷◌, ◌++◌, Ok, length, drop, refl, ap, ◌∙◌, subst, arith}
use Rattle.std.specs.Prelude.{reverse}
use Rattle.std.proofs.lemmas.List.{reverse-append, reverse-reverse}
use Rattle.h41_focal.specs.Destinations.{with_return}
use Rattle.h41_focal.specs.LineStep.{Left, StepsLine, left_done}
use Rattle.h41_focal.specs.Outcomes.{Answer, Done}
use Rattle.h41_pages.specs.PageMap.{PageMap}
use Rattle.h41_positions.specs.FocalState.{Machine}
use Rattle.h41_positions.specs.declared.position.Position.{Position}
use Rattle.h41_reasoning_lines.specs.LineRuns.{Continues, ReturnsTo, Runs}
use Rattle.h41_reasoning_lines.specs.Subroutines.{CallReturns}
use Rattle.h41_reasoning_lines.proofs.Rounds.{joined}

-- With at most five return addresses, XEQ drops none.
newest_first : (returns : List Position) (next : Position) → length returns ≤ 5
    → reverse (with_return returns next) ≡ next ∷ reverse returns
newest_first returns next few =
    let none : length returns - 5 ≡ 0 = omega (arith, few) in
    ap (λ (dropped : ℕ). reverse (drop dropped returns ++ next ∷ [])) none ∙ reverse-append returns (next ∷ [])

-- A run, and one more line.
one_line_more : (pages : PageMap) (count : ℕ) (s t u : Machine) → Runs pages count s t → Continues pages t u → Runs pages (count + 1) s u
one_line_more pages count s t u run step = joined pages count 1 s t u run (u, step, refl)

done_is : (left : Left) → left.answer ≡ Done → left ≡ left_done left.machine
done_is left done =
    ap (λ (answer : Answer). let with : Left = record { machine = left.machine; answer = answer } in with) done

pub call_returns : CallReturns
call_returns pages most s t next Property call called few back leaves =
    let returned : ReturnsTo (next ∷ reverse s.focal.returns) leaves.left =
    subst (λ (newest : List Position). ReturnsTo newest leaves.left)
    (ap reverse called ∙ newest_first s.focal.returns next few) (back leaves.left leaves.property) in
    let done : leaves.left ≡ left_done leaves.left.machine = done_is leaves.left returned.0 in
    let last : Continues pages leaves.before leaves.left.machine =
    subst (λ (left : Left). StepsLine pages leaves.before (Ok left)) done leaves.last in
    record {
      count = 1 + (leaves.count + 1);
      bound = omega (arith, leaves.bound);
      end = leaves.left.machine;
      run =
          joined pages 1 (leaves.count + 1) s t leaves.left.machine (t, call, refl)
          (one_line_more pages leaves.count t leaves.before leaves.left.machine leaves.run last);
      property = record {
        property = subst Property done leaves.property;
        position = returned.1;
        no_line_00 = returned.2;
        returns = returned.3 ∙ reverse-reverse s.focal.returns;
      };
    }
