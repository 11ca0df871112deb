-- Lines that continue at the next one have the same effect whether they are stepped or typed.
use Rattle.std.proofs.Common.{◌≡◌, ℕ, Bool, true, false, List, [], ◌∷◌, All, Option, Result, Ok, Err, refl, sym, ap, ◌∙◌, subst}
use Rattle.std.proofs.lemmas.List.Elements.{All-head, All-tail}
use Rattle.std.specs.Prelude.{IfOk, MatchBool, if◌then◌else◌}
use Rattle.h41_codes.specs.declared.line.Line.{Line}
use Rattle.h41_codes.specs.declared.line.Line.TheVariants.{Module}
use Rattle.h41_focal.proofs.OutsideCalls.{fails_here, own_answer}
use Rattle.h41_focal.proofs.OneOutcome.{same_line, typed_determined}
use Rattle.h41_focal.specs.Destinations.{Arrives, Destination, Stays, StepsFrom, Stepped, Typed, TypedFrom}
use Rattle.h41_focal.specs.LineLaws.{AreAlike, GoesToNext, IsAt, NextIsHere, StepsInTurn, SteppedCanBeTyped, TypedAsStepped}
use Rattle.h41_focal.specs.LineLaws.{TypedIsDetermined, TypesInTurn}
use Rattle.h41_focal.specs.LineStep.{Applies, AppliesTo, AppliesWith, CarriesOut, Ends, EndsInError, Left, Stands, StepsAs, StepsLine}
use Rattle.h41_focal.specs.LineStep.{TakesLine, TypesLine, answer_of_showing, with_fault_caught, left_done, error_flag, left_by_fault}
use Rattle.h41_focal.specs.LineStep.{left_failed, named_by, with_row}
use Rattle.h41_positions.specs.FocalState.{FocalState, Machine, at_line}
use Rattle.h41_focal.specs.Outcomes.{calls_outside}
use Rattle.h41_focal.specs.declared.refusal.FocalRefusal.{FocalRefusal}
use Rattle.h41_focal.specs.declared.refusal.FocalRefusal.TheVariants.{NotInProfile}
use Rattle.h41_pages.specs.PageMap.{PageMap}
use Rattle.h41_positions.specs.PositionLaws.{HasOneAnswer, HasOneAnswerEach, IsReadOnce}
use Rattle.h41_positions.specs.Positions.{LocalFrom, StartOf}
use Rattle.h41_program.specs.SearchLaws.{AnswersAreDetermined}
use Rattle.h41_positions.specs.declared.position.Position.{Position}
use Rattle.h41_ram.specs.RegisterMap.{flag_of}
use Rattle.h41_rows.specs.LineRows.{row_of}
use Rattle.h41_rows.specs.Operands.{Meant, meant_of}
use Rattle.h41_rows.specs.Profile.{is_left_out}
use Rattle.h41_rows.specs.RowLaws.{ValuesAreDetermined}
use Rattle.h41_rows.specs.Rows as rows
use Rattle.h41_rows.specs.declared.fault.LineFault.{LineFault}

-- The memory and stack lift of one machine, with the other state of another.
abbrev beside : Machine → FocalState → Machine
beside machine focal = record { memory = machine.memory; focal = record focal { lift = machine.focal.lift } }

same_beside : (machine other : Machine) → AreAlike machine other → beside machine other.focal ≡ other
same_beside machine other alike =
    ap (λ memory. let made : Machine = record { memory = memory; focal = record other.focal { lift = machine.focal.lift } } in made) alike.0
    ∙ ap (λ lift. let made : Machine = record { memory = other.memory; focal = record other.focal { lift = lift } } in made) alike.1

same_left : (left other : Left) → ◌≡◌ {A = Result Left FocalRefusal} (Ok left) (Ok other) → left ≡ other
same_left left other is = cc

no_refusal : (left : Left) (refusal : FocalRefusal) → ◌≡◌ {A = Result Left FocalRefusal} (Ok left) (Err refusal) → ⊥
no_refusal left refusal is = cc

-- Equal machines are alike.
as_same : (left other : Left) → left ≡ other → (machine : Machine) → AreAlike other.machine machine → AreAlike left.machine machine
as_same left other is machine alike = subst (λ (of : Left). AreAlike of.machine machine) (sym is) alike

-- A line leaves a machine like this one, and calls nothing outside memory.
abbrev LeavesLike : (Result Left FocalRefusal → Type 0) → Left → Type 0
LeavesLike carries left = (typed : Left) × carries (Ok typed) × AreAlike left.machine typed.machine × (calls_outside left.answer ≡ false)

here : (left other : Left) → left ≡ other → calls_outside other.answer ≡ false → calls_outside left.answer ≡ false
here left other is found = subst (λ (of : Left). calls_outside of.answer ≡ false) (sym is) found

-- An error.
caught_alike : (flag_25 : Bool) (next : Position) (machine : Machine) (focal : FocalState) (fault : LineFault)
    → AreAlike
    (if flag_25 then left_done (at_line next (with_fault_caught machine))
    else left_failed (at_line machine.focal.position machine) fault).machine
    (if flag_25 then left_done (with_fault_caught (beside machine focal)) else left_failed (beside machine focal) fault).machine
caught_alike true next machine focal fault = (refl, refl)
caught_alike false next machine focal fault = (refl, refl)

failure_alike : (next : Position) (machine : Machine) (focal : FocalState) (fault : LineFault) (left : Left)
    → EndsInError (Stepped next) machine fault (Ok left) → LeavesLike (EndsInError Typed (beside machine focal) fault) left
failure_alike next machine focal fault left failing =
    let typed = left_by_fault Typed (beside machine focal) fault in
    let own = left_by_fault (Stepped next) machine fault in (
      typed,
      refl,
      as_same left own (same_left left own failing) typed.machine
          (caught_alike (flag_of machine.memory error_flag) next machine focal fault),
      fails_here (Stepped next) machine fault left failing,
    )

-- A row that continues at the next line.
with_alike : (pages : PageMap) (next : Position) (row : rows.LineRow) (named : ℕ) (machine : Machine) (focal : FocalState)
    (result : Result (List ℕ) LineFault) (left : Left)
    → row.goes ≡ rows.Next → AppliesWith pages (Stepped next) row named machine result (Ok left)
    → LeavesLike (AppliesWith pages Typed row named (beside machine focal) result) left
with_alike pages next row named machine focal (Err fault) left goes_on applies = failure_alike next machine focal fault left applies
with_alike pages next row named machine focal (Ok result) left goes_on (to, goes, ends) =
    let new = with_row row named result machine in
    let other = beside machine focal in
    let answer = answer_of_showing machine.memory named row.shows row.ends in
    let arrives : to ≡ Arrives next machine.focal.returns =
    subst (λ (going : rows.Going). StepsFrom pages going machine.memory named machine.focal.position next machine.focal.returns to)
    goes_on goes in
    let is = subst (λ (to : Destination). Ends (Stepped next) machine new answer to (Ok left)) arrives ends in
    let stays =
    subst (λ (going : rows.Going). TypedFrom pages going other.memory named other.focal.position other.focal.returns Stays) (sym goes_on)
    refl in
    let typed : Left = record { machine = with_row row named result other; answer = answer } in
    let same = same_left left _ is in (
      typed,
      (Stays, stays, refl),
      as_same left _ same typed.machine (refl, refl),
      here left _ same (own_answer machine.memory named row.shows row.ends),
    )

row_alike : (pages : PageMap) (next : Position) (row : rows.LineRow) (named : ℕ) (machine : Machine) (focal : FocalState) (left : Left)
    → row.goes ≡ rows.Next
    → Applies pages (Stepped next) row named machine (Ok left) → LeavesLike (Applies pages Typed row named (beside machine focal)) left
row_alike pages next row named machine focal left goes_on (result, works, applies) =
    let found = with_alike pages next row named machine focal result left goes_on applies in
    (found.0, (result, works, found.1), found.2, found.3)

-- A line that continues at the next one.
meant_alike : (pages : PageMap) (next : Position) (line : Line) (machine : Machine) (focal : FocalState) (meant : Result Meant LineFault)
    (left : Left)
    → IfOk meant (λ meant. (row_of line meant).goes ≡ rows.Next) → AppliesTo pages (Stepped next) line machine meant (Ok left)
    → LeavesLike (AppliesTo pages Typed line (beside machine focal) meant) left
meant_alike pages next line machine focal (Err fault) left goes_on applies = failure_alike next machine focal fault left applies
meant_alike pages next line machine focal (Ok meant) left goes_on applies =
    row_alike pages next (row_of line meant) (named_by meant) machine focal left goes_on applies

carried_alike : (pages : PageMap) (next : Position) (line : Line) (machine : Machine) (focal : FocalState) (left : Left)
    → GoesToNext line → CarriesOut pages (Stepped next) line machine (Ok left)
    → LeavesLike (CarriesOut pages Typed line (beside machine focal)) left
carried_alike pages next (Module number entry) machine focal left goes_on carries = absurd goes_on
carried_alike pages next line machine focal left goes_on carries =
    meant_alike pages next line machine focal (meant_of machine.memory line) left (goes_on machine.memory) carries

profile_alike : (pages : PageMap) (left_out : Bool) (next : Position) (line : Line) (machine : Machine) (focal : FocalState) (left : Left)
    → GoesToNext line
    → MatchBool left_out (◌≡◌ {A = Result Left FocalRefusal} (Ok left) (Err NotInProfile))
    (CarriesOut pages (Stepped next) line machine (Ok left))
    → LeavesLike (λ carried. MatchBool left_out (carried ≡ Err NotInProfile) (CarriesOut pages Typed line (beside machine focal) carried))
    left
profile_alike pages true next line machine focal left goes_on is = absurd (no_refusal left NotInProfile is)
profile_alike pages false next line machine focal left goes_on carries = carried_alike pages next line machine focal left goes_on carries

taken_alike : (pages : PageMap) (next : Position) (line : Line) (machine : Machine) (focal : FocalState) (left : Left)
    → GoesToNext line → TakesLine pages (Stepped next) line machine (Ok left)
    → LeavesLike (TakesLine pages Typed line (beside machine focal)) left
taken_alike pages next line machine focal left goes_on takes =
    profile_alike pages (is_left_out line) next line machine focal left goes_on takes

-- The line at the position, given that bytes have only one first line.
module _ (once : IsReadOnce) where
  stands_alike : (pages : PageMap) (standing : Result (Line × Position) FocalRefusal) (line : Line) (machine : Machine) (focal : FocalState)
      (left : Left)
      → GoesToNext line → IsAt pages line machine → Stands pages machine standing → StepsAs pages machine standing (Ok left)
      → LeavesLike (TypesLine pages line (beside machine focal)) left
  stands_alike pages (Ok (own, next)) line machine focal left goes_on stands (sound, stands_so, behind) takes =
      let same = same_line once pages machine.memory machine.focal.position own line stands_so stands in
      let found =
      taken_alike pages next line machine focal left goes_on
      (subst (λ (line : Line). TakesLine pages (Stepped next) line machine (Ok left)) same takes)
      in
      (found.0, rw sound found.1, found.2, found.3)
  stands_alike pages (Err refusal) line machine focal left goes_on stands refused is = absurd (no_refusal left refusal is)

  line_alike : (pages : PageMap) (line : Line) (machine other : Machine) (left : Left) → GoesToNext line → AreAlike machine other
      → IsAt pages line machine
      → StepsLine pages machine (Ok left) → LeavesLike (TypesLine pages line other) left
  line_alike pages line machine other left goes_on alike stands steps =
      subst (λ (other : Machine). LeavesLike (TypesLine pages line other) left) (same_beside machine other alike)
      (stands_alike pages steps.0 line machine other.focal left goes_on stands steps.1 steps.2)

  pub next_is_here : NextIsHere
  next_is_here pages line machine left goes_on stands steps =
      let found : LeavesLike (TypesLine pages line machine) left =
      line_alike pages line machine machine left goes_on (refl, refl) stands steps in
      found.3

  -- Lines one after another.
  turn_alike : (pages : PageMap) (lines : List Line) (machine other left : Machine) → All GoesToNext lines → AreAlike machine other
      → StepsInTurn pages lines machine left → (typed : Machine) × TypesInTurn pages lines other typed × AreAlike left typed
  turn_alike pages [] machine other left go_on alike is = (other, refl, subst (λ (left : Machine). AreAlike left other) (sym is) alike)
  turn_alike pages (line ∷ lines) machine other left go_on alike (stands, after, steps, others) =
      let one = line_alike pages line machine other after (All-head GoesToNext line lines go_on) alike stands steps in
      let rest = turn_alike pages lines after.machine one.0.machine left (All-tail GoesToNext line lines go_on) one.2 others in
      (rest.0, (one.0, one.1, rest.1), rest.2)

  pub can_be_typed : SteppedCanBeTyped
  can_be_typed pages lines machine other left go_on alike steps =
      let found = turn_alike pages lines machine other left go_on alike steps in
      (found.0, found.1)

-- Lines that are typed one after another have one outcome.
same_turn : TypedIsDetermined → (pages : PageMap) (lines : List Line) (machine left other : Machine)
    → TypesInTurn pages lines machine left → TypesInTurn pages lines machine other → left ≡ other
same_turn determined pages [] machine left other p q = p ∙ sym q
same_turn determined pages (line ∷ lines) machine left other p q =
    let same = same_left p.0 q.0 (determined pages line machine (Ok p.0) (Ok q.0) p.1 q.1) in
    same_turn determined pages lines q.0.machine left other (subst (λ (after : Left). TypesInTurn pages lines after.machine left) same p.2)
    q.2

-- Typed lines therefore leave a machine like the one after the stepped lines.
module _
    (same_value : ValuesAreDetermined)
    (once : IsReadOnce)
    (same_start : HasOneAnswer StartOf)
    (same_local : HasOneAnswerEach LocalFrom)
    (same_global : AnswersAreDetermined (Option ℕ)) where
  pub typed_alike : TypedAsStepped
  typed_alike pages lines machine other left typed go_on alike steps types =
      let found = turn_alike once pages lines machine other left go_on alike steps in
      let same =
      same_turn (typed_determined same_value once same_start same_local same_global) pages lines other found.0 typed found.1 types in
      subst (λ (typed : Machine). AreAlike left typed) same found.2
