-- The row of a test is applied, by what it computes, by memory after it, by the truth of its condition, and by the position.
use Rattle.std.proofs.Common.{◌≡◌, ℕ, Bool, true, false, ◌&&◌, is_some, MatchBool, List, Ok, Err, Result, refl, ap, sym, subst, ◌∙◌, inl}
use Rattle.std.proofs.Common.{inr}
use Rattle.h41_decimal.specs.Holding.{number_in}
use Rattle.h41_focal.proofs.RowApplied.{applied_to}
use Rattle.h41_focal.specs.private.Carrying.{CarriesRow, Leads, manner_of, test_answer}
use Rattle.h41_rows.specs.Computing.{WorksOn}
use Rattle.h41_rows.specs.Computing as computing
use Rattle.h41_rows.specs.Counters.{Way, Up, Down}
use Rattle.h41_focal.specs.Destinations as destinations
use Rattle.h41_focal.specs.Destinations.{Destination, Arrives, Asks, HasNoLine, Stays, StepsFrom, Tells}
use Rattle.h41_rows.specs.LineRows.{loop}
use Rattle.h41_focal.specs.LineStep.{Applies, Works}
use Rattle.h41_positions.specs.FocalState.{Machine}
use Rattle.h41_rows.specs.Places.{Named, are_numbers, register_in}
use Rattle.h41_rows.specs.RowEffects.{holds_in}
use Rattle.h41_rows.specs.Rows.{Condition, LineRow}
use Rattle.h41_rows.specs.Rows as rows
use Rattle.h41_rows.specs.Values.{Computes, OfOne, counted}
use Rattle.h41_rows.specs.declared.fault.LineFault.{LineFault}
use Rattle.h41_rows.specs.declared.fault.LineFault.TheVariants.{AlphaData}
use Rattle.h41_focal.specs.declared.origin.Origin.{Origin}
use Rattle.h41_focal.specs.declared.origin.Origin.TheVariants.{Program, Typed}
use Rattle.h41_focal.specs.declared.outcome.LineOutcome.{LineOutcome}
use Rattle.h41_focal.specs.declared.outcome.LineOutcome.TheVariants as outcomes
use Rattle.h41_focal.specs.declared.refusal.FocalRefusal.{FocalRefusal}
use Rattle.h41_pages.specs.PageMap.{PageMap}
use Rattle.h41_positions.specs.Positions.{NextAt}
use Rattle.h41_positions.specs.declared.position.Position.{Position}
use Rattle.h41_program.specs.declared.refusal.ProgramRefusal.TheVariants as program
use Rattle.h41_ram.specs.RegisterMap.{RegisterMap, zeros}

-- The place at which execution continues after a test.
arrives :
    (pages : PageMap) (holds : Bool) (memory : RegisterMap) (next position : Position) (returns : List Position)
    → MatchBool holds (position ≡ next) (NextAt pages memory next (Ok position))
    → Asks pages holds memory next returns (Arrives position returns)
arrives pages true memory next position returns same = ap (λ (p : Position). Arrives p returns) same
arrives pages false memory next position returns behind = inl (position, behind, refl)

has_no_line :
    (pages : PageMap) (holds : Bool) (memory : RegisterMap) (next : Position) (returns : List Position)
    → holds ≡ false
    → NextAt pages memory next (Err program.BrokenProgram)
    → Asks pages holds memory next returns HasNoLine
has_no_line pages holds memory next returns fails broken = rw fails (inr (broken, refl))

-- A program continues after a line whose row has a condition.
program_leads : (pages : PageMap) (next : Position) (lead : Origin) (row : LineRow) (condition : Condition) (holds : Bool)
    (named : ℕ) (machine : Machine) (register : List ℕ) (outcome : LineOutcome)
    → ((to : Destination) → Asks pages (holds_in machine.memory named condition) machine.memory next machine.focal.returns to
    → StepsFrom pages row.goes machine.memory named machine.focal.position next machine.focal.returns to)
    → row.shows ≡ rows.AsBefore → row.ends ≡ rows.GoesOn → Works machine.memory named row (Ok register)
    → holds ≡ holds_in machine.memory named condition → Leads pages (Program next) machine.memory holds (Ok lead)
    → outcome ≡ outcomes.Done
    → CarriesRow pages (Program next) row named machine (applied_to lead row named register machine) (Ok outcome)
program_leads pages next (Program position) row condition holds named machine register outcome goes shows ends works is leads answers =
    let asks : Asks pages (holds_in machine.memory named condition) machine.memory
    next machine.focal.returns (Arrives leads.0 machine.focal.returns) =
    subst (λ (b : Bool). Asks pages b machine.memory next machine.focal.returns (Arrives leads.0 machine.focal.returns))
    is (arrives pages holds machine.memory next leads.0 machine.focal.returns leads.2) in
    let same : position ≡ leads.0 = cc leads.1 in
    (Ok register, works, (Arrives leads.0 machine.focal.returns, goes _ asks, rw (answers, shows, ends, same) refl))
program_leads pages next Typed row condition holds named machine register outcome goes shows ends works is leads answers =
    absurd (cc leads.1)

-- A test is executed.
pub test_leads : (pages : PageMap) (origin lead : Origin) (row : LineRow) (condition : Condition) (holds : Bool)
    (named : ℕ) (machine : Machine) (register : List ℕ) (outcome : LineOutcome)
    → row.goes ≡ rows.Tests condition → row.shows ≡ rows.AsBefore → row.ends ≡ rows.GoesOn
    → Works machine.memory named row (Ok register) → holds ≡ holds_in machine.memory named condition
    → Leads pages origin machine.memory holds (Ok lead) → outcome ≡ test_answer origin holds
    → CarriesRow pages origin row named machine (applied_to lead row named register machine) (Ok outcome)
test_leads pages (Program next) lead row condition holds named machine register outcome goes shows ends works is leads answers =
    program_leads pages next lead row condition holds named machine register outcome
    (λ to asks. rw goes asks) shows ends works is leads answers
test_leads pages Typed (Program position) row condition holds named machine register outcome goes shows ends works is leads answers =
    absurd (cc leads)
test_leads pages Typed Typed row condition holds named machine register outcome goes shows ends works is leads answers =
    (Ok register, works, (Tells holds, rw goes (ap (λ (b : Bool). Tells b) is), rw answers refl))

-- A loop is counted.
pub loop_leads : (pages : PageMap) (origin lead : Origin) (row : LineRow) (condition : Condition) (holds : Bool)
    (named : ℕ) (machine : Machine) (register : List ℕ) (outcome : LineOutcome)
    → row.goes ≡ rows.Counts condition → row.shows ≡ rows.AsBefore → row.ends ≡ rows.GoesOn
    → Works machine.memory named row (Ok register) → holds ≡ holds_in machine.memory named condition
    → Leads pages origin machine.memory holds (Ok lead) → outcome ≡ outcomes.Done
    → CarriesRow pages origin row named machine (applied_to lead row named register machine) (Ok outcome)
loop_leads pages (Program next) lead row condition holds named machine register outcome goes shows ends works is leads answers =
    program_leads pages next lead row condition holds named machine register outcome
    (λ to asks. rw goes asks) shows ends works is leads answers
loop_leads pages Typed (Program position) row condition holds named machine register outcome goes shows ends works is leads answers =
    absurd (cc leads)
loop_leads pages Typed Typed row condition holds named machine register outcome goes shows ends works is leads answers =
    (Ok register, works, (Stays, rw goes refl, rw (answers, shows, ends) refl))

-- The line to be skipped cannot be read.
program_refused : (pages : PageMap) (next : Position) (row : LineRow) (condition : Condition) (holds : Bool)
    (named : ℕ) (old : Machine) (register : List ℕ) (refusal : FocalRefusal)
    → ((to : Destination) → Asks pages (holds_in old.memory named condition) old.memory next old.focal.returns to
    → StepsFrom pages row.goes old.memory named old.focal.position next old.focal.returns to)
    → Works old.memory named row (Ok register) → holds ≡ holds_in old.memory named condition
    → Leads pages (Program next) old.memory holds (Err refusal) → Applies pages (destinations.Stepped next) row named old (Err refusal)
program_refused pages next row condition holds named old register refusal goes works is leads =
    let asks = has_no_line pages (holds_in old.memory named condition) old.memory next old.focal.returns (sym is ∙ leads.1) leads.2 in
    (Ok register, works, (HasNoLine, goes _ asks, rw leads.0 refl))

-- A test is refused.
pub test_refused : (pages : PageMap) (origin : Origin) (row : LineRow) (condition : Condition) (holds : Bool)
    (named : ℕ) (old : Machine) (register : List ℕ) (refusal : FocalRefusal)
    → row.goes ≡ rows.Tests condition → Works old.memory named row (Ok register)
    → holds ≡ holds_in old.memory named condition → Leads pages origin old.memory holds (Err refusal)
    → Applies pages (manner_of origin) row named old (Err refusal)
test_refused pages (Program next) row condition holds named old register refusal goes works is leads =
    program_refused pages next row condition holds named old register refusal (λ to asks. rw goes asks) works is leads
test_refused pages Typed row condition holds named old register refusal goes works is leads = absurd (cc leads)

-- A loop is refused.
pub loop_refused : (pages : PageMap) (origin : Origin) (row : LineRow) (condition : Condition) (holds : Bool)
    (named : ℕ) (old : Machine) (register : List ℕ) (refusal : FocalRefusal)
    → row.goes ≡ rows.Counts condition → Works old.memory named row (Ok register)
    → holds ≡ holds_in old.memory named condition → Leads pages origin old.memory holds (Err refusal)
    → Applies pages (manner_of origin) row named old (Err refusal)
loop_refused pages (Program next) row condition holds named old register refusal goes works is leads =
    program_refused pages next row condition holds named old register refusal (λ to asks. rw goes asks) works is leads
loop_refused pages Typed row condition holds named old register refusal goes works is leads = absurd (cc leads)

-- A test computes nothing, and its condition has a result if its places contain numbers.
asked : (numbers holds other : Bool)
    → MatchBool numbers (◌≡◌ {A = Result Bool LineFault} (Ok holds) (Ok other)) (◌≡◌ {A = Result Bool LineFault} (Ok holds) (Err AlphaData))
    → MatchBool numbers (◌≡◌ {A = Result (List ℕ) LineFault} (Ok zeros) (Ok zeros))
    (◌≡◌ {A = Result (List ℕ) LineFault} (Ok zeros) (Err AlphaData))
    × (holds ≡ other)
asked true holds other test_answer = (refl, cc test_answer)
asked false holds other test_answer = absurd (cc test_answer)

faulted : (numbers other : Bool) (fault : LineFault)
    → MatchBool numbers (◌≡◌ {A = Result Bool LineFault} (Err fault) (Ok other))
    (◌≡◌ {A = Result Bool LineFault} (Err fault) (Err AlphaData))
    → MatchBool numbers (◌≡◌ {A = Result (List ℕ) LineFault} (Err fault) (Ok zeros))
    (◌≡◌ {A = Result (List ℕ) LineFault} (Err fault) (Err AlphaData))
faulted true other fault test_answer = absurd (cc test_answer)
faulted false other fault test_answer = cc test_answer

pub test_asked :
    (memory : RegisterMap) (named : ℕ) (condition : Condition) (result : Result Bool LineFault) (holds : Bool)
    → computing.Tells memory condition result
    → result ≡ Ok holds
    → Works memory named (rows.test condition) (Ok zeros) × (holds ≡ holds_in memory named condition)
test_asked memory named condition result holds tells is =
    asked (are_numbers memory named (rows.places_in_condition condition)) holds
    (holds_in memory named condition) (let test_answer = tells named in rw is at test_answer)

pub test_faulted :
    (memory : RegisterMap) (named : ℕ) (condition : Condition) (result : Result Bool LineFault) (fault : LineFault)
    → computing.Tells memory condition result
    → result ≡ Err fault
    → Works memory named (rows.test condition) (Err fault)
test_faulted memory named condition result fault tells is =
    faulted (are_numbers memory named (rows.places_in_condition condition))
    (holds_in memory named condition) fault (let test_answer = tells named in rw is at test_answer)

-- The counter of a loop has to be a number twice, for the value and for the condition.
twice : (number : Bool) (A B : Type 0) → MatchBool (number && true) A B → MatchBool (number && (number && true)) A B
twice true A B works = works
twice false A B works = works

pub loop_works :
    (way : Way) (memory : RegisterMap) (address : ℕ) (result : Result (List ℕ) LineFault)
    → WorksOn memory address (OfOne (counted way) Named) result
    → Works memory address (loop way) result
loop_works Up memory address result works =
    twice (is_some (number_in (register_in memory address Named)))
    (Computes (OfOne (counted Up) Named) memory address result) (result ≡ Err AlphaData) works
loop_works Down memory address result works =
    twice (is_some (number_in (register_in memory address Named)))
    (Computes (OfOne (counted Down) Named) memory address result) (result ≡ Err AlphaData) works
