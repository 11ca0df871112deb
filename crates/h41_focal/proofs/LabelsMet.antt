-- Branches to labels, and returns, by the answers of the searches.
use Rattle.std.proofs.Common.{◌≡◌, ℕ, List, [], ◌∷◌, Some, None, Ok, Result, refl, reverse}
use Rattle.h41_codes.specs.declared.functions.Branch.{Branch}
use Rattle.h41_codes.specs.declared.functions.Branch.TheVariants.{GoTo, Execute}
use Rattle.h41_focal.specs.private.Arrivals.{GoesBackFrom, ReturnsFrom, answer_at, focal_at, from_of}
use Rattle.h41_focal.specs.private.Carrying.{CallsNamed, CarriesRow, CarriesRowWhole, LineFails}
use Rattle.h41_focal.specs.Destinations as destinations
use Rattle.h41_focal.specs.Outcomes as answers
use Rattle.h41_focal.specs.declared.refusal.FocalRefusal.{FocalRefusal}
use Rattle.h41_rows.specs.LineRows as lines
use Rattle.h41_positions.specs.FocalState.{Machine, at_halt}
use Rattle.h41_focal.specs.private.Works.{row_of_work}
use Rattle.h41_rows.specs.declared.fault.LineFault.TheVariants.{Nonexistent}
use Rattle.h41_focal.specs.declared.origin.Origin.{Origin}
use Rattle.h41_focal.specs.declared.origin.Origin.TheVariants.{Program, Typed}
use Rattle.h41_focal.specs.declared.outcome.LineOutcome.{LineOutcome}
use Rattle.h41_focal.specs.declared.outcome.LineOutcome.TheVariants as outcomes
use Rattle.h41_focal.specs.declared.works.FunctionWork.TheVariants as works
use Rattle.h41_pages.specs.PageMap.{PageMap}
use Rattle.h41_program.specs.ProgramLines.{AnswersOf}
use Rattle.h41_positions.specs.Positions.{LocalFrom, StartOf}
use Rattle.h41_program.specs.Searches.{named_in, position_of}
use Rattle.h41_positions.specs.declared.position.Position.{Position}
use Rattle.h41_positions.specs.declared.position.Position.TheVariants.{Memory}
use Rattle.h41_ram.specs.RegisterMap.{zeros}

-- The machine at a label, by the origin of the line and the branch.
abbrev pub at_label : Origin → Branch → Position → Machine → Machine
at_label origin branch position machine = record machine { focal = focal_at origin branch position machine.focal }

-- The label was found.
pub label_found :
    (pages : PageMap) (origin : Origin) (branch : Branch) (label named : ℕ) (machine : Machine) (position : Position)
    (outcome : LineOutcome)
    → LocalFrom label pages machine.memory (from_of origin machine.focal.position) (Some position)
    → outcome ≡ answer_at origin branch
    → CarriesRow pages origin (lines.to_label branch label) named machine (at_label origin branch position machine) (Ok outcome)
label_found pages (Program next) GoTo label named machine position outcome found answer =
    (Ok zeros, refl, (destinations.Arrives position machine.focal.returns, (Some position, found, refl), rw answer refl))
label_found pages (Program next) Execute label named machine position outcome found answer = (
  Ok zeros,
  refl,
  (
    destinations.Arrives position (destinations.with_return machine.focal.returns next),
    (Some position, found, refl),
    rw answer refl,
  ),
)
label_found pages Typed GoTo label named machine position outcome found answer =
    (Ok zeros, refl, (destinations.Arrives position machine.focal.returns, (Some position, found, refl), rw answer refl))
label_found pages Typed Execute label named machine position outcome found answer =
    (Ok zeros, refl, (destinations.Runs position, (Some position, found, refl), rw answer refl))

-- The label was not found.
pub label_lost :
    (pages : PageMap) (origin : Origin) (branch : Branch) (label named : ℕ) (old new : Machine) (outcome : LineOutcome)
    → LocalFrom label pages old.memory (from_of origin old.focal.position) None
    → LineFails origin Nonexistent old new outcome
    → CarriesRow pages origin (lines.to_label branch label) named old new (Ok outcome)
label_lost pages (Program next) branch label named old new outcome lost fails =
    (Ok zeros, refl, (destinations.HasNoLabel, (None, lost, refl), fails))
label_lost pages Typed branch label named old new outcome lost fails =
    (Ok zeros, refl, (destinations.HasNoLabel, (None, lost, refl), fails))

-- A name was found.
pub name_found :
    (pages : PageMap) (origin : Origin) (branch : Branch) (name : List ℕ) (named : ℕ) (machine : Machine) (byte : ℕ) (outcome : LineOutcome)
    → AnswersOf (λ lines. position_of (named_in name lines)) machine.memory 0 (Some byte)
    → outcome ≡ answer_at origin branch
    → CarriesRow pages origin (lines.to_name branch name) named machine (at_label origin branch (Memory byte) machine) (Ok outcome)
name_found pages (Program next) GoTo name named machine byte outcome found answer =
    (Ok zeros, refl, (destinations.Arrives (Memory byte) machine.focal.returns, (Some byte, found, refl), rw answer refl))
name_found pages (Program next) Execute name named machine byte outcome found answer = (
  Ok zeros,
  refl,
  (
    destinations.Arrives (Memory byte) (destinations.with_return machine.focal.returns next),
    (Some byte, found, refl),
    rw answer refl,
  ),
)
name_found pages Typed GoTo name named machine byte outcome found answer =
    (Ok zeros, refl, (destinations.Arrives (Memory byte) machine.focal.returns, (Some byte, found, refl), rw answer refl))
name_found pages Typed Execute name named machine byte outcome found answer =
    (Ok zeros, refl, (destinations.Runs (Memory byte), (Some byte, found, refl), rw answer refl))

-- A name was not found: GTO is an error.
pub name_lost :
    (pages : PageMap) (origin : Origin) (name : List ℕ) (named : ℕ) (old new : Machine) (outcome : LineOutcome)
    → AnswersOf (λ lines. position_of (named_in name lines)) old.memory 0 None
    → LineFails origin Nonexistent old new outcome
    → CarriesRow pages origin (lines.to_name GoTo name) named old new (Ok outcome)
name_lost pages (Program next) name named old new outcome lost fails =
    (Ok zeros, refl, (destinations.HasNoLabel, (None, lost, refl), fails))
name_lost pages Typed name named old new outcome lost fails =
    (Ok zeros, refl, (destinations.HasNoLabel, (None, lost, refl), fails))

-- A name was not found: XEQ calls what has the name outside memory.
pub name_sought :
    (pages : PageMap) (origin : Origin) (name : List ℕ) (named : ℕ) (old new : Machine) (result : Result LineOutcome FocalRefusal)
    → AnswersOf (λ lines. position_of (named_in name lines)) old.memory 0 None
    → CallsNamed pages origin name old new result
    → CarriesRowWhole pages origin (lines.to_name Execute name) named old new result
name_sought pages (Program next) name named old new result lost calls = (
  Ok (record { machine = old; answer = answers.Seeks name }),
  (Ok zeros, refl, (destinations.Seeks name, (None, lost, refl), refl)),
  calls,
)
name_sought pages Typed name named old new result lost calls = (
  Ok (record { machine = old; answer = answers.Seeks name }),
  (Ok zeros, refl, (destinations.Seeks name, (None, lost, refl), refl)),
  calls,
)

-- A line returns.
back_from : (pages : PageMap) (returns : List Position) (old new : Machine) (outcome : LineOutcome) (next : Position) (named : ℕ)
    → GoesBackFrom pages returns old new outcome
    → returns ≡ reverse old.focal.returns
    → CarriesRow pages (Program next) (row_of_work works.Return) named old new (Ok outcome)
back_from pages [] old new outcome next named (start, found, is, answer) none =
    (Ok zeros, refl, (destinations.Halts start, rw (← none) (start, found, refl), rw (is, answer) refl))
back_from pages (latest ∷ others) old new outcome next named (is, answer) some =
    (Ok zeros, refl, (destinations.Arrives latest (reverse others), rw (← some) refl, rw (is, answer) refl))

pub goes_back : (pages : PageMap) (old new : Machine) (outcome : LineOutcome) (next : Position) (named : ℕ)
    → ReturnsFrom pages old new outcome
    → CarriesRow pages (Program next) (row_of_work works.Return) named old new (Ok outcome)
goes_back pages old new outcome next named back = back_from pages (reverse old.focal.returns) old new outcome next named back refl

pub goes_to_line_00 : (pages : PageMap) (machine : Machine) (start : Position) (named : ℕ)
    → StartOf pages machine.memory machine.focal.position start
    → CarriesRow pages Typed (row_of_work works.Return) named machine (at_halt start machine) (Ok outcomes.Done)
goes_to_line_00 pages machine start named found = (Ok zeros, refl, (destinations.Halts start, (start, found, refl), refl))
