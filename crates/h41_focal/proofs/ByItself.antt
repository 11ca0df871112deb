-- A line that calls nothing outside program memory leaves what it leaves by itself.
use Rattle.std.proofs.Common.{◌≡◌, Bool, true, false, Ok, Err, Result, refl}
use Rattle.std.specs.Prelude.{MatchBool}
use Rattle.h41_codes.specs.declared.line.Line.{Line}
use Rattle.h41_focal.specs.Destinations.{Manner, Stepped, Typed}
use Rattle.h41_focal.specs.LineLaws.{CallsNothing, SteppedByItself, TypedByItself}
use Rattle.h41_focal.specs.LineStep.{Left, StepsAs, TakesLine}
use Rattle.h41_focal.specs.Outcomes.{Answer, calls_outside}
use Rattle.h41_focal.specs.Outcomes as answers
use Rattle.h41_focal.specs.OutsideCalls.{CarriesStanding, CarriesWhole, GoesOn, GoesOnFrom}
use Rattle.h41_focal.specs.declared.refusal.FocalRefusal.{FocalRefusal}
use Rattle.h41_focal.specs.declared.refusal.FocalRefusal.TheVariants.{MemoryLost}
use Rattle.h41_pages.specs.PageMap.{PageMap}
use Rattle.h41_positions.specs.FocalState.{Machine}
use Rattle.h41_positions.specs.declared.position.Position.{Position}
use Rattle.h41_ram.specs.RegisterMap.{is_sound}

by_answer : (pages : PageMap) (how : Manner) (machine : Machine) (left : Left) (answer : Answer)
    → calls_outside answer ≡ false → GoesOn pages how machine left answer (Ok left)
by_answer pages how machine left (answers.Calls number entry) calls = absurd cc
by_answer pages how machine left (answers.Seeks name) calls = absurd cc
by_answer pages how machine left answers.Done calls = refl
by_answer pages how machine left answers.Stopped calls = refl
by_answer pages how machine left answers.TurnedOff calls = refl
by_answer pages how machine left (answers.Viewed text) calls = refl
by_answer pages how machine left (answers.Prompted text) calls = refl
by_answer pages how machine left answers.Cleared calls = refl
by_answer pages how machine left (answers.Answered holds) calls = refl
by_answer pages how machine left answers.Runs calls = refl
by_answer pages how machine left (answers.Begins address) calls = refl
by_answer pages how machine left (answers.Failed fault) calls = refl

goes_on : (pages : PageMap) (how : Manner) (machine : Machine) (carried : Result Left FocalRefusal)
    → CallsNothing carried → GoesOnFrom pages how machine carried carried
goes_on pages how machine (Ok left) calls = by_answer pages how machine left left.answer calls
goes_on pages how machine (Err refusal) calls = refl

whole : (pages : PageMap) (how : Manner) (line : Line) (machine : Machine) (carried : Result Left FocalRefusal)
    → CallsNothing carried → TakesLine pages how line machine carried → CarriesWhole pages how line machine carried
whole pages how line machine carried calls takes = (carried, takes, goes_on pages how machine carried calls)

standing_whole : (pages : PageMap) (machine : Machine) (standing : Result (Line × Position) FocalRefusal)
    (carried : Result Left FocalRefusal)
    → CallsNothing carried → StepsAs pages machine standing carried → CarriesStanding pages machine standing carried
standing_whole pages machine (Ok (line, next)) carried calls steps = whole pages (Stepped next) line machine carried calls steps
standing_whole pages machine (Err refusal) carried calls steps = steps

typed_whole : (pages : PageMap) (line : Line) (machine : Machine) (carried : Result Left FocalRefusal) (sound : Bool)
    → CallsNothing carried
    → MatchBool sound (TakesLine pages Typed line machine carried) (carried ≡ Err MemoryLost)
    → MatchBool sound (CarriesWhole pages Typed line machine carried) (carried ≡ Err MemoryLost)
typed_whole pages line machine carried true calls types = whole pages Typed line machine carried calls types
typed_whole pages line machine carried false calls types = types

pub stepped_by_itself : SteppedByItself
stepped_by_itself pages machine carried calls (standing, stands, steps) =
    (standing, stands, standing_whole pages machine standing carried calls steps)

pub typed_by_itself : TypedByItself
typed_by_itself pages line machine carried calls types = typed_whole pages line machine carried (is_sound machine.memory) calls types
