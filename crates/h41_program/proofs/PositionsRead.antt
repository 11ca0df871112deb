-- A line that was found, and the next position.
use Rattle.std.proofs.Common.{◌≡◌, ℕ, Ok, refl, subst}
use Rattle.std.specs.Prelude.{MatchBool, if◌then◌else◌}
use Rattle.h41_program.specs.Sources.{AnswersBoth, HasFirst, PositionFrom, Source}
use Rattle.h41_program.specs.declared.reading.Found.{Found}
use Rattle.h41_program.specs.private.Reading.{FoundBehind}

pub both_found :
    (source : Source) (at : ℕ) (found : Found) (next : ℕ)
    → HasFirst source at found
    → FoundBehind source found next
    → AnswersBoth source at (Ok (found.listed.line, next))
both_found source at found next is follows =
    let onward =
    subst (λ (n : ℕ).
    MatchBool (source.ends found.listed.line)
    (next ≡ (if source.stays then found.listed.position else n)) (PositionFrom source n next)) is.behind follows in
    ((found.listed, is.first, refl), (found.listed, is.first, onward))
