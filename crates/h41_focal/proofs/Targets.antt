-- Branches to the content of a register.
use Rattle.std.proofs.Common.{◌≡◌, ℕ, false, Ok, Result, subst}
use Rattle.h41_codes.specs.declared.functions.Branch.{Branch}
use Rattle.h41_codes.specs.declared.line.Line.TheVariants as lines
use Rattle.h41_focal.specs.LineStep.{AppliesTo, named_by}
use Rattle.h41_positions.specs.FocalState.{Machine}
use Rattle.h41_focal.specs.private.Carrying.{GoesToTarget, TakesBranch, manner_of}
use Rattle.h41_focal.specs.declared.origin.Origin.{Origin}
use Rattle.h41_focal.specs.declared.outcome.LineOutcome.{LineOutcome}
use Rattle.h41_focal.specs.declared.refusal.FocalRefusal.{FocalRefusal}
use Rattle.h41_pages.specs.PageMap.{PageMap}
use Rattle.h41_rows.specs.Computing.{meant_by}
use Rattle.h41_rows.specs.Operands.{Meant, meant_of}
use Rattle.h41_rows.specs.Profile.{is_parameter_left_out}
use Rattle.h41_rows.specs.declared.fault.LineFault.{LineFault}
use Rattle.h41_rows.specs.declared.operands.BranchTarget.{BranchTarget}

-- GTO IND and XEQ IND, by their targets.
pub target_taken :
    (pages : PageMap) (origin : Origin) (branch : Branch) (register : ℕ) (target : BranchTarget) (old new : Machine)
    (result : Result LineOutcome FocalRefusal)
    → is_parameter_left_out register ≡ false
    → ◌≡◌ {A = Result Meant LineFault} (Ok (meant_by target)) (meant_of old.memory (lines.BranchIndirect branch register))
    → GoesToTarget pages origin branch target old new result
    → TakesBranch pages origin branch register old new result
target_taken pages origin branch register target old new result held meant goes =
    let (own, applies, goes_on) = goes (named_by (meant_by target)) in
    let P : Result Meant LineFault → Type 0 =
    λ found. AppliesTo pages (manner_of origin) (lines.BranchIndirect branch register) old found own in
    (own, rw held (subst P meant applies), goes_on)
