-- The label cache after a line.
use Rattle.std.proofs.Common.{◌≡◌, ap, subst, sym}
use Rattle.h41_focal.specs.OutsideCalls.{Program}
use Rattle.h41_xrom.specs.Calculator as calculator
use Rattle.h41_xrom.specs.KeptLabels.{KeepsAfterLine}
use Rattle.h41_xrom.specs.LabelledCalculator.{CacheState, LabelledCalculator}

-- The state of a calculator, and its cache after a line.
pub state_is : {from s : LabelledCalculator} → from ≡ s → from.state ≡ s.state
state_is {from} {s} is = ap (λ (all : LabelledCalculator). all.state) is

abbrev pub KeptIn : LabelledCalculator → CacheState → Type 0
KeptIn s after = KeepsAfterLine Program s.state.nut.pages (calculator.machine_of s.state) s.cache after

pub line_kept : (from s : LabelledCalculator) (after kept : CacheState) → from ≡ s → after ≡ kept → KeptIn from kept → KeptIn s after
line_kept from s after kept is same keeps =
    subst (λ (of : LabelledCalculator). KeptIn of after) is (subst (λ (at : CacheState). KeptIn from at) (sym same) keeps)
