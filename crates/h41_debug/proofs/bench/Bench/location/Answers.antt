use Rattle.std.proofs.Common.{ap, ◌∙◌}
use Rattle.h41_debug.proofs.Locations.{line_place, word_place}
use Rattle.h41_debug.proofs.bench.Bench.location.Goals as goal
use Rattle.h41_debug.specs.LabelledBench.{LabelledBench}
use Rattle.h41_positions.specs.FocalState.{FocalState}
use Rattle.h41_positions.specs.LabelledMachine.{LabelledFocal}

pub returns-in-Micro : goal.returns-in-Micro
returns-in-Micro g c =
    word_place _ _ _ _ _ (ap (λ (s : LabelledBench). s.state.calculator) c.self.view_is) c.mode.ensures c.in-Micro.is
    (rw c.cpu.ensures at c.pc.ensures)

pub returns-in_default : goal.returns-in_default
returns-in_default g c =
    line_place _ _ _ _ (ap (λ (s : LabelledBench). s.state.calculator) c.self.view_is) c.mode.ensures c.in_default.not-Micro
    (ap (λ (f : LabelledFocal). f.state.position) c.behind-self.view_is ∙ ap (λ (f : FocalState). f.position) c.focal.ensures.state)
