-- How the bench lends its calculator.
use Rattle.std.specs.Borrow.{Lends, MutBor, Fml, RattleType}
use Rattle.h41_debug.specs.LabelledBench.{LabelledBench, with_labelled}
use Rattle.h41_debug.specs.contracts.bench.Bench.{the_row}
use Rattle.h41_xrom.specs.LabelledCalculator.{LabelledCalculator}
use Rattle.h41_xrom.specs.contracts.calculator.Calculator as lent

-- After the loan, the bench has the changed calculator with its cache; everything else of the bench
-- is unchanged.
abbrev pub LendsCalculator : RattleType → MutBor LabelledBench → MutBor LabelledCalculator → Fml
LendsCalculator registers s r =
    Lends (the_row registers) (lent.the_row registers) s r
    (λ (left : LabelledCalculator). with_labelled left s.now)
