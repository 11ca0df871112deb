use Rattle.std.proofs.Common.{arith}
use Rattle.h41_digits.proofs.Spans.{fifteen_times, mask_sixes, some_sixes}
use Rattle.h41_digits.proofs.span.Span.sixes.Goals as goal

pub returns-clause-fifths : goal.returns-clause-fifths
returns-clause-fifths c =
    let span = c.args.self.now in
    omega (
      arith,
      mask_sixes span.lo span.hi span.mask span.ordered span.in_register span.weights,
      fifteen_times span.lo span.hi span.mask span.ordered span.weights,
    )

pub returns-clause-first : goal.returns-clause-first
returns-clause-first c =
    let span = c.args.self.now in
    omega (arith, mask_sixes span.lo span.hi span.mask span.ordered span.in_register span.weights, some_sixes span.lo span.hi span.ordered)
