use Rattle.std.proofs.Common.{◌∙◌}
use Rattle.h41_nut.proofs.StatusNumbers.{put_bit, put_bit-lt}
use Rattle.h41_nut.proofs.cpu.Cpu.set_status.Goals as goal

pub invariant_of-self : goal.invariant_of-self
invariant_of-self c =
    let put = rw c.named.ensures.weight at (c.set.ensures tt) in
    let weight = rw c.named.ensures.weight at c.named.ensures.bound in (
      c.self.invariant.0,
      c.self.invariant.1,
      rw put (put_bit-lt c.self.inside.status.0 c.args.bit c.args.on c.self.invariant.2 weight),
      c.self.invariant.3,
    )

pub returns : goal.returns
returns c =
    let put = rw c.named.ensures.weight at (c.set.ensures tt) in
    let weight = rw c.named.ensures.weight at c.named.ensures.bound in
    rw (← c.self.view_is, put ∙ put_bit c.self.inside.status.0 c.args.bit c.args.on c.self.invariant.2 weight)
