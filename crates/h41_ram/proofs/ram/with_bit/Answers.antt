use Rattle.std.proofs.Common.{sym, ◌∙◌, arith}
use Rattle.h41_digits.proofs.Values.{same_register}
use Rattle.h41_ram.specs.RegisterMap.{with_bit}
use Rattle.h41_ram.proofs.Bits.{put_bit-lt, bit_written}
use Rattle.h41_ram.proofs.ram.with_bit.Goals as goal

pub holding-requires : goal.holding-requires
holding-requires c = (
  omega arith,
  (
    omega arith,
    rw (c.to_u64.ensures.value, c.from.ensures)
        (put_bit-lt c.args.register c.args.bit c.args.on c.to_u64.ensures.register c.requires),
  ),
)

pub returns : goal.returns
returns c =
    let written = bit_written c.args.register c.args.bit c.args.on c.to_u64.ensures.register c.requires in
    same_register 14 c.holding.result (with_bit c.args.register c.args.bit c.args.on) c.holding.ensures.register written.1
    (c.holding.ensures.value ∙ sym (rw (c.to_u64.ensures.value, c.from.ensures) written.0))
