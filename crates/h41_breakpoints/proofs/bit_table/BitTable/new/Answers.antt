use Rattle.std.proofs.Common.{◌≡◌, ◌≤◌, ◌*◌, replicate, ◌∙◌, arith}
use Rattle.h41_breakpoints.proofs.Bits.{bits_of_zeros, filled}
use Rattle.h41_breakpoints.proofs.bit_table.BitTable.new.Goals as goal

pub returns : goal.returns
returns g c =
    let room : g.row.COUNT ≤ 64 * c.div_ceil.result = omega (arith, c.div_ceil.ensures) in
    let zeros : c.resize.new.self.items ≡ replicate c.div_ceil.result 0 =
    c.in_ok-resize.ensures.items ∙ filled _ _ c.div_ceil.result c.new-numbers.ensures.items c.new-numbers.ensures.len in
    rw zeros (bits_of_zeros g.row.COUNT c.div_ceil.result room)
