use Rattle.std.proofs.Common.{◌∙◌, sym}
use Rattle.h41_rows.proofs.values.compute_of_two.Goals as goal

pub returns : goal.returns
returns g c other named a b e f flag =
    c.of_registers.ensures other named a b (e ∙ sym c.read.ensures) (f ∙ sym c.read-2.ensures) (flag ∙ sym c.flag.ensures)
