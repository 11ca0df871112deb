use Rattle.std.proofs.Common.{ap, eqb, eq-eqb, sym, ◌∙◌, w64}
use Rattle.std.proofs.lemmas.Nat.Bits.{bit_at_clear_other, bit_at_clear_same, bit_at_set_other, bit_at_set_same}
use Rattle.h41_breakpoints.proofs.bit_table.with_bit.Goals as goal

pub returns-then-bit : goal.returns-then-bit
returns-then-bit c = record {
  here = eq-eqb _ 1 (bit_at_set_same w64 c.args.number c.args.place c.requires) ∙ sym c.if-bit.true;
  others = λ i small apart. bit_at_set_other w64 c.args.number c.args.place c.requires i apart;
}

pub returns-else-bit : goal.returns-else-bit
returns-else-bit c = record {
  here = ap (λ b. eqb b 1) (bit_at_clear_same w64 c.args.number c.args.place c.requires) ∙ sym c.if-bit.false;
  others = λ i small apart. bit_at_clear_other w64 c.args.number c.args.place c.requires i small apart;
}
