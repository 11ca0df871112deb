use Rattle.std.proofs.Common.{ap, ◌∙◌, ◌/◌, ◌^◌, ◌%◌, nat_eq}
use Rattle.std.proofs.lemmas.Nat.{and_mask}
use Rattle.h41_ram.proofs.Bits.{bit_read}
use Rattle.h41_ram.proofs.ram.bit.Goals as goal

pub returns : goal.returns
returns c =
    ap (λ n. nat_eq n 1) (and_mask (c.to_u64.result / 2 ^ c.args.bit) 1 ∙ ap (λ word. word / 2 ^ c.args.bit % 2) c.to_u64.ensures.value
    ∙ bit_read c.args.register c.args.bit c.to_u64.ensures.register c.requires)
