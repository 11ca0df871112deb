use Rattle.std.proofs.Common.{inl, inr, ◌∙◌, ◌-◌, length, arith, refl}
use Rattle.std.proofs.lemmas.Bool.{cases_lt}
use Rattle.h41_commands.specs.private.TakenBlocks.{most_kept}
use Rattle.h41_commands.proofs.KeptBytes.{fits_more}
use Rattle.h41_commands.proofs.blocks.image_bytes.ImageBytes.keep.Goals as goal

pub returns : goal.returns
returns c =
    let held = c.args.self.now.bytes.ok.0 in
    let bound = c.args.self.now.bounded in
    let kept = c.args.self.now.bytes.items in
    let more = c.args.more.now in
    let room = most_kept - length kept in
    record {
      bytes =
          c.in_ok-extend_from_slice.ensures.items
          ∙ fits_more kept more room c.min-count.result (omega (arith, held, bound))
          (elim (cases_lt room (length more)) [
            | inl over ↦ inl (omega (arith, held, bound, over, c.min-count.ensures))
            | inr short ↦ inr (omega (arith, held, bound, short, c.min-count.ensures), short)
          ]);
      same = refl;
    }
