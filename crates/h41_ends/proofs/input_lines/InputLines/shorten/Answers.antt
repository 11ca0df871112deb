use Rattle.std.proofs.Common.{take, ap, ◌∙◌, arith, refl}
use Rattle.h41_ends.proofs.InputBuffers.{moved_front}
use Rattle.h41_ends.proofs.input_lines.InputLines.shorten.Goals as goal

pub returns : goal.returns
returns c =
    let input = c.args.self.now in record {
      start = refl;
      room = omega (arith, c.min-kept.ensures);
      held =
          ap (take c.min-kept.result) c.copy_within.ensures.after
          ∙ moved_front input.buffer input.start input.end 202 c.min-kept.result input.held (omega (arith, input.held_end))
          c.min-kept.ensures;
      same = record { count = refl; over = refl; at_end = refl };
    }
