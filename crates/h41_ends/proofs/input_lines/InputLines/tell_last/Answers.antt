use Rattle.std.proofs.Common.{ℕ, ◌+◌, drop, take, nat_lt, ap, sym, ◌∙◌, arith, refl}
use Rattle.h41_ends.proofs.InputBuffers.{between_long, last_line, nothing_behind}
use Rattle.h41_ends.proofs.input_lines.InputLines.tell_last.Goals as goal

pub returns : goal.returns
returns c =
    let input = c.args.self.now in
    let order = input.held in
    let within = input.held_end in
    record {
      line = ap (λ (k : ℕ). drop input.start (take (input.start + k) input.buffer)) c.min.ensures
          ∙ last_line input.buffer input.start input.end 201 order (omega (arith, within));
      held = nothing_behind input.buffer input.end;
      said = ap (nat_lt 0) (sym (between_long input.buffer input.start input.end order (omega (arith, within))));
      count = refl;
      over = refl;
      at_end = refl;
    }
