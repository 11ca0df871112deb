use Rattle.std.proofs.Common.{ℕ, ◌+◌, drop, take, length, ap, ◌∙◌, arith, refl}
use Rattle.h41_lines.proofs.Positions.{position_some}
use Rattle.h41_ends.specs.InputLines.{held_in}
use Rattle.h41_ends.proofs.InputBuffers.{between_long, held_behind, line_told}
use Rattle.h41_ends.proofs.input_lines.InputLines.tell_ended.Goals as goal

pub returns : goal.returns
returns c =
    let input = c.args.self.now in
    let at = position_some _ (held_in input) c.args.end c.requires in
    let size = between_long input.buffer input.start input.end input.held (omega (arith, input.held_end)) in
    let line = rw c.held.ensures at c.without_return-line.ensures in
    record {
      line =
          ap (λ (k : ℕ). drop input.start (take (input.start + k) input.buffer)) c.min.ensures
          ∙ line_told input.buffer input.start input.end c.args.end _ 201 input.held (omega (arith, input.held_end))
          (omega (arith, at.1, size)) (ap length line);
      held = held_behind input.buffer input.start input.end c.args.end;
      same = record { count = refl; over = refl; at_end = refl };
    }

pub invariant_of-self-clause-nothing : goal.invariant_of-self-clause-nothing
invariant_of-self-clause-nothing c = λ end.
    let input = c.args.self.now in
    let at = position_some _ (held_in input) c.args.end c.requires in
    let size = between_long input.buffer input.start input.end input.held (omega (arith, input.held_end)) in
    absurd (omega (arith, at.1, size, input.nothing end))
