use Rattle.std.proofs.Common.{◌++◌, List, ℕ, ap, ◌∙◌}
use Rattle.h41_codes.specs.ByteGrammar.{spelling}
use Rattle.h41_commands.specs.private.ProgramTexts.{null_between}
use Rattle.h41_commands.proofs.ProgramTextLines.{pushed}
use Rattle.h41_commands.proofs.blocks.program_text.Packed.push.Goals as goal

pub returns : goal.returns
returns c lines packed_is =
    let gap = c.gap.ensures ∙ ap (null_between c.args.self.now.ends_with_number) c.is_number-is_number.ensures in
    let front = c.in_ok-extend_from_slice.ensures.items ∙ ap (λ (part : List ℕ). c.args.self.now.bytes.items ++ part) gap in
    pushed lines c.args.line.now c.args.self.now _ packed_is
    (c.in_ok-push_spelling.ensures ∙ ap (λ (bytes : List ℕ). bytes ++ spelling c.args.line.now) front)
    c.is_number-is_number.ensures
