use Rattle.std.proofs.Common.{◌≡◌, ap, ◌∙◌, Some}
use Rattle.h41_commands.specs.declared.commands.FirstWord.TheVariants.{Plain}
use Rattle.h41_commands.specs.declared.line.LineKind.TheVariants.{Named}
use Rattle.h41_commands.specs.Commands.{read_plain}
use Rattle.h41_commands.proofs.FirstLines.{alone_spelled, named_short}
use Rattle.h41_commands.proofs.KeyWords.{words_within}
use Rattle.h41_commands.proofs.NameEnds.{told_kind}
use Rattle.h41_commands.proofs.commands.parse.line_command.Goals as goal

pub plain-requires : goal.plain-requires
plain-requires c =
    let told = told_kind c.args.line.now c.args.first c.requires.first in
    let word : c.in-Named-Plain.field-0 ≡ Plain c.in-Named-Plain.kind = rw c.in-Named-Plain.is at c.in-Named-Plain.field-0-is in
    let kind = told ∙ ap Some (c.in-Named-Plain.is ∙ ap Named word) in
    rw c.operands.ensures (words_within c.args.line.now (named_short c.args.line.now (Plain c.in-Named-Plain.kind) kind))

pub returns-in-Named-Plain-clause-command : goal.returns-in-Named-Plain-clause-command
returns-in-Named-Plain-clause-command c =
    let told = told_kind c.args.line.now c.args.first c.requires.first in
    let word : c.in-Named-Plain.field-0 ≡ Plain c.in-Named-Plain.kind = rw c.in-Named-Plain.is at c.in-Named-Plain.field-0-is in
    let kind = told ∙ ap Some (c.in-Named-Plain.is ∙ ap Named word) in
    let read = c.plain.ensures.command ∙ ap (read_plain c.in-Named-Plain.kind) c.operands.ensures in
    alone_spelled c.args.line.now c.in-Named-Plain.kind c.plain.result kind read c.plain.ensures.alone
