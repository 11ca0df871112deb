use Rattle.std.proofs.Common.{sym, ap, ◌∙◌}
use Rattle.std.specs.Option.{option_map}
use Rattle.h41_codes.specs.declared.line.Operand.TheVariants.{Direct, Indirect}
use Rattle.h41_text.specs.private.TextParts.{operand_from}
use Rattle.h41_text.proofs.Finding.{parameter_is, parameter_none}
use Rattle.h41_text.proofs.reader.operand.Goals as goal

pub returns-in_err-parameter-in-Some : goal.returns-in_err-parameter-in-Some
returns-in_err-parameter-in-Some c =
    let none = parameter_none c.in-Some.register.now c.in_err-parameter-in-Some.ensures.none in
    c.from_residual.ensures ∙ sym (ap (operand_from c.args.text.now) c.in-Some.ensures.rest ∙ ap (option_map Indirect) none)

pub returns-in_err-parameter-in-None : goal.returns-in_err-parameter-in-None
returns-in_err-parameter-in-None c =
    let none = parameter_none c.args.text.now c.in_err-parameter-in-None.ensures.none in
    c.from_residual-in_err-parameter-in-None.ensures
    ∙ sym (ap (operand_from c.args.text.now) c.in-None.ensures.none ∙ ap (option_map Direct) none)

pub returns-in_ok-parameter-in-Some : goal.returns-in_ok-parameter-in-Some
returns-in_ok-parameter-in-Some c =
    let found =
    parameter_is c.in-Some.register.now c.in_ok-parameter-in-Some.field-0
    c.in_ok-parameter-in-Some.ensures.inside c.in_ok-parameter-in-Some.ensures.named in
    sym (ap (operand_from c.args.text.now) c.in-Some.ensures.rest ∙ ap (option_map Indirect) found)

pub returns-in_ok-parameter-in-None : goal.returns-in_ok-parameter-in-None
returns-in_ok-parameter-in-None c =
    let found =
    parameter_is c.args.text.now c.in_ok-parameter-in-None.field-0
    c.in_ok-parameter-in-None.ensures.inside c.in_ok-parameter-in-None.ensures.named in
    sym (ap (operand_from c.args.text.now) c.in-None.ensures.none ∙ ap (option_map Direct) found)
