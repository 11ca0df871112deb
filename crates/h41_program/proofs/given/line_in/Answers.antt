use Rattle.std.proofs.Common.{subst, drop, arith}
use Rattle.h41_codes.specs.ByteGrammar.{AnswersLine}
use Rattle.std.proofs.lemmas.List.{length-drop, take_all}
use Rattle.h41_program.proofs.Givens.{taken_first, taken_none}
use Rattle.h41_program.proofs.given.line_in.Goals as goal

pub overflow_add-result : goal.overflow_add-result
overflow_add-result c =
    let inside = ((c.decode.ensures.line c.in-Ok.line c.in-Ok.count).0 c.in-Ok.is).inside in
    omega (arith, inside, length-drop c.nulls_end-position.result c.args.bytes.now)

pub returns-in-Ok-clause-first : goal.returns-in-Ok-clause-first
returns-in-Ok-clause-first c =
    taken_first c.byte_round_trip.ensures.one c.args.bytes.now c.args.at c.nulls_end-position.result
    c.nulls_end-position.ensures.from c.nulls_end-position.ensures.to
    c.nulls_end-position.ensures.nulls c.nulls_end-position.ensures.stop c.decode.result
    (subst (λ rest. AnswersLine c.decode.result rest) (take_all _ (drop c.nulls_end-position.result c.args.bytes.now)
    (omega (arith, length-drop c.nulls_end-position.result c.args.bytes.now)))
    c.decode.ensures.line)
    c.in-Ok.line c.in-Ok.count c.in-Ok.is

pub returns-in-Err-clause-none : goal.returns-in-Err-clause-none
returns-in-Err-clause-none c =
    taken_none c.byte_round_trip.ensures.one c.args.bytes.now c.args.at c.nulls_end-position.result
    c.nulls_end-position.ensures.from c.nulls_end-position.ensures.to
    c.nulls_end-position.ensures.nulls c.nulls_end-position.ensures.stop c.decode.result
    (subst (λ rest. AnswersLine c.decode.result rest) (take_all _ (drop c.nulls_end-position.result c.args.bytes.now)
    (omega (arith, length-drop c.nulls_end-position.result c.args.bytes.now)))
    c.decode.ensures.line)
    c.in-Err.field-0 c.in-Err.is
