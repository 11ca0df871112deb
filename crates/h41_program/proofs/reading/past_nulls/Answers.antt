use Rattle.std.proofs.Common.{◌+◌, ◌≤◌, ◌∙◌, ap, arith}
use Rattle.h41_digits.specs.Register.{number_byte}
use Rattle.h41_program.proofs.NullBytes.{eight_inside, eight_nulls, leading, more_nulls, nulls_inside}
use Rattle.h41_program.proofs.reading.past_nulls.Goals as goal

pub overflow_add-result : goal.overflow_add-result
overflow_add-result g c =
    let to : c.loop-nulls.position + c.leading_nulls-nulls.result ≤ c.args.last =
    nulls_inside c.args.ram.now.registers c.loop-nulls.position c.args.last c.bytes_from-bytes.result c.requires.sound
    c.requires.last c.requires.count c.loop-nulls.invariant.to c.bytes_from-bytes.ensures
    c.leading_nulls-nulls.result c.leading_nulls-nulls.ensures.few c.leading_nulls-nulls.ensures.nulls in
    omega (arith, to)

pub returns-then-bytes-ne0-clause-to : goal.returns-then-bytes-ne0-clause-to
returns-then-bytes-ne0-clause-to g c =
    nulls_inside c.args.ram.now.registers c.loop-nulls.position c.args.last c.bytes_from-bytes.result c.requires.sound
    c.requires.last c.requires.count c.loop-nulls.invariant.to c.bytes_from-bytes.ensures
    c.leading_nulls-nulls.result c.leading_nulls-nulls.ensures.few c.leading_nulls-nulls.ensures.nulls

pub returns-then-bytes-ne0-clause-nulls : goal.returns-then-bytes-ne0-clause-nulls
returns-then-bytes-ne0-clause-nulls g c =
    more_nulls c.args.ram.now.registers c.args.at c.loop-nulls.position c.loop-nulls.invariant.nulls c.leading_nulls-nulls.result
    c.args.last
    (leading c.args.ram.now.registers c.loop-nulls.position c.bytes_from-bytes.result c.leading_nulls-nulls.result
    c.bytes_from-bytes.ensures c.leading_nulls-nulls.ensures.few c.leading_nulls-nulls.ensures.nulls)
    (nulls_inside c.args.ram.now.registers c.loop-nulls.position c.args.last c.bytes_from-bytes.result c.requires.sound
    c.requires.last c.requires.count c.loop-nulls.invariant.to c.bytes_from-bytes.ensures
    c.leading_nulls-nulls.result c.leading_nulls-nulls.ensures.few c.leading_nulls-nulls.ensures.nulls)
    (omega (arith, c.requires.count))

pub returns-then-bytes-ne0-clause-stop : goal.returns-then-bytes-ne0-clause-stop
returns-then-bytes-ne0-clause-stop g c null =
    let to : c.loop-nulls.position + c.leading_nulls-nulls.result ≤ c.args.last =
    nulls_inside c.args.ram.now.registers c.loop-nulls.position c.args.last c.bytes_from-bytes.result c.requires.sound
    c.requires.last c.requires.count c.loop-nulls.invariant.to c.bytes_from-bytes.ensures
    c.leading_nulls-nulls.result c.leading_nulls-nulls.ensures.few c.leading_nulls-nulls.ensures.nulls in
    c.leading_nulls-nulls.ensures.stop
    (c.bytes_from-bytes.ensures c.leading_nulls-nulls.result c.leading_nulls-nulls.ensures.few (omega (arith, to, c.requires.count)) ∙ null)

pub returns-then-bytes-ne0-clause-byte : goal.returns-then-bytes-ne0-clause-byte
returns-then-bytes-ne0-clause-byte g c =
    let to : c.loop-nulls.position + c.leading_nulls-nulls.result ≤ c.args.last =
    nulls_inside c.args.ram.now.registers c.loop-nulls.position c.args.last c.bytes_from-bytes.result c.requires.sound
    c.requires.last c.requires.count c.loop-nulls.invariant.to c.bytes_from-bytes.ensures
    c.leading_nulls-nulls.result c.leading_nulls-nulls.ensures.few c.leading_nulls-nulls.ensures.nulls in
    c.number_byte.ensures ∙ ap (number_byte c.bytes_from-bytes.result) c.from.ensures
    ∙ c.bytes_from-bytes.ensures c.leading_nulls-nulls.result c.leading_nulls-nulls.ensures.few (omega (arith, to, c.requires.count))

pub overflow_add-position : goal.overflow_add-position
overflow_add-position g c =
    let to : c.loop-nulls.position + 8 ≤ c.args.last =
    eight_inside c.args.ram.now.registers c.loop-nulls.position c.args.last c.bytes_from-bytes.result c.requires.sound
    c.requires.last c.requires.count c.loop-nulls.invariant.to c.bytes_from-bytes.ensures c.if-bytes-ne0.false in
    omega (arith, to)

pub loop-nulls-smaller : goal.loop-nulls-smaller
loop-nulls-smaller g c =
    let to : c.loop-nulls.position + 8 ≤ c.args.last =
    eight_inside c.args.ram.now.registers c.loop-nulls.position c.args.last c.bytes_from-bytes.result c.requires.sound
    c.requires.last c.requires.count c.loop-nulls.invariant.to c.bytes_from-bytes.ensures c.if-bytes-ne0.false in
    omega (arith, to)

pub loop-nulls-preserved : goal.loop-nulls-preserved
loop-nulls-preserved g c =
    let to : c.loop-nulls.position + 8 ≤ c.args.last =
    eight_inside c.args.ram.now.registers c.loop-nulls.position c.args.last c.bytes_from-bytes.result c.requires.sound
    c.requires.last c.requires.count c.loop-nulls.invariant.to c.bytes_from-bytes.ensures c.if-bytes-ne0.false in
    let from = c.loop-nulls.invariant.from in
    record {
      from = omega (arith, from);
      to = to;
      nulls =
          more_nulls c.args.ram.now.registers c.args.at c.loop-nulls.position c.loop-nulls.invariant.nulls 8 c.args.last
          (eight_nulls c.args.ram.now.registers c.loop-nulls.position c.bytes_from-bytes.result c.bytes_from-bytes.ensures
          c.if-bytes-ne0.false)
          to (omega (arith, c.requires.count));
    }
