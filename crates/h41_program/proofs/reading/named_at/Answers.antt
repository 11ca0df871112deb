use Rattle.std.proofs.Common.{arith, ◌+◌}
use Rattle.h41_program.proofs.Places.{named_cut, named_low, named_there, named_lacks, some_fits, none_fits}
use Rattle.h41_program.proofs.reading.named_at.Goals as goal

pub returns-then-limit-at-lt2-clause-none : goal.returns-then-limit-at-lt2-clause-none
returns-then-limit-at-lt2-clause-none g c =
    named_cut c.args.ram.now.registers c.args.at c.args.limit c.requires.from c.requires.first (omega (arith, c.if-limit-at-lt2.true))

pub returns-then-text-lt240-clause-none : goal.returns-then-text-lt240-clause-none
returns-then-text-lt240-clause-none g c =
    named_low c.args.ram.now.registers c.args.at c.args.limit c.requires.from c.requires.first
    c.byte_at-text.result c.byte_at-text.ensures (omega (arith, c.if-limit-at-lt2.false)) c.if-text-lt240.true

pub returns-clause-some : goal.returns-clause-some
returns-clause-some g c =
    some_fits c.args.ram.now.registers c.args.at c.args.limit (c.from.result + 2) c.fitting.result c.fitting.ensures.some
    (named_there c.args.ram.now.registers c.args.at c.args.limit c.requires.from c.requires.first
    c.byte_at-text.result c.byte_at-text.ensures (omega (arith, c.if-limit-at-lt2.false))
    c.if-text-lt240.false (omega arith) (c.from.result + 2) (omega (arith, c.from.ensures)))

pub returns-clause-none : goal.returns-clause-none
returns-clause-none g c =
    none_fits c.args.ram.now.registers c.args.at c.args.limit (c.from.result + 2) c.fitting.result c.fitting.ensures.none
    (named_lacks c.args.ram.now.registers c.args.at c.args.limit c.requires.from c.requires.first
    c.byte_at-text.result c.byte_at-text.ensures (omega (arith, c.if-limit-at-lt2.false))
    c.if-text-lt240.false (c.from.result + 2) (omega (arith, c.from.ensures)))
