use Rattle.std.proofs.Common.{ap, refl, ◌+◌}
use Rattle.h41_program.proofs.Places.{alone_there, pair_there, pair_lacks, triple_there, triple_lacks, text_there, text_lacks, never}
use Rattle.h41_program.proofs.Places.{some_fits, none_fits}
use Rattle.h41_program.proofs.reading.place_at.Goals as goal

pub returns-in-OneByte-clause-some : goal.returns-in-OneByte-clause-some
returns-in-OneByte-clause-some g c =
    alone_there c.args.ram.now.registers c.args.at c.args.limit c.first_bytes.ensures.number c.requires.from c.args.byte c.requires.byte
    c.in-OneByte.ensures.kind (c.in-OneByte.ensures.alone refl)

pub returns-in-TwoBytes-clause-some : goal.returns-in-TwoBytes-clause-some
returns-in-TwoBytes-clause-some g c =
    some_fits c.args.ram.now.registers c.args.at c.args.limit 2 c.fitting-in-TwoBytes.result c.fitting-in-TwoBytes.ensures.some
    (pair_there c.args.ram.now.registers c.args.at c.args.limit c.requires.from c.args.byte c.requires.byte c.in-TwoBytes.ensures.kind)

pub returns-in-TwoBytes-clause-none : goal.returns-in-TwoBytes-clause-none
returns-in-TwoBytes-clause-none g c =
    none_fits c.args.ram.now.registers c.args.at c.args.limit 2 c.fitting-in-TwoBytes.result c.fitting-in-TwoBytes.ensures.none
    (pair_lacks c.args.ram.now.registers c.args.at c.args.limit c.requires.from c.args.byte c.requires.byte c.in-TwoBytes.ensures.kind)

pub returns-in-ThreeBytes-clause-some : goal.returns-in-ThreeBytes-clause-some
returns-in-ThreeBytes-clause-some g c =
    some_fits c.args.ram.now.registers c.args.at c.args.limit 3 c.fitting-in-ThreeBytes.result c.fitting-in-ThreeBytes.ensures.some
    (triple_there c.args.ram.now.registers c.args.at c.args.limit c.requires.from
    c.args.byte c.requires.byte c.in-ThreeBytes.ensures.kind.0 c.in-ThreeBytes.ensures.kind.1)

pub returns-in-ThreeBytes-clause-none : goal.returns-in-ThreeBytes-clause-none
returns-in-ThreeBytes-clause-none g c =
    none_fits c.args.ram.now.registers c.args.at c.args.limit 3 c.fitting-in-ThreeBytes.result c.fitting-in-ThreeBytes.ensures.none
    (triple_lacks c.args.ram.now.registers c.args.at c.args.limit c.requires.from
    c.args.byte c.requires.byte c.in-ThreeBytes.ensures.kind.0 c.in-ThreeBytes.ensures.kind.1)

pub returns-in-Text-clause-some : goal.returns-in-Text-clause-some
returns-in-Text-clause-some g c =
    some_fits c.args.ram.now.registers c.args.at c.args.limit (c.from.result + 1)
    c.fitting-in-Text.result c.fitting-in-Text.ensures.some
    (text_there c.args.ram.now.registers c.args.at c.args.limit c.requires.from c.args.byte c.requires.byte
    c.in-Text.ensures.kind.0 c.in-Text.ensures.kind.1 (c.from.result + 1) (ap (λ n. n + 1) c.from.ensures))

pub returns-in-Text-clause-none : goal.returns-in-Text-clause-none
returns-in-Text-clause-none g c =
    none_fits c.args.ram.now.registers c.args.at c.args.limit (c.from.result + 1)
    c.fitting-in-Text.result c.fitting-in-Text.ensures.none
    (text_lacks c.args.ram.now.registers c.args.at c.args.limit c.requires.from c.args.byte c.requires.byte
    c.in-Text.ensures.kind.0 c.in-Text.ensures.kind.1 (c.from.result + 1) (ap (λ n. n + 1) c.from.ensures))

pub returns-in-Nothing-clause-none : goal.returns-in-Nothing-clause-none
returns-in-Nothing-clause-none g c =
    never c.args.ram.now.registers c.args.at c.args.limit c.requires.from c.args.byte c.requires.byte
    c.in-Nothing.ensures.kind.0 c.in-Nothing.ensures.kind.1
