use Rattle.std.proofs.Common.{arith, subst, ℕ, ◌<◌, ◌+◌}
use Rattle.h41_program.proofs.Places.{linked_cut, linked_none, label_there, label_lacks, end_there, final_there, some_fits, none_fits}
use Rattle.h41_program.proofs.reading.linked_at.Goals as goal

pub returns-then-limit-at-lt-END_BYTES-clause-none : goal.returns-then-limit-at-lt-END_BYTES-clause-none
returns-then-limit-at-lt-END_BYTES-clause-none g c =
    linked_cut c.args.ram.now.registers c.args.at c.args.limit c.requires.from c.requires.first
    (omega (arith, c.if-limit-at-lt-END_BYTES.true))

pub returns-then-third-clause-none : goal.returns-then-third-clause-none
returns-then-third-clause-none g c =
    linked_none c.args.ram.now.registers c.args.at c.args.limit c.requires.from c.requires.first
    c.byte_at-third.result c.byte_at-third.ensures (omega (arith, c.if-limit-at-lt-END_BYTES.false)) c.if-third.true

pub returns-then-third-gt240-clause-some : goal.returns-then-third-gt240-clause-some
returns-then-third-gt240-clause-some g c =
    some_fits c.args.ram.now.registers c.args.at c.args.limit (c.from.result + 3) c.fitting.result c.fitting.ensures.some
    (label_there c.args.ram.now.registers c.args.at c.args.limit c.requires.from c.requires.first
    c.byte_at-third.result c.byte_at-third.ensures (omega (arith, c.if-limit-at-lt-END_BYTES.false))
    c.if-third-gt240.true (omega arith) (c.from.result + 3) (omega (arith, c.from.ensures)))

pub returns-then-third-gt240-clause-none : goal.returns-then-third-gt240-clause-none
returns-then-third-gt240-clause-none g c =
    none_fits c.args.ram.now.registers c.args.at c.args.limit (c.from.result + 3) c.fitting.result c.fitting.ensures.none
    (label_lacks c.args.ram.now.registers c.args.at c.args.limit c.requires.from c.requires.first
    c.byte_at-third.result c.byte_at-third.ensures (omega (arith, c.if-limit-at-lt-END_BYTES.false))
    c.if-third-gt240.true (c.from.result + 3) (omega (arith, c.from.ensures)))

pub returns-then-third-eq0-clause-some : goal.returns-then-third-eq0-clause-some
returns-then-third-eq0-clause-some g c =
    let own : c.byte_at-first.result < 256 = omega arith in
    let next : c.byte_at-second.result < 256 = omega arith in
    end_there c.args.ram.now.registers c.args.at c.args.limit c.requires.from c.requires.first
    c.byte_at-third.result c.byte_at-third.ensures (omega (arith, c.if-limit-at-lt-END_BYTES.false))
    (subst (λ (b : ℕ). b < 256) c.byte_at-first.ensures own) (subst (λ (b : ℕ). b < 256) c.byte_at-second.ensures next)
    (omega arith) (omega (arith, c.if-third.false, c.if-third-gt240.false)) c.if-third-eq0.true

pub returns-clause-some : goal.returns-clause-some
returns-clause-some g c =
    let own : c.byte_at-first.result < 256 = omega arith in
    let next : c.byte_at-second.result < 256 = omega arith in
    final_there c.args.ram.now.registers c.args.at c.args.limit c.requires.from c.requires.first
    c.byte_at-third.result c.byte_at-third.ensures (omega (arith, c.if-limit-at-lt-END_BYTES.false))
    (subst (λ (b : ℕ). b < 256) c.byte_at-first.ensures own) (subst (λ (b : ℕ). b < 256) c.byte_at-second.ensures next)
    (omega arith) (omega (arith, c.if-third.false, c.if-third-gt240.false)) c.if-third-eq0.false
