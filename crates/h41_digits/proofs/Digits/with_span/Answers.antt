use Rattle.std.proofs.Common.{ap, arith, ◌∙◌, ◌+◌, take, drop}
use Rattle.h41_digits.specs.Register.{value_between}
use Rattle.h41_digits.specs.Spans.{in_places}
use Rattle.h41_digits.proofs.Packed.{is_register, register-digits_of}
use Rattle.h41_digits.proofs.Parts.{spliced-middle, spliced-below, spliced-above}
use Rattle.h41_digits.proofs.Spans.{put_span, in_places-lt}
use Rattle.h41_digits.proofs.Digits.with_span.Goals as goal

pub invariant_of-result : goal.invariant_of-result
invariant_of-result g c =
    let span = c.args.span in (
      c.self.invariant.0,
      (put_span g.row.N c.self.inside.word c.args.word span.lo span.hi span.mask c.args.self.now
          c.self.view_is c.self.invariant.1 c.self.invariant.0 span.ordered c.requires span.weights).1,
    )

pub returns-clause-number : goal.returns-clause-number
returns-clause-number g c =
    let span = c.args.span in
    let put =
    put_span g.row.N c.self.inside.word c.args.word span.lo span.hi span.mask c.args.self.now
    c.self.view_is c.self.invariant.1 c.self.invariant.0 span.ordered c.requires span.weights in
    let size = (is_register g.row.N c.self.inside.word c.args.self.now c.self.view_is c.self.invariant.1).0.size in
    ap (λ d. value_between d span.lo span.hi) put.0
    ∙ spliced-middle c.args.self.now span.lo span.hi (in_places c.args.word span.lo span.hi)
    (omega (arith, size, span.ordered, c.requires)) (in_places-lt c.args.word span.lo span.hi)

pub returns-clause-below : goal.returns-clause-below
returns-clause-below g c =
    let span = c.args.span in
    let put =
    put_span g.row.N c.self.inside.word c.args.word span.lo span.hi span.mask c.args.self.now
    c.self.view_is c.self.invariant.1 c.self.invariant.0 span.ordered c.requires span.weights in
    let size = (is_register g.row.N c.self.inside.word c.args.self.now c.self.view_is c.self.invariant.1).0.size in
    ap (take span.lo) put.0
    ∙ spliced-below c.args.self.now span.lo span.hi (in_places c.args.word span.lo span.hi) (omega (arith, size, span.ordered, c.requires))

pub returns-clause-above : goal.returns-clause-above
returns-clause-above g c =
    let span = c.args.span in
    let put =
    put_span g.row.N c.self.inside.word c.args.word span.lo span.hi span.mask c.args.self.now
    c.self.view_is c.self.invariant.1 c.self.invariant.0 span.ordered c.requires span.weights in
    let size = (is_register g.row.N c.self.inside.word c.args.self.now c.self.view_is c.self.invariant.1).0.size in
    ap (drop (span.hi + 1)) put.0
    ∙ spliced-above c.args.self.now span.lo span.hi (in_places c.args.word span.lo span.hi)
    span.ordered (omega (arith, size, span.ordered, c.requires))

pub returns-clause-from : goal.returns-clause-from
returns-clause-from g c = (is_register g.row.N c.self.inside.word c.args.self.now c.self.view_is c.self.invariant.1).0

pub returns-clause-register : goal.returns-clause-register
returns-clause-register g c = register-digits_of g.row.N _
