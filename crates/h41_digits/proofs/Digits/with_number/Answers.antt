use Rattle.std.proofs.Common.{◌<◌, ◌^◌, ap, arith, refl, sym, subst, ◌∙◌, ◌-◌, ◌+◌, take, drop}
use Rattle.h41_digits.specs.Register.{value}
use Rattle.h41_digits.proofs.Packed.{bits_of_places, is_register, register-digits_of}
use Rattle.h41_digits.specs.Packed.{digits_of}
use Rattle.h41_digits.proofs.Parts.{all_read, none_above, put_number, spliced-middle, spliced-below, spliced-above}
use Rattle.h41_digits.proofs.Digits.with_number.Goals as goal

pub invariant_of-result : goal.invariant_of-result
invariant_of-result g c = (c.self.invariant.0, subst (λ n. c.args.number < 16 ^ n) c.if-hi-lo.true c.requires.fits)

pub returns-then-hi-lo-clause-number : goal.returns-then-hi-lo-clause-number
returns-then-hi-lo-clause-number g c =
    sym (all_read g.row.N c.args.number c.args.lo c.args.hi (digits_of g.row.N c.args.number)
    refl (subst (λ n. c.args.number < 16 ^ n) c.if-hi-lo.true c.requires.fits)
    (c.requires.ordered, c.requires.in_register, c.if-hi-lo.true))

pub returns-then-hi-lo-clause-above : goal.returns-then-hi-lo-clause-above
returns-then-hi-lo-clause-above g c =
    none_above g.row.N c.args.lo c.args.hi (digits_of g.row.N c.args.number) c.args.self.now (register-digits_of g.row.N c.args.number)
    (is_register g.row.N c.self.inside.word c.args.self.now c.self.view_is c.self.invariant.1).0
    (c.requires.ordered, c.requires.in_register, c.if-hi-lo.true)

pub returns-then-hi-lo-clause-from : goal.returns-then-hi-lo-clause-from
returns-then-hi-lo-clause-from g c = (is_register g.row.N c.self.inside.word c.args.self.now c.self.view_is c.self.invariant.1).0

pub returns-then-hi-lo-clause-register : goal.returns-then-hi-lo-clause-register
returns-then-hi-lo-clause-register g c = register-digits_of g.row.N c.args.number

pub with_bits-requires-clause-fits : goal.with_bits-requires-clause-fits
with_bits-requires-clause-fits g c = rw bits_of_places c.requires.fits

pub invariant_of-result-2 : goal.invariant_of-result-2
invariant_of-result-2 g c = (
  c.self.invariant.0,
  (put_number g.row.N c.self.inside.word c.with_bits.result c.args.lo c.args.hi c.args.number c.args.self.now
      c.self.view_is c.self.invariant.1 c.requires.ordered c.requires.in_register c.requires.fits c.with_bits.ensures).1,
)

pub returns-clause-number : goal.returns-clause-number
returns-clause-number g c =
    let put =
    put_number g.row.N c.self.inside.word c.with_bits.result c.args.lo c.args.hi c.args.number c.args.self.now
    c.self.view_is c.self.invariant.1 c.requires.ordered c.requires.in_register c.requires.fits c.with_bits.ensures in
    let size = (is_register g.row.N c.self.inside.word c.args.self.now c.self.view_is c.self.invariant.1).0.size in
    ap (λ d. value (take (c.args.hi + 1 - c.args.lo) (drop c.args.lo d))) put.0
    ∙ spliced-middle c.args.self.now c.args.lo c.args.hi c.args.number
    (omega (arith, size, c.requires.ordered, c.requires.in_register)) c.requires.fits

pub returns-clause-below : goal.returns-clause-below
returns-clause-below g c =
    let put =
    put_number g.row.N c.self.inside.word c.with_bits.result c.args.lo c.args.hi c.args.number c.args.self.now
    c.self.view_is c.self.invariant.1 c.requires.ordered c.requires.in_register c.requires.fits c.with_bits.ensures in
    let size = (is_register g.row.N c.self.inside.word c.args.self.now c.self.view_is c.self.invariant.1).0.size in
    ap (take c.args.lo) put.0
    ∙ spliced-below c.args.self.now c.args.lo c.args.hi c.args.number (omega (arith, size, c.requires.ordered, c.requires.in_register))

pub returns-clause-above : goal.returns-clause-above
returns-clause-above g c =
    let put =
    put_number g.row.N c.self.inside.word c.with_bits.result c.args.lo c.args.hi c.args.number c.args.self.now
    c.self.view_is c.self.invariant.1 c.requires.ordered c.requires.in_register c.requires.fits c.with_bits.ensures in
    let size = (is_register g.row.N c.self.inside.word c.args.self.now c.self.view_is c.self.invariant.1).0.size in
    ap (drop (c.args.hi + 1)) put.0
    ∙ spliced-above c.args.self.now c.args.lo c.args.hi c.args.number c.requires.ordered
    (omega (arith, size, c.requires.ordered, c.requires.in_register))

pub returns-clause-from : goal.returns-clause-from
returns-clause-from g c = (is_register g.row.N c.self.inside.word c.args.self.now c.self.view_is c.self.invariant.1).0

pub returns-clause-register : goal.returns-clause-register
returns-clause-register g c = register-digits_of g.row.N c.with_bits.result
