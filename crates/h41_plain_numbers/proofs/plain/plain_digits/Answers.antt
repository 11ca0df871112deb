use Rattle.std.proofs.Common.{◌≡◌, ◌+◌, ◌-◌, rules, true, false, ap, refl, subst, sym, ◌∙◌, arith, inl, inr}
use Rattle.std.specs.Prelude.{ℕ, nat_lt}
use Rattle.std.proofs.lemmas.Bool.{ltb-true}
use Rattle.std.proofs.lemmas.Bool.Decides.{nat_tests}
use Rattle.std.proofs.lemmas.List.FromFn.{map-range_with_len_more}
use Rattle.h41_codes.specs.Heads.{BeginsKind, IsIn}
use Rattle.h41_codes.specs.declared.heads.Head.{Head}
use Rattle.h41_codes.specs.declared.heads.Head.TheVariants.{Number, OneByte, TwoBytes}
use Rattle.h41_program.specs.ProgramBytes.{program_byte}
use Rattle.h41_plain_numbers.specs.declared.plain.PlainDigits.{PlainDigits}
use Rattle.h41_plain_numbers.specs.private.PlainReading.{bytes_from, no_digits, with_code, with_codes}
use Rattle.h41_plain_numbers.proofs.PlainLines.{none_here, none_on}
use Rattle.h41_plain_numbers.proofs.PlainTexts.{codes_more}
use Rattle.h41_plain_numbers.proofs.plain.plain_digits.Goals as goal

-- The byte of a number.
number : {byte : ℕ} {head : Head} → head ≡ Number → BeginsKind byte head → IsIn 0x10 0x1D byte
number {byte = byte} is begins = subst (BeginsKind byte) is begins

-- A byte of another kind is not one of a number.
other : (byte : ℕ) (head : Head) → BeginsKind byte head → (head ≡ Number → ⊥) → IsIn 0x10 0x1D byte → ⊥
other byte OneByte (inl low) not on = omega (arith, low, on.0)
other byte OneByte (inr high) not on = omega (arith, high.0, on.1)
other byte Number begins not on = not refl
other byte TwoBytes (inl one) not on = omega (arith, one.0, on.1)
other byte TwoBytes (inr (inl one)) not on = omega (arith, one.0, on.1)
other byte TwoBytes (inr (inr one)) not on = omega (arith, one.0, on.1)
other byte head begins not on = omega (arith, begins.0, on.1)

pub loop-position-preserved : goal.loop-position-preserved
loop-position-preserved g c =
    let memory = c.args.ram.now.registers in
    let at = c.args.at in
    let position = c.loop-position.position in
    let before = c.loop-position.invariant in
    let byte = c.read-byte.ensures.byte in
    let seen = bytes_from memory at (position - at) in
    let here : at + (position - at) ≡ position = omega arith in
    let next : position + 1 - at ≡ position - at + 1 = omega arith in
    let more = map-range_with_len_more (program_byte memory) at (position - at) position here in
    record {
      reads =
          c.read-digits.ensures.digits
          ∙ ap (λ (d : PlainDigits). with_code d c.read-byte.result) before.reads
          ∙ ap (with_code (with_codes no_digits seen)) byte
          ∙ sym (codes_more no_digits seen (program_byte memory position))
          ∙ sym (ap (with_codes no_digits) (ap (bytes_from memory at) next ∙ more));
      each = λ k from below.
          elim (nat_lt k position) as (λ sooner. nat_lt k position ≡ sooner → IsIn 0x10 0x1B (program_byte memory k)) [
            | true ↦ λ is. before.each k from (ltb-true k position is)
            | false ↦ λ is.
                let same : k ≡ position = grind (arith, nat_tests) in
                rw (same, ← byte) ((number c.in-Number.is c.head_of.ensures.kind).0, omega (arith, c.if-byte-gt-RADIX_MARK.false))
          ] refl;
      count = c.read-digits.ensures.few;
      size = omega (arith, before.size, c.read-digits.ensures.more);
      below = c.read-digits.ensures.below;
      places = c.read-digits.ensures.places;
      reader = c.read-byte.ensures.onward;
    }

pub returns-then-digits-eq0-clause-none : goal.returns-then-digits-eq0-clause-none
returns-then-digits-eq0-clause-none g c =
    let before = c.loop-position.invariant in
    let byte = c.read-byte.ensures.byte in
    none_here c.args.ram.now.registers c.args.at c.args.last c.loop-position.position c.loop-position.digits (omega arith) before.each
    before.reads (omega (arith, c.if-digits-eq0.true))
    (λ on. other c.read-byte.result c.head_of.result c.head_of.ensures.kind c.in_default.not-Number
    (omega (arith, byte, on.0), omega (arith, byte, on.1)))

pub returns-then-byte-gt-RADIX_MARK-clause-none : goal.returns-then-byte-gt-RADIX_MARK-clause-none
returns-then-byte-gt-RADIX_MARK-clause-none g c =
    let before = c.loop-position.invariant in
    let byte = c.read-byte.ensures.byte in
    none_on c.args.ram.now.registers c.args.at c.args.last c.loop-position.position c.loop-position.digits (omega arith) before.each
    before.reads (rw (← byte) (number c.in-Number.is c.head_of.ensures.kind))
    (λ low. absurd (omega (arith, byte, low, c.if-byte-gt-RADIX_MARK.true)))

pub returns-then-byte-lt-RADIX_MARK-clause-none : goal.returns-then-byte-lt-RADIX_MARK-clause-none
returns-then-byte-lt-RADIX_MARK-clause-none g c =
    let before = c.loop-position.invariant in
    let byte = c.read-byte.ensures.byte in
    none_on c.args.ram.now.registers c.args.at c.args.last c.loop-position.position c.loop-position.digits (omega arith) before.each
    before.reads (rw (← byte) (number c.in-Number.is c.head_of.ensures.kind))
    (λ low. (omega (arith, byte, c.if-byte-lt-RADIX_MARK.true), omega (arith, c.if-digits-eq-MANTISSA_DIGITS.true)))

pub returns-in_default : goal.returns-in_default
returns-in_default g c = record {
  some = record {
    some = search rules;
    most = search rules;
    inside = search rules;
    each = c.loop-position.invariant.each;
    reads = c.loop-position.invariant.reads;
    some_digit = search rules;
    few = c.loop-position.invariant.count;
    places = c.loop-position.invariant.places;
    own = c.read-byte.ensures.byte;
    other = other c.read-byte.result c.head_of.result c.head_of.ensures.kind c.in_default.not-Number;
  };
  none = tt;
}
