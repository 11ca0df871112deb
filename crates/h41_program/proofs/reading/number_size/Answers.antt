use Rattle.std.proofs.Common.{◌≡◌, ◌-◌, ◌+◌, ℕ, true, false, arith, refl, subst, ap, ◌∙◌, sym, inl, inr}
use Rattle.std.specs.Prelude.{nat_lt}
use Rattle.std.proofs.lemmas.Bool.{ltb-true}
use Rattle.std.proofs.lemmas.Bool.Decides.{nat_tests}
use Rattle.h41_codes.specs.Heads.{IsIn, BeginsKind}
use Rattle.h41_codes.specs.declared.heads.Head.{Head}
use Rattle.h41_codes.specs.declared.heads.Head.TheVariants as heads
use Rattle.h41_program.specs.ProgramBytes.{program_byte}
use Rattle.h41_program.proofs.Places.{number_there}
use Rattle.h41_program.proofs.reading.number_size.Goals as goal

-- A byte that begins another kind of line is not a character of a number.
other : (first : ℕ) (head : Head) → BeginsKind first head → (head ≡ heads.Number → ⊥) → IsIn 0x10 0x1D first → ⊥
other first heads.OneByte (inl low) not on = omega (arith, low, on.0)
other first heads.OneByte (inr high) not on = omega (arith, high.0, on.1)
other first heads.Number kind not on = not refl
other first heads.TwoBytes (inl low) not on = omega (arith, low.0, on.1)
other first heads.TwoBytes (inr (inl middle)) not on = omega (arith, middle.0, on.1)
other first heads.TwoBytes (inr (inr high)) not on = omega (arith, high.0, on.1)
other first head kind not on = omega (arith, kind.0, on.1)

pub returns-in_default-clause-line : goal.returns-in_default-clause-line
returns-in_default-clause-line g c =
    let memory = c.args.ram.now.registers in
    let size = c.loop-position.position - c.args.at in
    let here : c.args.at + size ≡ c.loop-position.position = omega arith in
    number_there memory c.args.at c.args.limit size (omega arith) (omega arith) (omega arith)
    (λ k from below. c.loop-position.invariant k from (omega (arith, below, here)))
    (λ below on. absurd (
    other c.byte_at-byte.result c.head_of.result c.head_of.ensures.kind c.in_default.not-Number
    (subst (λ (b : ℕ). IsIn 0x10 0x1D b) (ap (program_byte memory) here ∙ sym c.byte_at-byte.ensures) on)))

pub returns-clause-line : goal.returns-clause-line
returns-clause-line g c =
    let memory = c.args.ram.now.registers in
    let size = c.min-most.result - c.args.at in
    number_there memory c.args.at c.args.limit size (omega arith) (omega arith) (omega arith)
    (λ k from below. c.loop-position.invariant k from (omega (arith, below)))
    (λ below on. omega (arith, below))

pub loop-position-preserved : goal.loop-position-preserved
loop-position-preserved g c = λ k from below.
    elim (nat_lt k c.loop-position.position) as (λ before. nat_lt k c.loop-position.position ≡ before
    → IsIn 0x10 0x1D (program_byte c.args.ram.now.registers k)) [
      | true ↦ λ is. c.loop-position.invariant k from (ltb-true k c.loop-position.position is)
      | false ↦ λ is.
          let here : k ≡ c.loop-position.position = grind (arith, nat_tests) in
          rw (here, ← c.byte_at-byte.ensures) c.in-Number.ensures.kind
    ] refl
