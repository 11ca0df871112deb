use Rattle.std.proofs.Common.{◌≡◌, ℕ, List, ◌+◌, ◌-◌, ◌%◌, ◌/◌, ◌≤◌, ap, ◌∙◌, arith}
use Rattle.h41_digits.specs.Register.{byte_at}
use Rattle.h41_ram.specs.RegisterMap.{curtain_of, register_at}
use Rattle.h41_program.specs.declared.reading.ByteReader.{ByteReader}
use Rattle.h41_program.specs.private.Reading.{register_holding}
use Rattle.h41_program.proofs.reading.ByteReader.read.Goals as goal
use Rattle.h41_program.proofs.reading.ByteReader.read.Goals.{then-self-eq0, else-self-eq0}

-- The register of a position, and the number of its bytes that are left.
record IsHeld (register expected : List ℕ) (left position : ℕ) : Type 0 where
  pub own : register ≡ expected
  pub few : left ≤ 7
  pub some : 1 ≤ left
  pub ends : (position + left) % 7 ≡ 0

pub returns : goal.returns
returns g c =
    let memory = c.args.ram.now.registers in
    let position = c.args.position in
    let register = c.if-self-eq0.self.register in
    let left = c.if-self-eq0.self.left in
    let before = c.requires.stands in
    let held : IsHeld register (register_holding memory position) left position = elim c.if-self-eq0.branch [
      | then-self-eq0 w ↦
          let taken = ap (λ (reader : ByteReader). reader.left) w.self-is in record {
            own = ap (λ (reader : ByteReader). reader.register) w.self-is ∙ w.register_holding-self.ensures;
            few = omega (arith, taken);
            some = omega (arith, taken);
            ends = omega (arith, taken, w.if-self-eq0.true, before.ends);
          }
      | else-self-eq0 w ↦
          let kept = ap (λ (reader : ByteReader). reader.left) w.self-is in record {
            own = ap (λ (reader : ByteReader). reader.register) w.self-is ∙ before.held (omega (arith, w.if-self-eq0.false));
            few = omega (arith, kept, before.few);
            some = omega (arith, kept, w.if-self-eq0.false);
            ends = omega (arith, kept, before.ends);
          }
    ] in
    let at : left - 1 ≡ 6 - position % 7 = omega (arith, held.few, held.some, held.ends) in
    record {
      byte = c.byte.ensures.byte ∙ ap (byte_at register) (c.from.ensures ∙ at) ∙ ap (λ (r : List ℕ). byte_at r (6 - position % 7)) held.own;
      onward = record {
        few = omega (arith, held.few);
        ends = omega (arith, held.some, held.ends);
        held = λ inside.
            let same : position / 7 ≡ (position + 1) / 7 = omega (arith, inside, held.few, held.some, held.ends) in
            held.own ∙ ap (λ (below : ℕ). register_at memory (curtain_of memory - 1 - below)) same;
      };
    }
