use Rattle.std.proofs.Common.{ℕ, List, ap, ◌∙◌, subst}
use Rattle.h41_digits.specs.Register.{IsRegister}
use Rattle.h41_ram.specs.RegisterMap.{register_at}
use Rattle.h41_program.proofs.PlacesBehind.{final_begins}
use Rattle.h41_program.proofs.reading.final_place.Goals as goal

pub returns : goal.returns
returns g c =
    let memory = c.args.ram.now.registers in
    final_begins memory c.args.last c.requires.sound
    (subst (λ (r : List ℕ). IsRegister 14 r) (c.read.ensures ∙ ap (register_at memory) c.end_register.ensures)
    c.to_u64-digits.ensures.register) c.requires.last
