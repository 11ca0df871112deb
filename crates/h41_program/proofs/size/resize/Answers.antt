use Rattle.std.proofs.Common.{◌≡◌, ◌-◌, length, ap, sym, ◌∙◌, arith}
use Rattle.h41_ram.specs.RamState.{RamState}
use Rattle.h41_ram.specs.RegisterMap.{RegisterMap, top_of}
use Rattle.h41_program.specs.Size.{resized_register, resized_c}
use Rattle.h41_program.proofs.Mains.{listed_main, both_written}
use Rattle.h41_program.proofs.size.resize.Goals as goal

pub returns-clause-change : goal.returns-clause-change
returns-clause-change g c =
    let memory = c.args.ram.now.registers in
    let size = top_of memory - c.args.curtain in
    let main_is = ap (λ (ram : RamState). ram.registers) c.set_main_memory.ensures.main in
    let long : length c.loop-index.register-items ≡ length memory.main =
    ap (λ (m : RegisterMap). length m.main) (sym main_is) ∙ c.set_main_memory.ensures.memory.main
    ∙ sym c.requires.memory.main in
    let main = listed_main (resized_register memory size) memory.main c.loop-index.register-items long
    (λ k inside. c.loop-index.invariant k (omega (arith, inside, long, c.requires.memory.main))) in
    both_written memory c.write.new.self.registers c.set_main_memory.new.self.registers
    c.moved_addresses-c.result (resized_c memory size) c.loop-index.register-items _
    (ap (λ (ram : RamState). ram.registers) c.write.ensures.written) main_is c.moved_addresses-c.ensures main
