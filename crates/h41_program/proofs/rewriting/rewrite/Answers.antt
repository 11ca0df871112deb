use Rattle.std.proofs.Common.{◌≡◌, length, ap, sym, ◌∙◌, arith}
use Rattle.h41_ram.specs.RamState.{RamState}
use Rattle.h41_ram.specs.RegisterMap.{RegisterMap, register_at, c_of, with_three_places}
use Rattle.h41_program.specs.Rewriting.{rewritten_register, end_after}
use Rattle.h41_program.proofs.Mains.{listed_main, both_written}
use Rattle.h41_program.proofs.rewriting.rewrite.Goals as goal

pub returns-clause-change : goal.returns-clause-change
returns-clause-change g c =
    let memory = c.args.ram.now.registers in
    let bytes = c.args.bytes.now in
    let main_is = ap (λ (ram : RamState). ram.registers) c.set_main_memory.ensures.main in
    let long : length c.loop-index.register-items ≡ length memory.main =
    ap (λ (m : RegisterMap). length m.main) (sym main_is) ∙ c.set_main_memory.ensures.memory.main
    ∙ sym c.requires.memory.main in
    let main = listed_main (rewritten_register memory bytes) memory.main c.loop-index.register-items long
    (λ k inside. c.loop-index.invariant k (omega (arith, inside, long, c.requires.memory.main))) in
    let end : c.args.end ≡ end_after memory bytes = omega (arith, c.requires.place.size, c.requires.place.order) in
    let status : c.status.result ≡ c_of memory = c.status.ensures ∙ ap (register_at memory) c.from.ensures in
    let c_is : c.with_address-c.result ≡ with_three_places (c_of memory) 0 (end_after memory bytes) =
    c.with_address-c.ensures ∙ ap (λ r. with_three_places r 0 c.args.end) status ∙ ap (with_three_places (c_of memory) 0) end in
    both_written memory c.write.new.self.registers c.set_main_memory.new.self.registers c.with_address-c.result
    (with_three_places (c_of memory) 0 (end_after memory bytes)) c.loop-index.register-items _
    (ap (λ (ram : RamState). ram.registers) c.write.ensures.written) main_is c_is main
