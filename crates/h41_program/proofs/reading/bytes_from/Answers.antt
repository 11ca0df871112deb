use Rattle.std.proofs.Common.{◌≡◌, ◌+◌, ◌-◌, ◌/◌, ◌%◌, ◌∙◌, ap, arith}
use Rattle.h41_digits.specs.Register.{byte_of_two}
use Rattle.h41_ram.specs.RegisterMap.{curtain_of, register_at}
use Rattle.h41_program.proofs.NullBytes.{two_registers}
use Rattle.h41_program.proofs.Sound.{bounds}
use Rattle.h41_program.proofs.reading.bytes_from.Goals as goal

pub returns : goal.returns
returns g c k few inside =
    let memory = c.args.ram.now.registers in
    let at = c.args.at in
    let low = (bounds memory c.requires.sound).low in
    let skipped : c.from-skipped.result ≡ at % 7 = c.from-skipped.ensures ∙ c.bytes_before.ensures in
    let address : c.curtain.result - 1 - c.registers_before.result ≡ curtain_of memory - 1 - at / 7 =
    omega (arith, c.curtain.ensures.value, c.registers_before.ensures) in
    c.eight_bytes.ensures k few
    ∙ ap (λ n. byte_of_two c.read_main.result c.read_main-2.result (n + k)) skipped
    ∙ two_registers memory at k c.read_main.result c.read_main-2.result few (c.read_main.ensures ∙ ap (register_at memory) address)
    (λ behind.
    let there : c.max-below.result ≡ curtain_of memory - 1 - at / 7 - 1 =
    omega (arith, c.max-below.ensures, address, low, behind, inside) in
    c.read_main-2.ensures ∙ ap (register_at memory) there)
