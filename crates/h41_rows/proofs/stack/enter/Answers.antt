use Rattle.std.proofs.Common.{refl}
use Rattle.h41_rows.proofs.StatusWrites.{none_written, written}
use Rattle.h41_rows.proofs.stack.enter.Goals as goal

pub returns : goal.returns
returns g c =
    let t = written 0 (none_written c.args.ram.now) c.set_status_register.ensures.written
    c.set_status_register.ensures.mark c.status_register-z.ensures refl in
    let z = written 1 t c.set_status_register-2.ensures.written c.set_status_register-2.ensures.mark c.status_register-y.ensures refl in
    let y = written 2 z c.set_status_register-3.ensures.written c.set_status_register-3.ensures.mark c.status_register-x.ensures refl in
    record { change = λ register named. y.registers; mark = y.passed.keeps; left = y.passed.left }
