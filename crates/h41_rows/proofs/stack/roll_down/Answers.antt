use Rattle.std.proofs.Common.{refl}
use Rattle.h41_rows.proofs.StatusWrites.{none_written, written}
use Rattle.h41_rows.proofs.stack.roll_down.Goals as goal

pub returns : goal.returns
returns g c =
    let x = written 3 (none_written c.args.ram.now) c.set_status_register.ensures.written
    c.set_status_register.ensures.mark c.status_register-y.ensures refl in
    let y = written 2 x c.set_status_register-2.ensures.written c.set_status_register-2.ensures.mark c.status_register-z.ensures refl in
    let z = written 1 y c.set_status_register-3.ensures.written c.set_status_register-3.ensures.mark c.status_register-t.ensures refl in
    let t = written 0 z c.set_status_register-4.ensures.written c.set_status_register-4.ensures.mark c.status_register-x.ensures refl in
    record { change = λ register named. t.registers; mark = t.passed.keeps; left = t.passed.left }
