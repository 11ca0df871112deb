use Rattle.std.proofs.Common.{refl}
use Rattle.h41_rows.proofs.StatusWrites.{none_written, written}
use Rattle.h41_rows.proofs.stack.clear_stack.Goals as goal

pub returns : goal.returns
returns g c =
    let t = written {register = c.args.register} 0 (none_written c.args.ram.now) c.set_status_register.ensures.written
    c.set_status_register.ensures.mark refl refl in
    let z = written {register = c.args.register} 1 t c.set_status_register-2.ensures.written
    c.set_status_register-2.ensures.mark refl refl in
    let y = written {register = c.args.register} 2 z c.set_status_register-3.ensures.written
    c.set_status_register-3.ensures.mark refl refl in
    let x = written {register = c.args.register} 3 y c.set_status_register-4.ensures.written
    c.set_status_register-4.ensures.mark refl refl in
    record { change = λ named. x.registers; mark = x.passed.keeps; left = x.passed.left }
