use Rattle.std.proofs.Common.{refl}
use Rattle.h41_rows.proofs.StatusWrites.{none_written, written}
use Rattle.h41_rows.proofs.stack.keep_last.Goals as goal

pub returns : goal.returns
returns g c =
    let x = written {register = c.args.register} 3 (none_written c.args.ram.now) c.set_status_register.ensures.written
    c.set_status_register.ensures.mark refl refl in
    let last = written 4 x c.set_status_register-2.ensures.written c.set_status_register-2.ensures.mark c.status_register-x.ensures refl in
    record { change = λ named. last.registers; mark = last.passed.keeps; left = last.passed.left }
