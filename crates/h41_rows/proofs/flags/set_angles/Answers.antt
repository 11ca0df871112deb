use Rattle.h41_ram.specs.NamedFlags as named
use Rattle.h41_rows.proofs.StatusWrites.{none_written, flag_written}
use Rattle.h41_rows.proofs.flags.set_angles.Goals as goal

pub returns : goal.returns
returns g c =
    let grads = flag_written named.grads c.args.grads (none_written c.args.ram.now) c.set_flag.ensures.written c.set_flag.ensures.mark in
    let radians = flag_written named.radians c.args.radians grads c.set_flag-2.ensures.written c.set_flag-2.ensures.mark in
    record { change = radians.registers; mark = radians.passed.keeps; left = radians.passed.left }
