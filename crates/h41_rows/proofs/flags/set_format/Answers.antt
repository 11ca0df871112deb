use Rattle.std.specs.Prelude.{◌/◌, ◌%◌, ◌==◌}
use Rattle.h41_ram.specs.NamedFlags as named
use Rattle.h41_rows.proofs.StatusWrites.{none_written, flag_written}
use Rattle.h41_rows.proofs.flags.set_format.Goals as goal

pub returns : goal.returns
returns g c =
    let eights = flag_written named.digits_8 (c.args.digits / 8 % 2 == 1) (none_written c.args.ram.now) c.set_flag.ensures.written
    c.set_flag.ensures.mark in
    let fours = flag_written named.digits_4 (c.args.digits / 4 % 2 == 1) eights c.set_flag-2.ensures.written c.set_flag-2.ensures.mark in
    let twos = flag_written named.digits_2 (c.args.digits / 2 % 2 == 1) fours c.set_flag-3.ensures.written c.set_flag-3.ensures.mark in
    let ones = flag_written named.digits_1 (c.args.digits % 2 == 1) twos c.set_flag-4.ensures.written c.set_flag-4.ensures.mark in
    let fixed = flag_written named.fixed c.args.fixed ones c.set_flag-5.ensures.written c.set_flag-5.ensures.mark in
    let engineering = flag_written named.engineering c.args.engineering fixed c.set_flag-6.ensures.written c.set_flag-6.ensures.mark in
    record { change = engineering.registers; mark = engineering.passed.keeps; left = engineering.passed.left }
