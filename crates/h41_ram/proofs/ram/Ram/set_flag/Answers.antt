use Rattle.std.proofs.Common.{◌-◌}
use Rattle.h41_ram.specs.RegisterMap.{d_of, with_bit}
use Rattle.h41_ram.proofs.Writes.{flag_written, written_keeps, end_above}
use Rattle.h41_ram.proofs.ram.Ram.set_flag.Goals as goal

pub returns-clause-written : goal.returns-clause-written
returns-clause-written g c =
    flag_written c.args.self.now (record { status = c.self.inside.status; main = c.self.inside.main }) c.self.inside.parts
    c.touch_status.new.self c.args.flag c.args.on c.with_bit.result c.index-self-14.result c.self.view_is
    c.self.invariant.0.status c.self.invariant.1.curtain c.self.invariant.1.end c.touch_status.ensures c.with_bit.ensures

pub returns-clause-mark : goal.returns-clause-mark
returns-clause-mark g c =
    rw (returns-clause-written g c)
    (written_keeps c.args.self.now 14 (with_bit (d_of c.args.self.now.registers) (55 - c.args.flag) c.args.on))

pub touch_status-requires-clause-above : goal.touch_status-requires-clause-above
touch_status-requires-clause-above g c =
    end_above _ (record { status = c.self.inside.status; main = c.self.inside.main }) c.self.inside.parts c.self.invariant
