use Rattle.h41_ram.proofs.Marks.{stays}
use Rattle.h41_ram.proofs.Writes.{written_keeps, status_written, end_above, status_kept, nothing_written}
use Rattle.h41_ram.specs.RegisterMap.{c_address}
use Rattle.h41_ram.proofs.ram.Ram.write.Goals as goal

pub returns-then-index-eq-C-clause-written : goal.returns-then-index-eq-C-clause-written
returns-then-index-eq-C-clause-written g c = rw (← c.from-index.ensures, c.if-index-eq-C.true) c.write_c.ensures

pub returns-then-index-eq-C-clause-mark : goal.returns-then-index-eq-C-clause-mark
returns-then-index-eq-C-clause-mark g c = rw c.write_c.ensures (written_keeps c.args.self.now c_address c.args.register)

pub returns-then-index-lt-STATUS_REGISTERS-clause-written :
    goal.returns-then-index-lt-STATUS_REGISTERS-clause-written
returns-then-index-lt-STATUS_REGISTERS-clause-written g c =
    status_written c.args.self.now (record { status = c.self.inside.status; main = c.self.inside.main }) c.self.inside.parts
    c.touch_status.new.self c.args.address c.from-index.result c.args.register c.self.view_is c.from-index.ensures
    c.if-index-lt-STATUS_REGISTERS.true c.if-index-eq-C.false c.self.invariant.1.curtain c.self.invariant.1.end c.touch_status.ensures

pub returns-then-index-lt-STATUS_REGISTERS-clause-mark :
    goal.returns-then-index-lt-STATUS_REGISTERS-clause-mark
returns-then-index-lt-STATUS_REGISTERS-clause-mark g c =
    rw (returns-then-index-lt-STATUS_REGISTERS-clause-written g c) (written_keeps c.args.self.now c.args.address c.args.register)

pub returns-then-index-ge-MAIN_START-clause-mark :
    goal.returns-then-index-ge-MAIN_START-clause-mark
returns-then-index-ge-MAIN_START-clause-mark g c = rw c.write_main.ensures (written_keeps c.args.self.now c.args.address c.args.register)

pub returns-else-index-ge-MAIN_START-clause-written :
    goal.returns-else-index-ge-MAIN_START-clause-written
returns-else-index-ge-MAIN_START-clause-written g c =
    nothing_written c.args.self.now c.args.address c.from-index.result c.args.register c.from-index.ensures
    c.if-index-lt-STATUS_REGISTERS.false c.if-index-ge-MAIN_START.false

pub returns-else-index-ge-MAIN_START-clause-mark :
    goal.returns-else-index-ge-MAIN_START-clause-mark
returns-else-index-ge-MAIN_START-clause-mark g c = stays c.args.self.now

pub touch_status-requires-clause-above : goal.touch_status-requires-clause-above
touch_status-requires-clause-above g c =
    end_above _ (record { status = c.self.inside.status; main = c.self.inside.main }) c.self.inside.parts c.self.invariant

pub invariant_of-self : goal.invariant_of-self
invariant_of-self g c =
    status_kept _ (record { status = c.self.inside.status; main = c.self.inside.main }) c.self.inside.parts
    c.touch_status.new.self c.from-index.result c.args.address c.args.register c.self.invariant c.if-index-eq-C.false
    c.touch_status.ensures
