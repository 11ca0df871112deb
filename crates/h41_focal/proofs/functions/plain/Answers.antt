use Rattle.h41_focal.proofs.LinesTaken.{plain_taken}
use Rattle.h41_positions.specs.LabelledMachine.{machine_of}
use Rattle.h41_focal.proofs.functions.plain.Goals as goal
use Rattle.std.proofs.Common.{Ok}

pub returns-in-OfYAndX : goal.returns-in-OfYAndX
returns-in-OfYAndX g c =
    record {
      taken =
          plain_taken c.args.pages.now c.args.origin c.args.function c.in-Some.work
          (machine_of c.args.machine.now) (machine_of c.of_y_and_x.new.machine) (Ok c.of_y_and_x.result)
          (let row = c.work_of.ensures in rw c.in-Some.is at row) (rw c.in-OfYAndX.is (c.of_y_and_x.ensures.done 0 c.args.pages.now));
      unchanged = tt;
      keeps = c.of_y_and_x.ensures.keeps;
    }

pub returns-in-OfX : goal.returns-in-OfX
returns-in-OfX g c =
    record {
      taken =
          plain_taken c.args.pages.now c.args.origin c.args.function c.in-Some.work
          (machine_of c.args.machine.now) (machine_of c.of_x.new.machine) (Ok c.of_x.result)
          (let row = c.work_of.ensures in rw c.in-Some.is at row) (rw c.in-OfX.is (c.of_x.ensures.done 0 c.args.pages.now));
      unchanged = tt;
      keeps = c.of_x.ensures.keeps;
    }

pub returns-in-Square : goal.returns-in-Square
returns-in-Square g c =
    record {
      taken =
          plain_taken c.args.pages.now c.args.origin c.args.function c.in-Some.work
          (machine_of c.args.machine.now) (machine_of c.square.new.machine) (Ok c.square.result)
          (let row = c.work_of.ensures in rw c.in-Some.is at row) (rw c.in-Square.is (c.square.ensures.done 0 c.args.pages.now));
      unchanged = tt;
      keeps = c.square.ensures.keeps;
    }

pub returns-in-Percent : goal.returns-in-Percent
returns-in-Percent g c =
    record {
      taken =
          plain_taken c.args.pages.now c.args.origin c.args.function c.in-Some.work
          (machine_of c.args.machine.now) (machine_of c.percent.new.machine) (Ok c.percent.result)
          (let row = c.work_of.ensures in rw c.in-Some.is at row) (rw c.in-Percent.is (c.percent.ensures.done 0 c.args.pages.now));
      unchanged = tt;
      keeps = c.percent.ensures.keeps;
    }

pub returns-in-ChangeSign : goal.returns-in-ChangeSign
returns-in-ChangeSign g c =
    record {
      taken =
          plain_taken c.args.pages.now c.args.origin c.args.function c.in-Some.work
          (machine_of c.args.machine.now) (machine_of c.change_sign.new.machine) (Ok c.change_sign.result)
          (let row = c.work_of.ensures in rw c.in-Some.is at row) (rw c.in-ChangeSign.is (c.change_sign.ensures.done 0 c.args.pages.now));
      unchanged = tt;
      keeps = c.change_sign.ensures.keeps;
    }

pub returns-in-Ask : goal.returns-in-Ask
returns-in-Ask g c =
    record {
      taken =
          plain_taken c.args.pages.now c.args.origin c.args.function c.in-Some.work
          (machine_of c.args.machine.now) (machine_of c.ask.new.machine) c.ask.result
          (let row = c.work_of.ensures in rw c.in-Some.is at row) (rw c.in-Ask.is (c.ask.ensures.carried 0));
      unchanged = c.ask.ensures.unchanged;
      keeps = c.ask.ensures.keeps;
    }

pub returns-in-Move : goal.returns-in-Move
returns-in-Move g c =
    record {
      taken =
          plain_taken c.args.pages.now c.args.origin c.args.function c.in-Some.work
          (machine_of c.args.machine.now) (machine_of c.move_stack.new.machine) (Ok c.move_stack.result)
          (let row = c.work_of.ensures in rw c.in-Some.is at row) (rw c.in-Move.is (c.move_stack.ensures.done 0 c.args.pages.now));
      unchanged = tt;
      keeps = c.move_stack.ensures.keeps;
    }

pub returns-in-Alpha : goal.returns-in-Alpha
returns-in-Alpha g c =
    record {
      taken =
          plain_taken c.args.pages.now c.args.origin c.args.function c.in-Some.work
          (machine_of c.args.machine.now) (machine_of c.change_alpha.new.machine) (Ok c.change_alpha.result)
          (let row = c.work_of.ensures in rw c.in-Some.is at row) (rw c.in-Alpha.is (c.change_alpha.ensures.done 0 c.args.pages.now));
      unchanged = tt;
      keeps = c.change_alpha.ensures.keeps;
    }

pub returns-in-Display : goal.returns-in-Display
returns-in-Display g c =
    record {
      taken =
          plain_taken c.args.pages.now c.args.origin c.args.function c.in-Some.work
          (machine_of c.args.machine.now) (machine_of c.show.new.machine) (Ok c.show.result)
          (let row = c.work_of.ensures in rw c.in-Some.is at row) (rw c.in-Display.is (c.show.ensures.done 0 c.args.pages.now));
      unchanged = tt;
      keeps = c.show.ensures.keeps;
    }

pub returns-in-Angles : goal.returns-in-Angles
returns-in-Angles g c =
    record {
      taken =
          plain_taken c.args.pages.now c.args.origin c.args.function c.in-Some.work
          (machine_of c.args.machine.now) (machine_of c.set_angle_unit.new.machine) (Ok c.set_angle_unit.result)
          (let row = c.work_of.ensures in rw c.in-Some.is at row) (rw c.in-Angles.is (c.set_angle_unit.ensures.done 0 c.args.pages.now));
      unchanged = tt;
      keeps = c.set_angle_unit.ensures.keeps;
    }

pub returns-in-ClearRegisters : goal.returns-in-ClearRegisters
returns-in-ClearRegisters g c =
    record {
      taken =
          plain_taken c.args.pages.now c.args.origin c.args.function c.in-Some.work
          (machine_of c.args.machine.now) (machine_of c.clear_registers.new.machine) (Ok c.clear_registers.result)
          (let row = c.work_of.ensures in rw c.in-Some.is at row)
          (rw c.in-ClearRegisters.is (c.clear_registers.ensures.done 0 c.args.pages.now));
      unchanged = tt;
      keeps = c.clear_registers.ensures.keeps;
    }

pub returns-in-Return : goal.returns-in-Return
returns-in-Return g c =
    record {
      taken =
          plain_taken c.args.pages.now c.args.origin c.args.function c.in-Some.work
          (machine_of c.args.machine.now) (machine_of c.go_back.new.machine) (Ok c.go_back.result)
          (let row = c.work_of.ensures in rw c.in-Some.is at row) (rw c.in-Return.is (c.go_back.ensures.done 0));
      unchanged = tt;
      keeps = c.go_back.ensures.keeps;
    }

pub returns-in-Nothing : goal.returns-in-Nothing
returns-in-Nothing g c =
    record {
      taken =
          plain_taken c.args.pages.now c.args.origin c.args.function c.in-Some.work
          (machine_of c.args.machine.now) (machine_of c.do_nothing.new.machine) (Ok c.do_nothing.result)
          (let row = c.work_of.ensures in rw c.in-Some.is at row) (rw c.in-Nothing.is (c.do_nothing.ensures.done 0 c.args.pages.now));
      unchanged = tt;
      keeps = c.do_nothing.ensures.keeps;
    }
