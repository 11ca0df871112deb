use Rattle.std.proofs.Common.{Ok}
use Rattle.h41_focal.proofs.LinesTaken.{plain_taken}
use Rattle.h41_positions.specs.LabelledMachine.{machine_of}
use Rattle.h41_focal.specs.declared.works.FunctionWork.TheVariants.{Move, OfX, OfYAndX, Return}
use Rattle.h41_focal.proofs.functions.plain_at_once.Goals as goal

pub returns-in-Some-OfYAndX : goal.returns-in-Some-OfYAndX
returns-in-Some-OfYAndX g c =
    record {
      taken =
          plain_taken c.args.pages.now c.args.origin c.args.function (OfYAndX c.in-Some-OfYAndX.value)
          (machine_of c.args.machine.now) (machine_of c.of_y_and_x.new.machine)
          (Ok c.of_y_and_x.result)
          (let row = c.work_of.ensures in rw (c.in-Some-OfYAndX.is, c.in-Some-OfYAndX.field-0-is) at row)
          (c.of_y_and_x.ensures.done 0 c.args.pages.now);
      unchanged = tt;
      keeps = c.of_y_and_x.ensures.keeps;
    }

pub returns-in-Some-Move : goal.returns-in-Some-Move
returns-in-Some-Move g c =
    record {
      taken =
          plain_taken c.args.pages.now c.args.origin c.args.function (Move c.in-Some-Move.movement)
          (machine_of c.args.machine.now) (machine_of c.move_stack.new.machine)
          (Ok c.move_stack.result)
          (let row = c.work_of.ensures in rw (c.in-Some-Move.is, c.in-Some-Move.field-0-is) at row)
          (c.move_stack.ensures.done 0 c.args.pages.now);
      unchanged = tt;
      keeps = c.move_stack.ensures.keeps;
    }

pub returns-in-Some-OfX : goal.returns-in-Some-OfX
returns-in-Some-OfX g c =
    record {
      taken =
          plain_taken c.args.pages.now c.args.origin c.args.function (OfX c.in-Some-OfX.value)
          (machine_of c.args.machine.now) (machine_of c.of_x.new.machine)
          (Ok c.of_x.result)
          (let row = c.work_of.ensures in rw (c.in-Some-OfX.is, c.in-Some-OfX.field-0-is) at row)
          (c.of_x.ensures.done 0 c.args.pages.now);
      unchanged = tt;
      keeps = c.of_x.ensures.keeps;
    }

pub returns-in-Some-Return : goal.returns-in-Some-Return
returns-in-Some-Return g c =
    record {
      taken =
          plain_taken c.args.pages.now c.args.origin c.args.function Return
          (machine_of c.args.machine.now) (machine_of c.go_back.new.machine) (Ok c.go_back.result)
          (let row = c.work_of.ensures in rw (c.in-Some-Return.is, c.in-Some-Return.field-0-is) at row) (c.go_back.ensures.done 0);
      unchanged = tt;
      keeps = c.go_back.ensures.keeps;
    }
