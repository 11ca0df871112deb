use Rattle.std.proofs.Common.{Ok, subst, sym, ◌∙◌}
use Rattle.h41_codes.specs.declared.functions.RegisterFunction.TheVariants.{RecallRegister, StoreRegister}
use Rattle.h41_focal.proofs.Apart.{IsAt, data_found}
use Rattle.h41_focal.proofs.LinesTaken.{short_taken}
use Rattle.h41_positions.specs.LabelledMachine.{LabelledMachine, machine_of}
use Rattle.h41_rows.specs.Operands.{data_register}
use Rattle.h41_focal.proofs.lines.short.Goals as goal

pub returns-in-Ok-StoreRegister-clause-keeps : goal.returns-in-Ok-StoreRegister-clause-keeps
returns-in-Ok-StoreRegister-clause-keeps g c =
    record {
      mark = c.store.ensures.keeps.mark;
      labels = c.store.ensures.keeps.labels;
      left = λ sound.
          c.store.ensures.keeps.left
          (data_found c.args.machine.now.ram.registers sound c.from.result c.in-Ok-StoreRegister.address
          (subst
          (λ (machine : LabelledMachine). IsAt (data_register machine.ram.registers c.from.result) c.in-Ok-StoreRegister.address)
          c.machine.view_is (sym c.data_address.ensures ∙ c.in-Ok-StoreRegister.is-0)))
          sound;
    }

pub returns-in-Ok-RecallRegister-clause-taken : goal.returns-in-Ok-RecallRegister-clause-taken
returns-in-Ok-RecallRegister-clause-taken g c = λ pages.
    let found = subst
    (λ (machine : LabelledMachine). IsAt (data_register machine.ram.registers c.from.result) c.in-Ok-RecallRegister.address)
    c.machine.view_is (sym c.data_address.ensures ∙ c.in-Ok-RecallRegister.is-0) in
    let there = rw (c.from.ensures, c.number.ensures.value) at found in
    rw c.in-Ok-RecallRegister.is-1
    (short_taken pages c.args.origin RecallRegister c.args.register (Ok c.in-Ok-RecallRegister.address) (machine_of c.args.machine.now)
    (machine_of c.recall.new.machine) (Ok c.recall.result) (sym there) (c.recall.ensures.done pages))

pub returns-in-Ok-StoreRegister-clause-taken : goal.returns-in-Ok-StoreRegister-clause-taken
returns-in-Ok-StoreRegister-clause-taken g c = λ pages.
    let found = subst
    (λ (machine : LabelledMachine). IsAt (data_register machine.ram.registers c.from.result) c.in-Ok-StoreRegister.address)
    c.machine.view_is (sym c.data_address.ensures ∙ c.in-Ok-StoreRegister.is-0) in
    let there = rw (c.from.ensures, c.number.ensures.value) at found in
    rw c.in-Ok-StoreRegister.is-1
    (short_taken pages c.args.origin StoreRegister c.args.register (Ok c.in-Ok-StoreRegister.address) (machine_of c.args.machine.now)
    (machine_of c.store.new.machine) (Ok c.store.result) (sym there) (c.store.ensures.done pages))
