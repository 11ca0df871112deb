use Rattle.std.proofs.Common.{refl}
use Rattle.std.proofs.lemmas.Result.{err_from_is_err_and}
use Rattle.std.specs.Prelude.{Ok, Err}
use Rattle.h41_program.specs.Edits.{before_end, loaded_of}
use Rattle.h41_program.specs.declared.refusal.ProgramRefusal.TheVariants.{BrokenProgram}
use Rattle.h41_program.proofs.LoadSteps.{outcome_of, loads_behind, load_broken, load_refused, load_unwritten, load_written, load_bound}
use Rattle.h41_program.proofs.Outcomes.{load_sound}
use Rattle.h41_program.proofs.loading.load.Goals as goal

pub returns-in_err-packer-clause-lines : goal.returns-in_err-packer-clause-lines
returns-in_err-packer-clause-lines g c =
    let program = c.packed_program.ensures in
    let broken =
    load_broken c.args.ram.now.registers c.args.bytes.now c.packed_program.result (before_end program.0)
    c.in_err-packer.field-0.0 c.from_residual.result program.2 c.in_err-packer.was
    (let p = err_from_is_err_and c.from_residual.result c.from_residual.ensures.1 in rw (p.1, p.2) refl) in
    (Err BrokenProgram, (program.0, program.1, broken.0), (broken.1, refl))

pub returns-in_err-put_loaded-clause-lines : goal.returns-in_err-put_loaded-clause-lines
returns-in_err-put_loaded-clause-lines g c =
    let program = c.packed_program.ensures in
    let given = c.put_loaded.ensures in (
      outcome_of c.args.ram.now.registers (before_end program.0) (loaded_of c.args.bytes.now given.0),
      (program.0, program.1, loads_behind c.args.ram.now.registers c.args.bytes.now (before_end program.0) given.0 given.1),
      load_refused c.args.ram.now.registers c.args.ram.now.registers c.packed_program.result
          c.in_ok-packer.packer c.close.new.self c.put_loaded.new.packer c.put_loaded.result
          (before_end program.0) (loaded_of c.args.bytes.now given.0) c.in_err-put_loaded.field-0.0 c.from_residual-in_err-put_loaded.result
          (record { program = program.2; begun = c.in_ok-packer.was; closes = c.close.ensures; puts = given.2 })
          c.in_err-put_loaded.was
          (let p =
          err_from_is_err_and c.from_residual-in_err-put_loaded.result c.from_residual-in_err-put_loaded.ensures.1 in
          rw (p.1, p.2) refl),
    )

pub returns-in_err-write-clause-lines : goal.returns-in_err-write-clause-lines
returns-in_err-write-clause-lines g c =
    let program = c.packed_program.ensures in
    let given = c.put_loaded.ensures in (
      outcome_of c.args.ram.now.registers (before_end program.0) (loaded_of c.args.bytes.now given.0),
      (program.0, program.1, loads_behind c.args.ram.now.registers c.args.bytes.now (before_end program.0) given.0 given.1),
      load_unwritten c.args.ram.now.registers c.write.new.ram.registers c.packed_program.result
          c.in_ok-packer.packer c.close.new.self c.put_loaded.new.packer c.put_loaded.result
          (before_end program.0) (loaded_of c.args.bytes.now given.0) c.write.result
          c.in_err-write.field-0.0 c.from_residual-in_err-write.result
          (record { program = program.2; begun = c.in_ok-packer.was; closes = c.close.ensures; puts = given.2 })
          c.in_ok-put_loaded.was c.in_err-write.was
          (let p = err_from_is_err_and c.from_residual-in_err-write.result c.from_residual-in_err-write.ensures.1 in rw (p.1, p.2) refl)
          c.write.ensures.lines,
    )

pub returns-clause-lines : goal.returns-clause-lines
returns-clause-lines g c =
    let program = c.packed_program.ensures in
    let given = c.put_loaded.ensures in (
      outcome_of c.args.ram.now.registers (before_end program.0) (loaded_of c.args.bytes.now given.0),
      (program.0, program.1, loads_behind c.args.ram.now.registers c.args.bytes.now (before_end program.0) given.0 given.1),
      load_written c.args.ram.now.registers c.write.new.ram.registers c.packed_program.result
          c.in_ok-packer.packer c.close.new.self c.put_loaded.new.packer c.put_loaded.result
          (before_end program.0) (loaded_of c.args.bytes.now given.0) c.write.result c.len-start.result
          (record { program = program.2; begun = c.in_ok-packer.was; closes = c.close.ensures; puts = given.2 })
          c.in_ok-put_loaded.was c.in_ok-write.was c.len-start.ensures.value c.write.ensures.small c.write.ensures.lines,
    )

pub returns-clause-bound : goal.returns-clause-bound
returns-clause-bound g c =
    let program = c.packed_program.ensures in
    let given = c.put_loaded.ensures in
    load_bound c.args.ram.now.registers c.write.new.ram.registers c.packed_program.result
    c.in_ok-packer.packer c.close.new.self c.put_loaded.new.packer c.put_loaded.result
    (before_end program.0) (loaded_of c.args.bytes.now given.0) c.write.result c.len-start.result
    (record { program = program.2; begun = c.in_ok-packer.was; closes = c.close.ensures; puts = given.2 })
    c.in_ok-put_loaded.was c.in_ok-write.was c.len-start.ensures.value c.write.ensures.small c.write.ensures.lines

pub returns-clause-sound : goal.returns-clause-sound
returns-clause-sound g c =
    load_sound c.args.ram.now.registers c.write.new.ram.registers c.args.bytes.now (Ok c.len-start.result) c.requires
    (returns-clause-lines g c)
