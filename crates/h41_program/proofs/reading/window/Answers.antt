use Rattle.std.proofs.Common.{◌≡◌, ◌+◌, ◌-◌, arith}
use Rattle.std.proofs.lemmas.List.FromFn.{map-range_with_len_more}
use Rattle.h41_program.specs.ProgramBytes.{program_byte}
use Rattle.h41_program.proofs.reading.window.Goals as goal

pub loop-position-preserved : goal.loop-position-preserved
loop-position-preserved g c =
    let memory = c.args.ram.now.registers in
    let at = c.args.at in
    let position = c.loop-position.position in
    record {
      items =
          let here : at + (position - at) ≡ position = omega arith in
          let next : position + 1 - at ≡ position - at + 1 = omega arith in
          let more = map-range_with_len_more (program_byte memory) at (position - at) position here in
          rw (next, more) cc;
      count = omega arith;
      reader = c.read.ensures.onward;
    }
