use Rattle.std.proofs.Common.{◌≡◌, ◌≤◌, ◌+◌, ◌-◌, min, length, ap, ◌∙◌, arith, rules}
use Rattle.h41_ram.specs.RamState.{RamState}
use Rattle.h41_ram.specs.RegisterMap.{curtain_of}
use Rattle.h41_rows.proofs.ClearedData.{cleared_all, cleared_more, cleared_none, partly_cleared}
use Rattle.h41_rows.proofs.MarksLeft.{data_apart, left_by_apart, same_apart, then_apart}
use Rattle.h41_rows.proofs.clearing.clear_data.Goals as goal

pub loop-place-init : goal.loop-place-init
loop-place-init g c = search (rules, cleared_none)

pub loop-place-preserved : goal.loop-place-preserved
loop-place-preserved g c =
    let memory = c.args.ram.now.registers in
    let behind : curtain_of memory ≤ 192 + c.loop-place.place =
    omega (
      arith,
      c.min-first.ensures,
      c.saturating_sub.ensures,
      c.from.ensures,
      c.curtain.ensures.value,
      c.loop-place.auto.place,
      c.loop-place-test.true,
    ) in
    record {
      memory =
          cleared_more c.args.ram.now.registers c.loop-place.ram.registers c.write.new.self.registers
          c.min-first.result c.loop-place.place c.zero.result c.loop-place.auto.place
          (omega (arith, c.loop-place-test.true, c.curtain.ensures.memory.main)) c.loop-place.invariant.memory c.zero.ensures
          (ap (λ (ram : RamState). ram.registers) c.write.ensures.written);
      mark = c.mark_is_kept.ensures.turn c.args.ram.now c.loop-place.ram c.write.new.self c.loop-place.invariant.mark c.write.ensures.mark;
      left =
          (then_apart c.args.ram.now c.loop-place.ram c.write.new.self
          (record { keeps = c.loop-place.invariant.mark; left = c.loop-place.invariant.left }) c.write.ensures.mark
          (λ sound same. left_by_apart c.loop-place.ram c.write.new.self (192 + c.loop-place.place)
          (ap (λ (ram : RamState). ram.touched) c.write.ensures.written)
          (same_apart memory c.loop-place.ram.registers same (192 + c.loop-place.place)
          (data_apart memory (192 + c.loop-place.place) sound behind)))).left;
    }

pub returns-clause-change : goal.returns-clause-change
returns-clause-change g c =
    let memory = c.args.ram.now.registers in
    let first : c.min-first.result ≡ min (curtain_of memory - 192) (length memory.main) =
    omega (arith, c.min-first.ensures, c.saturating_sub.ensures, c.from.ensures, c.curtain.ensures.value, c.curtain.ensures.memory.main) in
    let last : c.loop-place.place ≡ length memory.main =
    omega (arith, c.min-first.ensures, c.loop-place-test.false, c.loop-place.auto.place-end, c.curtain.ensures.memory.main) in
    c.loop-place.invariant.memory ∙ ap (partly_cleared memory c.min-first.result) last ∙ cleared_all memory c.min-first.result first
