use Rattle.std.proofs.Common.{◌≡◌, ◌+◌, ◌++◌, ◌∷◌, [], arith, sym, refl, ap, ◌∙◌, length-append, length, lit<}
use Rattle.arrayvec.specs.ArrayString.{ArrayString}
use Rattle.h41_lines.specs.Characters.{two_digits}
use Rattle.std.proofs.lemmas.Bool.{eqb-true, eqb-false}
use Rattle.h41_views.proofs.FlagTexts.{clear_flag, first_flag, next_flag}
use Rattle.h41_views.proofs.memory.set_flags.Goals as goal
use Rattle.h41_views.proofs.memory.set_flags.Goals.{then-flag, then-not-is_empty, else-not-is_empty, else-flag}

pub loop-flag-preserved : goal.loop-flag-preserved
loop-flag-preserved g c =
    let flag = c.loop-flag.flag in
    record {
      text = elim c.if-flag.branch [
        | then-flag w ↦ rw w.flags-is (elim w.if-not-is_empty.branch [
          | then-not-is_empty v ↦
              next_flag c.args.ram.now.registers flag (flag + 1) c.loop-flag.flags.bytes _ refl (sym w.if-flag.ensures)
              c.loop-flag.invariant.text
              (eqb-false _ 0 (sym w.is_empty.ensures ∙ v.if-not-is_empty.true)) (w.push_number.ensures
              ∙ ap (λ front. front ++ two_digits flag) (ap (λ (f : ArrayString). f.bytes) v.flags-is ∙ v.push.ensures.ascii (lit< tt)))
          | else-not-is_empty v ↦
              first_flag c.args.ram.now.registers flag (flag + 1) c.loop-flag.flags.bytes _ refl (sym w.if-flag.ensures)
              c.loop-flag.invariant.text
              (eqb-true _ 0 (sym w.is_empty.ensures ∙ v.if-not-is_empty.false))
              (w.push_number.ensures ∙ ap (λ front. front ++ two_digits flag) (ap (λ (f : ArrayString). f.bytes) v.flags-is))
        ])
        | else-flag w ↦
            rw w.flags-is (c.loop-flag.invariant.text ∙ sym
            (clear_flag c.args.ram.now.registers flag (flag + 1) refl (sym w.if-flag.ensures)))
      ];
      short = elim c.if-flag.branch [
        | then-flag w ↦ rw w.flags-is (elim w.if-not-is_empty.branch [
          | then-not-is_empty v ↦
              let blank = v.push.ensures.ascii (lit< tt) in
              omega (
                arith,
                c.loop-flag.invariant.short,
                ap length w.push_number.ensures,
                ap (λ (f : ArrayString). length f.bytes) v.flags-is,
                ap length blank,
                length-append c.loop-flag.flags.bytes (32 ∷ []),
                length-append w.if-not-is_empty.flags.bytes (two_digits flag),
              )
          | else-not-is_empty v ↦
              omega (
                arith,
                c.loop-flag.invariant.short,
                ap length w.push_number.ensures,
                ap (λ (f : ArrayString). length f.bytes) v.flags-is,
                length-append w.if-not-is_empty.flags.bytes (two_digits flag),
              )
        ])
        | else-flag w ↦ rw w.flags-is (omega (arith, c.loop-flag.invariant.short))
      ];
    }

pub returns : goal.returns
returns g c = let last : c.loop-flag.flag ≡ 56 = omega arith in rw last at c.loop-flag.invariant.text
