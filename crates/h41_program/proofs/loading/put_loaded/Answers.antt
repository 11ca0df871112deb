use Rattle.std.proofs.Common.{◌≡◌, sym, ◌∙◌, subst, refl, drop, ◌++◌, true, false, List, length, append_assoc}
use Rattle.std.proofs.lemmas.List.{take_rest}
use Rattle.std.specs.Prelude.{◌==◌}
use Rattle.std.specs.List.{list_all}
use Rattle.h41_codes.specs.declared.line.Line.{Line}
use Rattle.h41_program.specs.private.LoadSteps.{kept_option}
use Rattle.h41_program.specs.Edits.{lines_of}
use Rattle.h41_program.specs.private.Packers.{Packs}
use Rattle.h41_program.proofs.Loads.{loaded_more, loaded_none, final_puts, but_last}
use Rattle.h41_program.proofs.Walks.{all_none}
use Rattle.h41_program.proofs.loading.put_loaded.Goals as goal

pub loop-taken-preserved : goal.loop-taken-preserved
loop-taken-preserved c =
    let before = c.loop-taken.invariant in (
      _,
      loaded_more c.args.bytes.now c.args.packer.now c.loop-taken.packer c.put_pending.new.packer
          c.loop-taken.pending c.loop-taken.at before.0 c.in-Some.taken before.1
          c.in-Some.ensures.first (sym c.is_final_end.ensures ∙ c.if-is_final_end.false) c.put_pending.ensures,
    )

pub returns-then-are_nulls : goal.returns-then-are_nulls
returns-then-are_nulls c =
    let before = c.loop-taken.invariant in
    final_puts c.args.bytes.now c.args.packer.now c.loop-taken.packer c.put_pending.new.packer
    c.loop-taken.pending c.loop-taken.at before.0 c.in-Some.taken before.1
    c.in-Some.ensures.first (sym c.is_final_end.ensures ∙ c.if-is_final_end.true) c.put_pending.ensures
    true (sym (rw take_rest at c.are_nulls.ensures) ∙ c.if-are_nulls.true)

pub returns-else-are_nulls : goal.returns-else-are_nulls
returns-else-are_nulls c =
    let before = c.loop-taken.invariant in
    final_puts c.args.bytes.now c.args.packer.now c.loop-taken.packer c.put_pending.new.packer
    c.loop-taken.pending c.loop-taken.at before.0 c.in-Some.taken before.1
    c.in-Some.ensures.first (sym c.is_final_end.ensures ∙ c.if-is_final_end.true) c.put_pending.ensures
    false (sym (rw take_rest at c.are_nulls.ensures) ∙ c.if-are_nulls.false)

pub returns-then-not-are_nulls : goal.returns-then-not-are_nulls
returns-then-not-are_nulls c =
    let bytes = c.args.bytes.now in
    let before = c.loop-taken.invariant in
    let none = loaded_none bytes c.args.packer.now c.loop-taken.packer c.loop-taken.pending c.loop-taken.at before.0 before.1 in
    let test : list_all (λ byte. byte == 0) (drop c.loop-taken.at bytes) ≡ false =
    sym (rw take_rest at c.are_nulls-2.ensures) ∙ c.if-not-are_nulls.true in (
      before.0,
      all_none bytes (length bytes) 0 c.loop-taken.at before.0 before.1.read c.in_default.ensures.none,
      λ front packs. rw (none, test) refl,
    )

pub returns : goal.returns
returns c =
    let bytes = c.args.bytes.now in
    let before = c.loop-taken.invariant in
    let none = loaded_none bytes c.args.packer.now c.loop-taken.packer c.loop-taken.pending c.loop-taken.at before.0 before.1 in
    let test : list_all (λ byte. byte == 0) (drop c.loop-taken.at bytes) ≡ true =
    sym (rw take_rest at c.are_nulls-2.ensures) ∙ c.if-not-are_nulls.false in (
      before.0,
      all_none bytes (length bytes) 0 c.loop-taken.at before.0 before.1.read c.in_default.ensures.none,
      λ front packs.
          let put = c.put_last.ensures (front ++ but_last (lines_of before.0)) (before.1.packs front packs) in
          rw (none, test) (
            refl,
            subst (λ (lines : List Line). Packs c.put_last.new.packer lines)
                (append_assoc front (but_last (lines_of before.0)) (kept_option c.loop-taken.pending)) put,
          ),
    )
