use Rattle.std.proofs.Common.{◌∷◌, [], ◌++◌, ℕ, List, Ok, Err, length, arith, ap, sym, refl, subst, append-nil, ◌∙◌}
use Rattle.std.proofs.lemmas.Bool.{eqb-false, eqb-true}
use Rattle.h41_codes.specs.declared.line.Line.{Line}
use Rattle.h41_commands.specs.declared.refusal.LineRefusal.TheVariants.{BadText}
use Rattle.h41_commands.specs.private.ProgramTexts.{IsPacked, texts_left}
use Rattle.h41_commands.specs.ProgramBlocks.{texts_of}
use Rattle.h41_commands.proofs.ProgramTextLines.{Tells, count_texts, is_bad, says_line, says_nothing, tells_all, tells_bad, tells_more}
use Rattle.h41_commands.proofs.ProgramTextLines.{tells_none}
use Rattle.h41_commands.proofs.blocks.program_text.program_bytes.Goals as goal
use Rattle.h41_commands.proofs.blocks.program_text.program_bytes.Goals.{then-not-is_empty+in-Ok+in_ok-push-in-Ok, else-not-is_empty}

pub loop-line-init : goal.loop-line-init
loop-line-init c =
    rw (c.into_iter-line-iterator.ensures.into_iter_gives, c.new-line-items.ensures)
    (record {
      count = omega (arith, count_texts c.args.text.now);
      told = ([], c.new-packed.ensures, tells_none (texts_of c.args.text.now));
    })

pub returns-in-Err : goal.returns-in-Err
returns-in-Err c =
    let told = c.loop-line.invariant.told in
    let tells = subst (λ left. Tells (texts_of c.args.text.now) told.0 c.loop-line.number left) c.in-Some.ensures.steps told.2 in
    let bad =
    is_bad c.in-Some.line.now ((c.in-Err.ensures).refused.0 refl) (eqb-false _ 0 (sym c.is_empty.ensures ∙ c.if-not-is_empty.true)) in (
      Err (BadText c.loop-line.number),
      tells_bad (texts_of c.args.text.now) (texts_left c.next.new.self) told.0 c.loop-line.number c.in-Some.line.now tells bad,
      refl,
    )

pub loop-line-preserved : goal.loop-line-preserved
loop-line-preserved c =
    let told = c.loop-line.invariant.told in
    let all = texts_of c.args.text.now in
    let left = texts_left c.next.new.self in
    let tells = subst (λ left. Tells (texts_of c.args.text.now) told.0 c.loop-line.number left) c.in-Some.ensures.steps told.2 in
    record {
      count = omega (arith, c.loop-line.invariant.count, ap length c.in-Some.ensures.steps);
      told = elim c.if-not-is_empty.branch [
        | then-not-is_empty+in-Ok+in_ok-push-in-Ok w ↦
            let says =
            says_line c.in-Some.line.now w.in-Ok.line (((w.in-Ok.ensures).line w.in-Ok.line).0 refl)
            (eqb-false _ 0 (sym c.is_empty.ensures ∙ w.if-not-is_empty.true)) in (
              told.0 ++ w.in-Ok.line ∷ [],
              subst (IsPacked (told.0 ++ w.in-Ok.line ∷ [])) (sym w.packed-is) ((w.in_ok-push-in-Ok.ensures) told.0 told.1),
              tells_more all left told.0 (w.in-Ok.line ∷ []) c.loop-line.number c.in-Some.line.now tells says,
            )
        | else-not-is_empty w ↦
            let says = says_nothing c.in-Some.line.now (eqb-true _ 0 (sym c.is_empty.ensures ∙ w.if-not-is_empty.false)) in (
              told.0 ++ [],
              subst (IsPacked (told.0 ++ [])) (sym w.packed-is)
                  (subst (λ (lines : List Line). IsPacked lines c.loop-line.packed) (sym (append-nil told.0)) told.1),
              tells_more all left told.0 [] c.loop-line.number c.in-Some.line.now tells says,
            )
      ];
    }

pub returns : goal.returns
returns c =
    let told = c.loop-line.invariant.told in
    let tells : Tells (texts_of c.args.text.now) told.0 c.loop-line.number [] =
    subst (λ left. Tells (texts_of c.args.text.now) told.0 c.loop-line.number left) c.in-None.ensures.steps.0 told.2 in
    (Ok told.0, tells_all (texts_of c.args.text.now) told.0 c.loop-line.number tells, ap (λ (bytes : List ℕ). Ok bytes) told.1.bytes)
