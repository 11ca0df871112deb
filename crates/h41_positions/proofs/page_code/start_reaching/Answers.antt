use Rattle.std.proofs.Common.{◌<◌, length, sym, ◌∙◌, arith}
use Rattle.std.specs.Prelude.{slice_index}
use Rattle.h41_positions.specs.PageLines.{is_page_end}
use Rattle.h41_positions.proofs.PageStarts.{IsKept, least_starts, lost_reaches, none_kept, none_starts, passed, taken}
use Rattle.h41_positions.proofs.page_code.start_reaching.Goals as goal
use Rattle.h41_positions.proofs.page_code.start_reaching.Goals.{then-begin-least+then-has_line, else-begin-least}
use Rattle.h41_positions.proofs.page_code.start_reaching.Goals.{else-begin-least-via-then-begin-least+else-has_line}
use Rattle.h41_positions.proofs.page_code.start_reaching.Goals.{else-begin-least-via-else-begin-least}

pub loop-index-init : goal.loop-index-init
loop-index-init c = none_kept c.args.page.now.code.now c.args.begins.now c.args.at

pub loop-index-preserved : goal.loop-index-preserved
loop-index-preserved c =
    let code = c.args.page.now.code.now in
    let begins = c.args.begins.now in
    let at = c.args.at in
    let index = c.loop-index.index in
    let kept : IsKept code begins at index c.loop-index.least = c.loop-index.invariant in
    let inside : index < length begins = omega (arith, c.loop-index-test.true, c.loop-index.auto.index-end) in
    let begin = slice_index begins index in
    elim c.if-begin-least.branch [
      | then-begin-least+then-has_line w ↦
          let all = c.each_is_listed.ensures.lines is_page_end code (length code) begin in
          rw w.least-is (taken code begins at index c.loop-index.least inside kept w.if-begin-least.true (record {
            before = let most = kept.most in omega (arith, w.if-begin-least.true, most);
            first = c.args.first.listed;
            lines = all.0;
            stands = c.requires.first.first;
            from = all.1;
            has = sym (w.has_line.ensures all.0 all.1) ∙ w.if-has_line.true;
          }))
      | else-begin-least w ↦
          rw w.least-is (passed code begins at index c.loop-index.least inside kept (λ reaches. elim w.else-begin-least.branch [
            | else-begin-least-via-then-begin-least+else-has_line v ↦
                absurd (lost_reaches code at begin c.args.first c.requires.first
                (λ lines from. sym v.if-has_line.false ∙ v.has_line.ensures lines from) reaches)
            | else-begin-least-via-else-begin-least v ↦ omega (arith, v.if-begin-least.false)
          ]))
    ]

pub returns-then-least-at : goal.returns-then-least-at
returns-then-least-at c =
    least_starts c.args.page.now.code.now c.args.begins.now c.args.at c.loop-index.index c.loop-index.least
    (omega (arith, c.loop-index-test.false, c.loop-index.auto.index-end)) c.loop-index.invariant c.if-least-at.true

pub returns-else-least-at : goal.returns-else-least-at
returns-else-least-at c =
    none_starts c.args.page.now.code.now c.args.begins.now c.args.at c.loop-index.index c.loop-index.least
    (omega (arith, c.loop-index-test.false, c.loop-index.auto.index-end)) c.loop-index.invariant
    (λ low. omega (arith, low, c.if-least-at.false))
