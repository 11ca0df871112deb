use Rattle.std.proofs.Common.{◌≡◌, Some, ◌∷◌, ◌++◌, [], ap, sym, refl, ◌∙◌, arith, rules}
use Rattle.std.proofs.lemmas.Result.{err_from_is_err_and}
use Rattle.h41_ends.specs.InputLines.{line_in}
use Rattle.h41_ends.proofs.HeardReads.{hears_still}
use Rattle.h41_ends.proofs.InputReading.{counts_both, keeps-both, keeps-known, nothing_read, reads_both, reads_nothing}
use Rattle.h41_commands.specs.private.ItemReading.{SpellNothing}
use Rattle.h41_commands.proofs.HeardItems.{hears_skipped}
use Rattle.h41_commands.specs.FirstLines.{first_line}
use Rattle.h41_commands.proofs.FirstLines.{skips_line}
use Rattle.h41_commands.proofs.NameEnds.{told_kind, told_none}
use Rattle.h41_commands.proofs.reading.read_first_line.Goals as goal

pub loop-input-init : goal.loop-input-init
loop-input-init g c = record {
  lines = ([], λ more. refl, reads_nothing _ c.args.input.now);
  bound = omega arith;
  kept = keeps-known _;
  reader = c.requires.reader_clear;
  writer = c.requires.writer_clear;
  counted = λ first counted. counted;
  heard = (
    [],
    λ more. refl,
    hears_still SpellNothing _ _ c.args.input.now c.args.input.now [] (nothing_read c.args.input.now) (λ end. end),
  );
}

pub returns-in_err-next_line : goal.returns-in_err-next_line
returns-in_err-next_line g c =
    let so_far = c.loop-input.invariant.lines in
    let heard = c.loop-input.invariant.heard in
    let failed = err_from_is_err_and c.from_residual.result c.from_residual.ensures.1 in
    let fault = c.in_err-next_line.ensures in
    rw (failed.1, failed.2)
    (record {
      line = record {
        skipped = so_far.0;
        nothing = so_far.1;
        reads = reads_both _ _ _ c.args.input.now c.loop-input.input c.next_line.new.self _ _ so_far.2 fault.lines;
        kind = tt;
      };
      heard = record {
        skipped = heard.0;
        nothing = heard.1;
        hears = hears_skipped _ _ _ _ _ c.args.input.now c.loop-input.input c.next_line.new.self _ _ c.loop-input.invariant.kept heard.1
            heard.2 fault.heard;
        kind = tt;
      };
      first = tt;
      shorter = tt;
      fewer = tt;
      end = λ is. cc;
      stopped = λ is. fault.stopped cc;
      cause = λ is. fault.cause cc;
      flushed = λ is. fault.flushed cc;
      kept = keeps-both _ _ _ c.loop-input.invariant.kept fault.kept;
      counted = counts_both c.args.input.now c.loop-input.input c.next_line.new.self _ _ _ c.loop-input.invariant.counted fault.counted;
      reader = λ not. fault.reader (λ is. not cc);
      writer = fault.writer;
    })

pub returns-in-Some-clause-line : goal.returns-in-Some-clause-line
returns-in-Some-clause-line g c =
    let so_far = c.loop-input.invariant.lines in
    let next = rw c.if-branch.true at c.in_ok-next_line.ensures.lines in
    let line = line_in c.next_line.new.self in
    let told : first_line line ≡ Some c.in-Some.first = ap first_line (sym c.line.ensures) ∙ sym c.in-Some.ensures in
    record {
      skipped = so_far.0;
      nothing = so_far.1;
      reads = reads_both _ _ _ c.args.input.now c.loop-input.input c.next_line.new.self _ _ so_far.2 next;
      kind = told_kind line c.in-Some.first told;
    }

pub loop-input-preserved : goal.loop-input-preserved
loop-input-preserved g c =
    let so_far = c.loop-input.invariant.lines in
    let next = rw c.if-branch.true at c.in_ok-next_line.ensures.lines in
    let line = line_in c.next_line.new.self in
    let heard = c.loop-input.invariant.heard in
    let heard_next = rw c.if-branch.true at c.in_ok-next_line.ensures.heard in
    record {
      lines = (
        so_far.0 ++ line ∷ [],
        skips_line so_far.0 line so_far.1 (told_none line (ap first_line (sym c.line.ensures)
            ∙ sym c.first_line.ensures ∙ c.in_default.is)),
        reads_both _ _ _ c.args.input.now c.loop-input.input c.next_line.new.self _ _ so_far.2 next,
      );
      bound = omega (arith, c.loop-input.invariant.bound, c.in_ok-next_line.ensures.bound);
      kept = keeps-both _ _ _ c.loop-input.invariant.kept c.in_ok-next_line.ensures.kept;
      reader = search rules;
      writer = search rules;
      counted = counts_both c.args.input.now c.loop-input.input c.next_line.new.self _ _ _ c.loop-input.invariant.counted
          c.in_ok-next_line.ensures.counted;
      heard = (
        heard.0 ++ line ∷ [],
        skips_line heard.0 line heard.1 (told_none line (ap first_line (sym c.line.ensures)
            ∙ sym c.first_line.ensures ∙ c.in_default.is)),
        hears_skipped _ _ _ _ _ c.args.input.now c.loop-input.input c.next_line.new.self _ _ c.loop-input.invariant.kept heard.1 heard.2
            heard_next,
      );
    }

pub returns-clause-line : goal.returns-clause-line
returns-clause-line g c =
    let so_far = c.loop-input.invariant.lines in
    let next = rw c.if-branch.false at c.in_ok-next_line.ensures.lines in
    record {
      skipped = so_far.0;
      nothing = so_far.1;
      reads = reads_both _ _ _ c.args.input.now c.loop-input.input c.next_line.new.self _ _ so_far.2 next;
      kind = tt;
    }

pub returns-in-Some-clause-heard : goal.returns-in-Some-clause-heard
returns-in-Some-clause-heard g c =
    let heard = c.loop-input.invariant.heard in
    let next = rw c.if-branch.true at c.in_ok-next_line.ensures.heard in
    let line = line_in c.next_line.new.self in
    let told : first_line line ≡ Some c.in-Some.first = ap first_line (sym c.line.ensures) ∙ sym c.in-Some.ensures in
    record {
      skipped = heard.0;
      nothing = heard.1;
      hears = hears_skipped _ _ _ _ _ c.args.input.now c.loop-input.input c.next_line.new.self _ _ c.loop-input.invariant.kept heard.1
          heard.2 next;
      kind = told_kind line c.in-Some.first told;
    }

pub returns-clause-heard : goal.returns-clause-heard
returns-clause-heard g c =
    let heard = c.loop-input.invariant.heard in
    let next = rw c.if-branch.false at c.in_ok-next_line.ensures.heard in
    record {
      skipped = heard.0;
      nothing = heard.1;
      hears = hears_skipped _ _ _ _ _ c.args.input.now c.loop-input.input c.next_line.new.self _ _ c.loop-input.invariant.kept heard.1
          heard.2 next;
      kind = tt;
    }

pub returns-in-Some-clause-counted : goal.returns-in-Some-clause-counted
returns-in-Some-clause-counted g c =
    counts_both c.args.input.now c.loop-input.input c.next_line.new.self _ _ _ c.loop-input.invariant.counted
    c.in_ok-next_line.ensures.counted

pub returns-clause-counted : goal.returns-clause-counted
returns-clause-counted g c =
    counts_both c.args.input.now c.loop-input.input c.next_line.new.self _ _ _ c.loop-input.invariant.counted
    c.in_ok-next_line.ensures.counted
