use Rattle.std.proofs.Common.{◌∷◌, ◌++◌, [], ap, sym, refl, ◌∙◌, arith, rules}
use Rattle.std.proofs.lemmas.Result.{err_from_is_err_and}
use Rattle.h41_ends.specs.InputLines.{line_in}
use Rattle.h41_ends.proofs.HeardReads.{hears_still}
use Rattle.h41_commands.specs.private.BlockReading.{HaveNoEnd}
use Rattle.h41_ends.proofs.InputReading.{counts_both, keeps-both, keeps-known, nothing_read, reads_both, reads_nothing}
use Rattle.h41_commands.proofs.HeardItems.{hears_inside}
use Rattle.h41_commands.specs.DeckLines.{is_end}
use Rattle.h41_commands.proofs.ItemLines.{endless_more, endless_still, takes_more}
use Rattle.h41_commands.proofs.ReadFaults.{told_of_line, untold_of_line, write_of_line}
use Rattle.h41_commands.proofs.reading.read_lines.Goals as goal

pub loop-block-init : goal.loop-block-init
loop-block-init g c = record {
  lines = ([], refl, record { kind_is = refl; lines_are = c.requires.empty }, reads_nothing _ c.args.input.now);
  bound = omega arith;
  kept = keeps-known _;
  reader = c.requires.reader_clear;
  writer = c.requires.writer_clear;
  counted = λ first counted. counted;
  heard = (
    [],
    refl,
    record { kind_is = refl; lines_are = c.requires.empty },
    hears_still HaveNoEnd _ _ c.args.input.now c.args.input.now [] (nothing_read c.args.input.now) (λ end. end),
  );
}

pub returns-in_err-next_line : goal.returns-in_err-next_line
returns-in_err-next_line g c =
    let so_far = c.loop-block.invariant.lines in
    let heard = c.loop-block.invariant.heard in
    let failed = err_from_is_err_and c.from_residual.result c.from_residual.ensures.1 in
    let fault = c.in_err-next_line.ensures in
    rw (failed.1, failed.2)
    (record {
      block = record {
        lines = so_far.0 ++ [];
        reads = reads_both _ _ _ c.args.input.now c.loop-block.input c.next_line.new.self _ _ so_far.3 fault.lines;
        taken = endless_still so_far.0 so_far.1;
      };
      heard = record {
        lines = heard.0 ++ [];
        hears = hears_inside _ _ _ _ _ c.args.input.now c.loop-block.input c.next_line.new.self _ _ c.loop-block.invariant.kept heard.1
            heard.3 fault.heard;
        taken = endless_still heard.0 heard.1;
      };
      bound = tt;
      end = λ is. cc;
      stopped = λ is. fault.stopped (told_of_line _ _ is);
      cause = λ is. fault.cause (told_of_line _ _ is);
      flushed = λ is. fault.flushed (told_of_line _ _ is);
      kept = keeps-both _ _ _ c.loop-block.invariant.kept fault.kept;
      counted = counts_both c.args.input.now c.loop-block.input c.next_line.new.self _ _ _ c.loop-block.invariant.counted fault.counted;
      reader = λ not. fault.reader (untold_of_line _ _ not);
      writer = fault.writer ∙ sym (write_of_line _);
    })

pub returns-then-is_end-clause-block : goal.returns-then-is_end-clause-block
returns-then-is_end-clause-block g c =
    let so_far = c.loop-block.invariant.lines in
    let next = rw c.if-branch.true at c.in_ok-next_line.ensures.lines in
    let line = line_in c.next_line.new.self in
    record {
      lines = so_far.0 ++ line ∷ [];
      reads = reads_both _ _ _ c.args.input.now c.loop-block.input c.next_line.new.self _ _ so_far.3 next;
      taken = record {
        inside = so_far.0;
        last = line;
        parts = refl;
        endless = so_far.1;
        ended = ap is_end (sym c.line-line.ensures) ∙ sym c.if-is_end.ensures;
        taken = so_far.2;
      };
    }

pub loop-block-preserved : goal.loop-block-preserved
loop-block-preserved g c =
    let so_far = c.loop-block.invariant.lines in
    let next = rw c.if-branch.true at c.in_ok-next_line.ensures.lines in
    let line = line_in c.next_line.new.self in
    let heard = c.loop-block.invariant.heard in
    let heard_next = rw c.if-branch.true at c.in_ok-next_line.ensures.heard in
    record {
      lines = (
        so_far.0 ++ line ∷ [],
        endless_more so_far.0 line so_far.1 (ap is_end (sym c.line-line.ensures) ∙ sym c.if-is_end.ensures),
        takes_more _ so_far.0 line c.loop-block.block c.line.new.self so_far.2 (rw c.line-line.ensures at c.in_ok-line.ensures),
        reads_both _ _ _ c.args.input.now c.loop-block.input c.next_line.new.self _ _ so_far.3 next,
      );
      bound = omega (arith, c.loop-block.invariant.bound, c.in_ok-next_line.ensures.bound);
      kept = keeps-both _ _ _ c.loop-block.invariant.kept c.in_ok-next_line.ensures.kept;
      reader = search rules;
      writer = search rules;
      counted = counts_both c.args.input.now c.loop-block.input c.next_line.new.self _ _ _ c.loop-block.invariant.counted
          c.in_ok-next_line.ensures.counted;
      heard = (
        heard.0 ++ line ∷ [],
        endless_more heard.0 line heard.1 (ap is_end (sym c.line-line.ensures) ∙ sym c.if-is_end.ensures),
        takes_more _ heard.0 line c.loop-block.block c.line.new.self heard.2 (rw c.line-line.ensures at c.in_ok-line.ensures),
        hears_inside _ _ _ _ _ c.args.input.now c.loop-block.input c.next_line.new.self _ _ c.loop-block.invariant.kept heard.1 heard.3
            heard_next,
      );
    }

pub returns-in_err-line-clause-block : goal.returns-in_err-line-clause-block
returns-in_err-line-clause-block g c =
    let so_far = c.loop-block.invariant.lines in
    let next = rw c.if-branch.true at c.in_ok-next_line.ensures.lines in
    let line = line_in c.next_line.new.self in
    let failed = err_from_is_err_and c.from_residual-in_err-line.result c.from_residual-in_err-line.ensures.1 in
    rw failed.1
    (record {
      lines = so_far.0 ++ line ∷ [];
      reads = reads_both _ _ _ c.args.input.now c.loop-block.input c.next_line.new.self _ _ so_far.3 next;
      taken = endless_more so_far.0 line so_far.1 (ap is_end (sym c.line-line.ensures) ∙ sym c.if-is_end.ensures);
    })

pub returns-clause-block : goal.returns-clause-block
returns-clause-block g c =
    let so_far = c.loop-block.invariant.lines in
    let next = rw c.if-branch.false at c.in_ok-next_line.ensures.lines in
    record {
      lines = so_far.0 ++ [];
      reads = reads_both _ _ _ c.args.input.now c.loop-block.input c.next_line.new.self _ _ so_far.3 next;
      taken = endless_still so_far.0 so_far.1;
    }

pub returns-then-is_end-clause-heard : goal.returns-then-is_end-clause-heard
returns-then-is_end-clause-heard g c =
    let heard = c.loop-block.invariant.heard in
    let next = rw c.if-branch.true at c.in_ok-next_line.ensures.heard in
    let line = line_in c.next_line.new.self in
    record {
      lines = heard.0 ++ line ∷ [];
      hears = hears_inside _ _ _ _ _ c.args.input.now c.loop-block.input c.next_line.new.self _ _ c.loop-block.invariant.kept heard.1
          heard.3 next;
      taken = record {
        inside = heard.0;
        last = line;
        parts = refl;
        endless = heard.1;
        ended = ap is_end (sym c.line-line.ensures) ∙ sym c.if-is_end.ensures;
        taken = heard.2;
      };
    }

pub returns-in_err-line-clause-heard : goal.returns-in_err-line-clause-heard
returns-in_err-line-clause-heard g c =
    let heard = c.loop-block.invariant.heard in
    let next = rw c.if-branch.true at c.in_ok-next_line.ensures.heard in
    let line = line_in c.next_line.new.self in
    let failed = err_from_is_err_and c.from_residual-in_err-line.result c.from_residual-in_err-line.ensures.1 in
    rw failed.1
    (record {
      lines = heard.0 ++ line ∷ [];
      hears = hears_inside _ _ _ _ _ c.args.input.now c.loop-block.input c.next_line.new.self _ _ c.loop-block.invariant.kept heard.1
          heard.3 next;
      taken = endless_more heard.0 line heard.1 (ap is_end (sym c.line-line.ensures) ∙ sym c.if-is_end.ensures);
    })

pub returns-clause-heard : goal.returns-clause-heard
returns-clause-heard g c =
    let heard = c.loop-block.invariant.heard in
    let next = rw c.if-branch.false at c.in_ok-next_line.ensures.heard in
    record {
      lines = heard.0 ++ [];
      hears = hears_inside _ _ _ _ _ c.args.input.now c.loop-block.input c.next_line.new.self _ _ c.loop-block.invariant.kept heard.1
          heard.3 next;
      taken = endless_still heard.0 heard.1;
    }

pub returns-then-is_end-clause-counted : goal.returns-then-is_end-clause-counted
returns-then-is_end-clause-counted g c =
    counts_both c.args.input.now c.loop-block.input c.next_line.new.self _ _ _ c.loop-block.invariant.counted
    c.in_ok-next_line.ensures.counted

pub returns-in_err-line-clause-counted : goal.returns-in_err-line-clause-counted
returns-in_err-line-clause-counted g c =
    counts_both c.args.input.now c.loop-block.input c.next_line.new.self _ _ _ c.loop-block.invariant.counted
    c.in_ok-next_line.ensures.counted

pub returns-clause-counted : goal.returns-clause-counted
returns-clause-counted g c =
    counts_both c.args.input.now c.loop-block.input c.next_line.new.self _ _ _ c.loop-block.invariant.counted
    c.in_ok-next_line.ensures.counted

pub returns-clause-bound : goal.returns-clause-bound
returns-clause-bound g c = omega (arith, c.loop-block.invariant.bound, c.in_ok-next_line.ensures.bound)
