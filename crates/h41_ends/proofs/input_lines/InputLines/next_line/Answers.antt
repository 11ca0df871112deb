use Rattle.std.proofs.Common.{[], arith, refl, rules, ◌∙◌}
use Rattle.std.proofs.lemmas.Grind.{common_steps}
use Rattle.std.proofs.lemmas.Result.{err_from_is_err_and}
use Rattle.h41_ends.proofs.Answered.{no_end, no_fault, no_more}
use Rattle.h41_ends.specs.HeardLines.{AreNone}
use Rattle.h41_ends.proofs.HeardReads.{hears_on, hears_still}
use Rattle.h41_ends.proofs.InputReading.{counts_both, counts_same, keeps-both, keeps-known, last_read, line_read, nothing_read}
use Rattle.h41_ends.proofs.InputReading.{reads_both, reads_last, reads_line, reads_nothing}
use Rattle.h41_ends.proofs.input_lines.InputLines.next_line.Goals as goal

pub returns-in-Some : goal.returns-in-Some
returns-in-Some g c =
    let old = c.args.self.now in
    let mid = c.loop-end.self in
    let new = c.tell_ended.new.self in
    let so_far = c.loop-end.invariant in
    let told = c.tell_ended.ensures in
    let ends = rw c.held.ensures at c.in-Some.ensures in
    record {
      lines = reads_both _ _ _ old mid new _ _ so_far.reads (reads_line _ mid new c.in-Some.end ends told);
      heard =
          hears_on _ _ _ _ _ old mid new _ so_far.kept so_far.heard
          (hears_still AreNone _ _ mid new _ (line_read mid new c.in-Some.end ends told) (λ end. told.same.at_end ∙ end));
      end = λ is. absurd (no_end is);
      bound = grind (arith, common_steps);
      fewer = grind (arith, common_steps);
      stopped = λ is. absurd (no_fault _ _ is);
      cause = λ is. absurd (no_fault _ _ is);
      flushed = λ is. absurd (no_fault _ _ is);
      kept = so_far.kept;
      counted = counts_both old mid new _ _ _ so_far.counted (counts_same mid new _ told.same.count told.same.over);
      reader = λ other. so_far.reader;
      writer = so_far.writer;
    }

pub returns-then-self : goal.returns-then-self
returns-then-self g c =
    let so_far = c.loop-end.invariant in
    record {
      lines = so_far.reads;
      heard = so_far.heard;
      end = grind (arith, common_steps);
      bound = so_far.bound;
      fewer = λ is. absurd (no_more is);
      stopped = λ is. absurd (no_fault _ _ is);
      cause = λ is. absurd (no_fault _ _ is);
      flushed = λ is. absurd (no_fault _ _ is);
      kept = so_far.kept;
      counted = so_far.counted;
      reader = λ other. so_far.reader;
      writer = so_far.writer;
    }

pub returns-then-not-branch : goal.returns-then-not-branch
returns-then-not-branch g c =
    let old = c.args.self.now in
    let mid = c.read_more.new.self in
    let new = c.tell_last.new.self in
    let after = g.R.Source.remaining c.read_more.new.reader in
    let so_far = c.loop-end.invariant in
    let more = c.in_ok-read_more.ensures in
    let told = c.tell_last.ensures in
    let no_more = rw c.if-not-branch.true at more.end in
    let end = no_more refl in
    let kept = keeps-both _ _ _ so_far.kept more.kept in
    record {
      lines =
          reads_both _ _ after old mid new _ _ (reads_both _ _ _ old c.loop-end.self mid _ _ so_far.reads more.lines)
          (reads_last after mid new c.tell_last.result more.goes_on end told);
      heard =
          hears_on _ _ _ _ _ old mid new _ kept
          (hears_on _ _ _ _ _ old c.loop-end.self mid [] so_far.kept so_far.heard more.heard)
          (hears_still AreNone _ _ mid new _ (last_read mid new c.tell_last.result more.goes_on end.unended told) (λ is. told.at_end));
      end = search rules;
      bound = search rules;
      fewer = search rules;
      stopped = λ is. absurd (no_fault _ _ is);
      cause = λ is. absurd (no_fault _ _ is);
      flushed = λ is. absurd (no_fault _ _ is);
      kept = kept;
      counted =
          counts_both old mid new _ _ _ (counts_both old c.loop-end.self mid _ _ _ so_far.counted more.counted)
          (counts_same mid new _ told.count told.over);
      reader = λ other. more.reader (λ is. no_fault _ _ is);
      writer = more.writer;
    }

pub returns-in_err-read_more-clause-lines : goal.returns-in_err-read_more-clause-lines
returns-in_err-read_more-clause-lines g c =
    let failed = err_from_is_err_and c.from_residual.result c.from_residual.ensures.1 in
    rw failed.1 (reads_both _ _ _ c.args.self.now c.loop-end.self c.read_more.new.self _ _ c.loop-end.invariant.reads
    c.in_err-read_more.ensures.lines)

pub returns-in_err-read_more-clause-heard : goal.returns-in_err-read_more-clause-heard
returns-in_err-read_more-clause-heard g c =
    let failed = err_from_is_err_and c.from_residual.result c.from_residual.ensures.1 in
    rw failed.1 (hears_on _ _ _ _ _ c.args.self.now c.loop-end.self c.read_more.new.self _ c.loop-end.invariant.kept
    c.loop-end.invariant.heard c.in_err-read_more.ensures.heard)

pub loop-end-init : goal.loop-end-init
loop-end-init g c = record {
  reads = reads_nothing _ c.args.self.now;
  bound = omega arith;
  kept = keeps-known _;
  reader = c.requires.reader_clear;
  writer = c.requires.writer_clear;
  counted = λ first counted. counted;
  heard = hears_still AreNone _ _ c.args.self.now c.args.self.now [] (nothing_read c.args.self.now) (λ end. end);
}

pub loop-end-preserved : goal.loop-end-preserved
loop-end-preserved g c = record {
  reads = reads_both _ _ _ c.args.self.now c.loop-end.self c.read_more.new.self _ _ c.loop-end.invariant.reads
      c.in_ok-read_more.ensures.lines;
  bound = omega (arith, c.loop-end.invariant.bound, c.in_ok-read_more.ensures.bound);
  kept = keeps-both _ _ _ c.loop-end.invariant.kept c.in_ok-read_more.ensures.kept;
  reader = c.in_ok-read_more.ensures.reader (λ is. no_fault _ _ is);
  writer = c.in_ok-read_more.ensures.writer;
  counted = counts_both c.args.self.now c.loop-end.self c.read_more.new.self _ _ _ c.loop-end.invariant.counted
      c.in_ok-read_more.ensures.counted;
  heard = hears_on _ _ _ _ _ c.args.self.now c.loop-end.self c.read_more.new.self [] c.loop-end.invariant.kept
      c.loop-end.invariant.heard c.in_ok-read_more.ensures.heard;
}
