use Rattle.std.proofs.Common.{◌≡◌, ◌≤◌, ◌+◌, if◌then◌else◌, sym, [], nat_lt, false, ◌-◌}
use Rattle.std.proofs.Common.{take, min, length, length-append, length-take, ap, refl, rules, ◌∙◌, arith}
use Rattle.std.proofs.lemmas.Bool.{ltb-false}
use Rattle.h41_ends.specs.Ends.{given_after, most_bytes}
use Rattle.h41_ends.specs.HeardLines.{AreNone}
use Rattle.h41_ends.specs.InputLines.{held_in}
use Rattle.h41_ends.proofs.InputBuffers.{held_kept, held_more}
use Rattle.h41_ends.proofs.Answered.{no_answer, no_fault}
use Rattle.h41_ends.proofs.HeardReads.{hears_one, hears_still}
use Rattle.h41_ends.proofs.InputReading.{counts_more, failed_read, nothing_read, reaches_end, reads_failed, reads_some, some_read}
use Rattle.h41_ends.proofs.InputReading.{stopped_short}
use Rattle.h41_ends.proofs.input_lines.InputLines.read_more.Goals as goal

pub returns-in-Err : goal.returns-in-Err
returns-in-Err g c =
    let old = c.args.self.now in
    let front = c.shorten.new.self in
    let same = c.shorten.ensures.same in
    let flushed = c.in_ok-flush_rest.ensures in
    let held =
    held_kept front.buffer c.read_after.new.buffer (take 202 (held_in old)) front.start front.end _ (omega (
      arith,
      front.held_end,
    )) c.shorten.ensures.held in
    record {
      lines =
          reads_failed _ _ old _ c.requires.unended c.requires.goes_on held
          (record { count = same.count; over = same.over; at_end = same.at_end }) c.in-Err.ensures.bytes;
      heard =
          hears_one _ _ _ old _ _ c.in-Err.ensures.reads flushed.bytes flushed.flushed
          (failed_read old _ c.requires.unended held (record { count = same.count; over = same.over; at_end = same.at_end }))
          (record { unended = c.requires.unended; goes_on = c.requires.goes_on }) c.if-self.false;
      goes_on = search rules;
      less = λ is. absurd (no_answer _ _ is);
      end = λ is. absurd (no_answer _ _ is);
      bound = search rules;
      stopped = stopped_short old _ c.requires.unended c.requires.goes_on held same.at_end;
      cause = search rules;
      flushed = λ is. flushed.flushed;
      kept = flushed.bytes;
      counted = λ first counted. c.in-Err.ensures.given ∙ counted
          ∙ ap (given_after first) (λ i. sym same.count i + (if sym same.over i then 1 else 0));
      reader = λ other. absurd (other refl);
      writer = flushed.mark;
    }

pub returns-in-Ok : goal.returns-in-Ok
returns-in-Ok g c =
    let old = c.args.self.now in
    let new = c.take_read.new.self in
    let front = c.shorten.new.self in
    let same = c.shorten.ensures.same in
    let tail = c.read_after.new.buffer in
    let count = c.in-Ok.count in
    let fits : count ≤ length tail = c.in-Ok.ensures.bound.0 in
    let flushed = c.in_ok-flush_rest.ensures in
    let read = c.take_read.ensures in
    let held = rw same.count at (read.held
    ∙ held_more front.buffer tail (take 202 (held_in old)) front.start front.end _ (min count (most_bytes - front.count))
    c.shorten.ensures.start (omega (arith, front.held_end)) (omega (arith, fits)) c.shorten.ensures.held) in
    let total = rw same.count at read.total in
    let over = rw same.count at read.over in
    record {
      lines =
          reads_some _ _ old new count tail c.requires.unended c.requires.goes_on c.if-self.false held total over read.at_end
          c.in-Ok.ensures.bytes.0 fits;
      heard =
          hears_one _ _ _ old new _ c.in-Ok.ensures.reads flushed.bytes flushed.flushed
          (some_read old new count tail c.requires.unended c.requires.goes_on c.if-self.false held total over fits)
          (record { unended = c.requires.unended; goes_on = c.requires.goes_on }) c.if-self.false;
      goes_on = read.at_end;
      less = search rules;
      end = λ is.
          let none : nat_lt 0 count ≡ false = cc in
          let zero : count ≡ 0 = omega (arith, ltb-false 0 count none) in
          reaches_end _ old new count tail c.requires.unended held over zero
          (c.in-Ok.ensures.bytes.1 zero (omega (arith, c.read_after.auto.buffer, c.shorten.ensures.room)));
      bound = omega (
        arith,
        ap length held,
        total,
        old.bound,
        length-take 202 (held_in old),
        fits,
        length-take (min count (most_bytes - old.count)) tail,
        length-append (take 202 (held_in old)) (take (min count (most_bytes - old.count)) tail),
      );
      stopped = search rules;
      cause = λ is. absurd (no_fault _ _ is);
      flushed = λ is. absurd (no_fault _ _ is);
      kept = flushed.bytes;
      counted =
          counts_more old new count _ _ c.if-self.false (omega (arith, c.in-Ok.ensures.bound.0, same.count)) c.in-Ok.ensures.given
          total over;
      reader = search rules;
      writer = flushed.mark;
    }

pub returns-in_err-flush_rest-clause-heard : goal.returns-in_err-flush_rest-clause-heard
returns-in_err-flush_rest-clause-heard g c =
    hears_still AreNone _ _ c.args.self.now c.args.self.now [] (nothing_read c.args.self.now) (λ end. end)

pub returns-then-self : goal.returns-then-self
returns-then-self g c =
    let flushed = c.in_ok-flush_rest.ensures in
    record {
      lines = search rules;
      heard = hears_still AreNone _ _ c.args.self.now c.args.self.now [] (nothing_read c.args.self.now) (λ end. end);
      goes_on = search rules;
      less = λ is. absurd (no_answer _ _ is);
      end = λ is. absurd (no_answer _ _ is);
      bound = search rules;
      stopped = search rules;
      cause = search rules;
      flushed = λ is. flushed.flushed;
      kept = flushed.bytes;
      counted = search rules;
      reader = λ other. absurd (other refl);
      writer = flushed.mark;
    }
