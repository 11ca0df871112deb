use Rattle.std.proofs.Common.{◌≡◌, ℕ, suc, ◌+◌, ◌-◌, List, subst, ◌∙◌, arith, rules}
use Rattle.std.specs.Io.KnownBytes.{Appends}
use Rattle.std.specs.Result.{result_err}
use Rattle.h41_ends.specs.Ends.{AppendsPart}
use Rattle.h41_debug.specs.Bench.{Steps}
use Rattle.h41_deck.proofs.Running.{TracesOn, traces_end, traces_in_part, traces_more, traces_refused}
use Rattle.h41_deck.proofs.replies.running.trace.Goals as goal

pub returns-in-Err-clause-text : goal.returns-in-Err-clause-text
returns-in-Err-clause-text g c = λ values.
    let left : c.args.count - c.loop-made.made ≡ suc (c.args.count - (c.loop-made.made + 1)) = omega arith in
    let text : c.as_bytes.result.now ≡ c.traced_line-line.result.bytes = c.as_bytes.ensures.value ∙ c.as_str.ensures.value in
    let on =
    subst (λ k.
    TracesOn c.args.count k c.args.bench.now.state c.loop-made.bench.state (g.W.Sink.contents c.args.writer.now)
    (g.W.Sink.contents c.loop-made.writer))
    left c.loop-made.invariant.on in
    let part =
    subst (λ (of : List ℕ). AppendsPart (g.W.Sink.contents c.loop-made.writer) (g.W.Sink.contents c.write_whole.new.writer) of)
    text c.in-Err.ensures.written in
    traces_in_part c.steps_are_traced.ensures.traced c.args.count
    (c.args.count - (c.loop-made.made + 1)) values c.args.bench.now.state c.loop-made.bench.state c.steps.new.self.state
    _ (g.W.Sink.contents c.loop-made.writer) _ c.traced_line-line.result.bytes
    (result_err c.steps.result) on c.traced_line-line.ensures part
    (subst (λ k. Steps k c.loop-made.bench.state c.steps.new.self.state (result_err c.steps.result)) left c.steps.ensures.steps)

pub returns-in-Err-step-clause-text : goal.returns-in-Err-step-clause-text
returns-in-Err-step-clause-text g c = λ values.
    let left : c.args.count - c.loop-made.made ≡ suc (c.args.count - (c.loop-made.made + 1)) = omega arith in
    let text : c.as_bytes.result.now ≡ c.traced_line-line.result.bytes = c.as_bytes.ensures.value ∙ c.as_str.ensures.value in
    let on =
    subst (λ k.
    TracesOn c.args.count k c.args.bench.now.state c.loop-made.bench.state (g.W.Sink.contents c.args.writer.now)
    (g.W.Sink.contents c.loop-made.writer))
    left c.loop-made.invariant.on in
    let written =
    subst (λ (of : List ℕ). Appends (g.W.Sink.contents c.loop-made.writer) (g.W.Sink.contents c.write_whole.new.writer) of)
    text c.in_default.ensures.written in
    let said = traces_refused c.args.count (c.args.count - (c.loop-made.made + 1)) values c.args.bench.now.state c.loop-made.bench.state
    _ (g.W.Sink.contents c.loop-made.writer) _ c.traced_line-line.result.bytes c.in-Err-step.refusal
    on c.traced_line-line.ensures written c.in-Err-step.ensures.refusal in
    rw c.in-Err-step.ensures.unchanged said

pub loop-made-preserved : goal.loop-made-preserved
loop-made-preserved g c =
    let left : c.args.count - c.loop-made.made ≡ suc (c.args.count - (c.loop-made.made + 1)) = omega arith in
    let text : c.as_bytes.result.now ≡ c.traced_line-line.result.bytes = c.as_bytes.ensures.value ∙ c.as_str.ensures.value in
    let on =
    subst (λ k.
    TracesOn c.args.count k c.args.bench.now.state c.loop-made.bench.state (g.W.Sink.contents c.args.writer.now)
    (g.W.Sink.contents c.loop-made.writer))
    left c.loop-made.invariant.on in
    let written =
    subst (λ (of : List ℕ). Appends (g.W.Sink.contents c.loop-made.writer) (g.W.Sink.contents c.write_whole.new.writer) of)
    text c.in_default.ensures.written in
    record {
      on = traces_more c.args.count (c.args.count - (c.loop-made.made + 1)) c.args.bench.now.state c.loop-made.bench.state
          c.step.new.self.state
          _ (g.W.Sink.contents c.loop-made.writer) _ c.traced_line-line.result.bytes on c.traced_line-line.ensures written
          c.in_default-step.ensures.refusal c.in_default-step.ensures.change c.step.ensures.others;
      clear = search rules;
    }

pub returns-clause-text : goal.returns-clause-text
returns-clause-text g c = λ values.
    traces_end c.args.count (c.args.count - c.loop-made.made) values c.args.bench.now.state
    c.loop-made.bench.state _ _ (omega arith) c.loop-made.invariant.on
