use Rattle.std.proofs.Common.{◌≡◌, ℕ, List, subst, ◌∙◌}
use Rattle.std.proofs.lemmas.Result.{err_from_is_err_and}
use Rattle.h41_ends.specs.Ends.{AppendsPart}
use Rattle.h41_deck.specs.Runs.{ran_text}
use Rattle.h41_deck.proofs.Running.{run_in_part}
use Rattle.h41_deck.proofs.replies.running.run.Goals as goal

pub returns-in_err-write_whole-clause-text : goal.returns-in_err-write_whole-clause-text
returns-in_err-write_whole-clause-text g c =
    let failed = err_from_is_err_and c.from_residual.result c.from_residual.ensures.1 in
    let text : c.as_bytes.result.now ≡ ran_text c.run-made.result.0 c.run-made.result.1 =
    c.as_bytes.ensures.value ∙ c.as_str.ensures.value ∙ c.ran_text.ensures in
    rw failed.1 (λ values.
    run_in_part c.args.limit c.run-made.result.0 c.run-made.result.1 values c.args.bench.now.state c.run-made.new.self.state _ _
    c.run-made.ensures.run
    (subst (λ (of : List ℕ). AppendsPart (g.W.Sink.contents c.args.writer.now) (g.W.Sink.contents c.write_whole.new.writer) of)
    text c.in_err-write_whole.ensures.written))
