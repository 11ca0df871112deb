use Rattle.std.proofs.Common.{None, Ok, refl, rules, subst, ◌∙◌}
use Rattle.std.proofs.lemmas.Result.{err_from_is_err_and}
use Rattle.std.specs.Io.KnownBytes.{Appends}
use Rattle.h41_commands.specs.declared.commands.Command.TheVariants as commands
use Rattle.h41_ends.specs.Ends.{AppendsPart}
use Rattle.h41_deck.specs.private.Writing.{IsShown}
use Rattle.h41_deck.proofs.Commanded.{made_alone, part_alone, show_said}
use Rattle.h41_deck.proofs.ShortLines.{position_part, position_said}
use Rattle.h41_deck.proofs.replies.view.show.Goals as goal
use Rattle.h41_deck.proofs.replies.view.show.Goals.{in-Cpu+in_ok-text-in-Cpu, in-Register+in_ok-text-in-Register}
use Rattle.h41_deck.proofs.replies.view.show.Goals.{in-Stack+in_ok-text-in-Stack, in-Flags+in_ok-text-in-Flags}
use Rattle.h41_deck.proofs.replies.view.show.Goals.{in-Alpha+in_ok-text-in-Alpha, in-Display+in_ok-text-in-Display}
use Rattle.h41_deck.proofs.replies.view.show.Goals.{in-Lines+in_ok-text-in-Lines, in-Functions+in_ok-text-in-Functions}

pub returns-in-Position-clause-text : goal.returns-in-Position-clause-text
returns-in-Position-clause-text g c =
    rw c.in-Position.is (λ values. position_said c.args.bench.now.state values c.as_str-in-Position.result.now _ _
    (c.as_str-in-Position.ensures.value ∙ c.position.ensures) c.in_ok-write_line-in-Position.ensures.written)

pub returns-in_err-write_line-in-Position-clause-text : goal.returns-in_err-write_line-in-Position-clause-text
returns-in_err-write_line-in-Position-clause-text g c =
    let failed = err_from_is_err_and c.from_residual-in_err-write_line-in-Position.result
    c.from_residual-in_err-write_line-in-Position.ensures.1 in
    rw (failed.1, failed.2, c.in-Position.is) (λ values. position_part c.args.bench.now.state values c.as_str-in-Position.result.now _ _
    (c.as_str-in-Position.ensures.value ∙ c.position.ensures) c.in_err-write_line-in-Position.ensures.written)

pub returns-in_err-say_made-in-Image-clause-text : goal.returns-in_err-say_made-in-Image-clause-text
returns-in_err-say_made-in-Image-clause-text g c =
    let failed = err_from_is_err_and c.from_residual-in_err-say_made-in-Image.result
    c.from_residual-in_err-say_made-in-Image.ensures.1 in
    let shown : IsShown c.args.view c.args.bench.now.state c.in_ok-image-in-Image.image = search rules in
    rw (failed.1, failed.2)
    (λ values. part_alone (commands.Show c.args.view) values c.args.bench.now.state _ _ c.in_ok-image-in-Image.image
    (show_said (commands.Show c.args.view) values c.args.view c.args.bench.now.state c.in_ok-image-in-Image.image refl shown)
    c.in_err-say_made-in-Image.ensures.written)

pub returns-in-Image-clause-text : goal.returns-in-Image-clause-text
returns-in-Image-clause-text g c =
    let shown : IsShown c.args.view c.args.bench.now.state c.in_ok-image-in-Image.image = search rules in
    λ values. made_alone (commands.Show c.args.view) values c.args.bench.now.state _ _ c.in_ok-image-in-Image.image
    c.in_ok-say_made-in-Image.field-0 c.in_ok-say_made-in-Image.ensures.refusal
    (show_said (commands.Show c.args.view) values c.args.view c.args.bench.now.state c.in_ok-image-in-Image.image refl shown)
    c.in_ok-say_made-in-Image.ensures.written

pub returns-in_err-write_whole-clause-text : goal.returns-in_err-write_whole-clause-text
returns-in_err-write_whole-clause-text g c =
    let failed = err_from_is_err_and c.from_residual-in_err-write_whole.result c.from_residual-in_err-write_whole.ensures.1 in
    let shown : IsShown c.args.view c.args.bench.now.state (Ok c.match-view.text) = elim c.match-view.branch [
      | in-Cpu+in_ok-text-in-Cpu w ↦ search rules
      | in-Register+in_ok-text-in-Register w ↦ search rules
      | in-Stack+in_ok-text-in-Stack w ↦ search rules
      | in-Flags+in_ok-text-in-Flags w ↦ search rules
      | in-Alpha+in_ok-text-in-Alpha w ↦ search rules
      | in-Display+in_ok-text-in-Display w ↦ search rules
      | in-Lines+in_ok-text-in-Lines w ↦ search rules
      | in-Functions+in_ok-text-in-Functions w ↦ search rules
    ] in
    rw (failed.1, failed.2)
    (λ values. part_alone (commands.Show c.args.view) values c.args.bench.now.state _ _ (Ok c.match-view.text)
    (show_said (commands.Show c.args.view) values c.args.view c.args.bench.now.state (Ok c.match-view.text) refl shown)
    (subst (AppendsPart (g.W.Sink.contents c.args.writer.now) (g.W.Sink.contents c.write_whole.new.writer)) c.deref.ensures.value
    c.in_err-write_whole.ensures.written))

pub returns-clause-text : goal.returns-clause-text
returns-clause-text g c =
    let shown : IsShown c.args.view c.args.bench.now.state (Ok c.match-view.text) = elim c.match-view.branch [
      | in-Cpu+in_ok-text-in-Cpu w ↦ search rules
      | in-Register+in_ok-text-in-Register w ↦ search rules
      | in-Stack+in_ok-text-in-Stack w ↦ search rules
      | in-Flags+in_ok-text-in-Flags w ↦ search rules
      | in-Alpha+in_ok-text-in-Alpha w ↦ search rules
      | in-Display+in_ok-text-in-Display w ↦ search rules
      | in-Lines+in_ok-text-in-Lines w ↦ search rules
      | in-Functions+in_ok-text-in-Functions w ↦ search rules
    ] in
    λ values. made_alone (commands.Show c.args.view) values c.args.bench.now.state _ _ (Ok c.match-view.text) None refl
    (show_said (commands.Show c.args.view) values c.args.view c.args.bench.now.state (Ok c.match-view.text) refl shown)
    (subst (Appends (g.W.Sink.contents c.args.writer.now) (g.W.Sink.contents c.write_whole.new.writer)) c.deref.ensures.value
    c.in_ok-write_whole.ensures.written)
