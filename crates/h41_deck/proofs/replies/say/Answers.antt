use Rattle.std.proofs.Common.{rules}
use Rattle.h41_deck.proofs.SaidAlone.{nothing_said}
use Rattle.std.proofs.lemmas.Result.{err_from_is_err_and}
use Rattle.h41_commands.specs.private.TakenBlocks.{judgement}
use Rattle.h41_deck.proofs.Commanded.{load_text, plug_text, refused_text}
use Rattle.h41_deck.proofs.replies.say.Goals as goal

pub returns-in-Some : goal.returns-in-Some
returns-in-Some g c = record {
  text =
      rw c.from.ensures (refused_text (judgement c.args.block) c.args.command c.in-Some.refusal c.args.bench.now.state _ c.in-Some.ensures);
  memory = λ is. cc;
  accepted = λ is. cc;
  unchanged = λ is. cc;
  mark = c.requires.clear;
}

pub returns-in_ok-plug-in-Plug : goal.returns-in_ok-plug-in-Plug
returns-in_ok-plug-in-Plug g c = record {
  text = plug_text c.args.block c.args.command c.in-Plug.kind c.in-Plug.page c.in-Plug.bank c.in-Plug.writable
      c.args.bench.now.state _ _ _ c.in-Plug.is c.requires.block c.in_ok-plug-in-Plug.ensures.plugs;
  memory = λ is. cc;
  accepted = λ is. cc;
  unchanged = λ is. cc;
  mark = c.requires.clear;
}

pub returns-in_ok-load-in-Load : goal.returns-in_ok-load-in-Load
returns-in_ok-load-in-Load g c = record {
  text = load_text c.args.block c.args.command c.in-Load._kind c.args.bench.now.state
      _ _ _ c.in-Load.is c.requires.block c.in_ok-load-in-Load.ensures.loads;
  memory = λ is. cc;
  accepted = λ is. cc;
  unchanged = λ is. cc;
  mark = c.requires.clear;
}

pub returns-in_err-plug-in-Plug : goal.returns-in_err-plug-in-Plug
returns-in_err-plug-in-Plug g c =
    let failed = err_from_is_err_and c.from_residual.result c.from_residual.ensures.1 in
    record {
      text = nothing_said _ _ failed.1 _ _ _ _ _ failed.2;
      memory = search rules;
      accepted = search rules;
      unchanged = λ is. c.in_err-plug-in-Plug.ensures.unchanged;
      mark = rw (failed.1, failed.2) c.requires.clear;
    }

pub returns-in_err-load-in-Load : goal.returns-in_err-load-in-Load
returns-in_err-load-in-Load g c =
    let failed = err_from_is_err_and c.from_residual-in_err-load-in-Load.result c.from_residual-in_err-load-in-Load.ensures.1 in
    record {
      text = nothing_said _ _ failed.1 _ _ _ _ _ failed.2;
      memory = search rules;
      accepted = search rules;
      unchanged = λ is. c.in_err-load-in-Load.ensures.unchanged;
      mark = rw (failed.1, failed.2) c.requires.clear;
    }
