use Rattle.std.proofs.Common.{◌≡◌, ap, ◌∙◌}
use Rattle.h41_commands.specs.Blocks.{page_of_words}
use Rattle.h41_deck.proofs.Plugging.{plugs_done, plugs_refused, resized}
use Rattle.h41_xrom.specs.LabelledCalculator.{LabelledCalculator}
use Rattle.h41_deck.proofs.replies.plug_words.Goals as goal

pub returns-in-Ok-clause-plugs : goal.returns-in-Ok-clause-plugs
returns-in-Ok-clause-plugs g c =
    let words : c.deref.result.now ≡ page_of_words c.args.words.items =
    c.deref.ensures.value ∙ resized c.args.words.items _ _ c.args.words.ok.0 c.requires c.in_ok-resize.ensures.items in
    plugs_done c.args.bench.now.state c.args.page c.args.bank c.args.writable c.args.words.items c.deref.result.now
    c.calculator_mut.result.now.state c.plug.new.self.state (ap (λ (all : LabelledCalculator). all.state) c.calculator_mut.ensures.value)
    words
    c.in-Ok.ensures.accepted c.in-Ok.ensures.change

pub returns : goal.returns
returns g c =
    let words : c.deref.result.now ≡ page_of_words c.args.words.items =
    c.deref.ensures.value ∙ resized c.args.words.items _ _ c.args.words.ok.0 c.requires c.in_ok-resize.ensures.items in
    record {
      plugs =
          rw c.from.ensures (plugs_refused c.args.bench.now.state c.args.page c.args.bank c.args.writable
          c.args.words.items c.deref.result.now c.calculator_mut.result.now.state c.plug.new.self.state
          (ap (λ (all : LabelledCalculator). all.state) c.calculator_mut.ensures.value) words c.in-Err.refusal c.in-Err.ensures.refusal
          c.in_default.not-OutOfMemory c.in-Err.ensures.unchanged);
      unchanged = tt;
    }
