use Rattle.std.proofs.Common.{◌≡◌, arith}
use Rattle.h41_commands.specs.declared.refusal.LineRefusal.TheVariants.{Source}
use Rattle.h41_commands.proofs.Filling.{fills_fault, fills_words}
use Rattle.h41_commands.proofs.blocks.source_text.SourceText.into_words.Goals as goal

pub returns-in-Ok-clause-words : goal.returns-in-Ok-clause-words
returns-in-Ok-clause-words c =
    fills_words _ _ c.args.page _ c.in-Ok.words.items _ c.deref.ensures.value (omega arith)
    c.in-Ok.ensures.words (rw c.deref-in-Ok.ensures.value at c.page_numbers.ensures.fitting)

pub returns-in-Err-Line-clause-words : goal.returns-in-Err-Line-clause-words
returns-in-Err-Line-clause-words c =
    let own : c.of_source_line.result ≡ Source c.in-Err-Line.fault c.in-Err-Line.line = cc in
    fills_fault _ _ c.args.page _ _ _ _ c.deref.ensures.value (omega arith)
    (rw (c.in-Err-Line.is, c.in-Err-Line.field-0-is) at c.assemble.ensures.err)
    own
