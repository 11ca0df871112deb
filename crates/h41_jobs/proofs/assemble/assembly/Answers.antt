use Rattle.std.proofs.Common.{◌≡◌, Ok, Err, ap, refl, ◌∙◌}
use Rattle.h41_commands.specs.declared.refusal.LineRefusal.TheVariants.{Source}
use Rattle.h41_refusals.specs.declared.refusal.Refusal.TheVariants.{Line}
use Rattle.h41_refusals.specs.Refusals.{refusal_line}
use Rattle.h41_jobs.specs.Texts.{SourceAssemblesTo}
use Rattle.h41_jobs.specs.WordTexts.{word_lines}
use Rattle.h41_jobs.proofs.InputLemmas.{source_refused}
use Rattle.h41_jobs.proofs.assemble.assembly.Goals as goal

pub returns-in_ok-word_lines-in-Ok : goal.returns-in_ok-word_lines-in-Ok
returns-in_ok-word_lines-in-Ok c =
    let given : SourceAssemblesTo c.args.origin c.args.source.now (Ok c.in-Ok.words.items) =
    record { bound = c.requires; gives = c.in-Ok.ensures.words } in
    let lines : c.in_ok-word_lines-in-Ok.field-0.items ≡ word_lines c.in-Ok.words.items =
    c.in_ok-word_lines-in-Ok.ensures ∙ ap word_lines c.deref.ensures.value in
    record {
      text = (Ok c.in-Ok.words.items, given, lines);
      ends = (Ok c.in-Ok.words.items, given, refl);
      kind = tt;
    }

pub returns-in_ok-from_slice-in-Err-Line : goal.returns-in_ok-from_slice-in-Err-Line
returns-in_ok-from_slice-in-Err-Line c =
    let own : c.of_source_line.result ≡ Source c.in-Err-Line.fault c.in-Err-Line.line = cc in
    let given : SourceAssemblesTo c.args.origin c.args.source.now (Err c.of_source_line.result) =
    record {
      bound = c.requires;
      gives = source_refused c.args.source.now c.args.origin c.in-Err-Line.line c.in-Err-Line.fault c.of_source_line.result
          (rw (c.in-Err-Line.is, c.in-Err-Line.field-0-is) at c.assemble.ensures.err) own;
    } in
    let line : c.in_ok-from_slice-in-Err-Line.field-0.items ≡ refusal_line (Line c.of_source_line.result) =
    c.in_ok-from_slice-in-Err-Line.ensures.items ∙ c.as_bytes.ensures.value ∙ c.as_str.ensures.value ∙ c.line.ensures
    ∙ ap refusal_line c.from-refusal.ensures in
    record {
      text = (Err c.of_source_line.result, given, line);
      ends = (Err c.of_source_line.result, given, refl);
      kind = tt;
    }
