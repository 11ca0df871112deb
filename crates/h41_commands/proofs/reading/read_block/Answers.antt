use Rattle.std.proofs.Common.{◌≡◌, ℕ, Bool, Err, false, List, Ok, ap, refl, rules, subst, sym, ◌∙◌}
use Rattle.h41_ends.specs.InputLines.{MayFollow}
use Rattle.h41_commands.specs.Commands.{command_of, kind_of}
use Rattle.h41_commands.proofs.ClosedBlocks.{never_open}
use Rattle.h41_commands.proofs.ItemLines.{block_given, block_open, block_refused}
use Rattle.h41_commands.specs.private.BlockReading.{SpellBlock}
use Rattle.h41_lines.specs.Words.{words_of}
use Rattle.h41_commands.specs.declared.fault.ItemFault.{ItemFault}
use Rattle.h41_commands.specs.declared.item.Item.TheVariants.{Refused}
use Rattle.h41_commands.specs.declared.refusal.LineRefusal.{LineRefusal}
use Rattle.h41_commands.specs.private.ItemReading.{is_unended}
use Rattle.h41_commands.proofs.ParsedCommands.{never_unended}
use Rattle.std.proofs.lemmas.Result.{err_from_is_err_and}
use Rattle.h41_commands.proofs.reading.read_block.Goals as goal
use Rattle.h41_commands.proofs.reading.read_block.Goals.{in-Ok, in-Err+in-Words-1, in-Err+in-Image-1, in-Err+in-Source-1, in-Err+in-Bytes-1}
use Rattle.h41_commands.proofs.reading.read_block.Goals.{in-Err+in-Text-1, in-Err+in-Nothing-1}

pub invariant_of-result-clause-own : goal.invariant_of-result-clause-own
invariant_of-result-clause-own g c =
    let taken = rw c.in-Some.is at c.in_ok-block.ensures.block in
    let kind : c.opened_kind.result ≡ kind_of c.in-Ok.command = rw c.in-Ok.is at c.opened_kind.ensures in
    taken.taken.taken.kind_is ∙ c.of_kind-block.ensures.kind_is ∙ kind

pub invariant_of-result-clause-ended : goal.invariant_of-result-clause-ended
invariant_of-result-clause-ended g c =
    let taken = rw c.in-Some.is at c.in_ok-block.ensures.block in
    never_open c.in-Some.block taken.taken.inside c.in-Ok.command taken.taken.taken.lines_are

pub returns-in_default-clause-item : goal.returns-in_default-clause-item
returns-in_default-clause-item g c =
    let is = sym (c.block_command-command.ensures ∙ ap (λ (line : List ℕ). command_of (words_of line)) c.line.ensures) in
    let taken = rw c.in_default.is at c.in_ok-block.ensures.block in
    let end = rw c.in_default.is at c.in_ok-block.ensures.end in
    rw is (record {
      lines = taken.lines;
      reads = taken.reads;
      spelled = λ more may.
          block_open taken.lines c.block_command-command.result more taken.taken
          (subst (λ (ended : Bool). MayFollow ended more) (end refl) may);
    })

pub returns-clause-item : goal.returns-clause-item
returns-clause-item g c =
    let is = sym (c.block_command-command.ensures ∙ ap (λ (line : List ℕ). command_of (words_of line)) c.line.ensures) in
    let taken = rw c.in-Some.is at c.in_ok-block.ensures.block in
    let refused : (why : LineRefusal) → c.match-command.result ≡ Refused why → c.block_command-command.result ≡ Err why
    → SpellBlock {E = ItemFault} c.block_command-command.result (Ok c.match-command.result) c.read_lines.new.input.at_end taken.lines =
    λ why refuses parsed.
    rw refuses (λ more may. block_refused _ taken.lines c.in-Some.block c.block_command-command.result why more taken.taken parsed) in
    let spelled : SpellBlock {E = ItemFault} c.block_command-command.result (Ok c.match-command.result) c.read_lines.new.input.at_end
    taken.lines =
    elim c.match-command.branch [
      | in-Ok w ↦
          let kind : c.opened_kind.result ≡ kind_of w.in-Ok.command = rw w.in-Ok.is at c.opened_kind.ensures in
          rw w.result-is
          (λ more may.
          block_given _ taken.lines c.in-Some.block c.block_command-command.result w.in-Ok.command more taken.taken w.in-Ok.is
          (c.of_kind-block.ensures.kind_is ∙ kind))
      | in-Err+in-Words-1 w ↦ refused w.in-Err.refusal w.result-is w.in-Err.is
      | in-Err+in-Image-1 w ↦ refused w.in-Err.refusal w.result-is w.in-Err.is
      | in-Err+in-Source-1 w ↦ refused w.in-Err.refusal w.result-is w.in-Err.is
      | in-Err+in-Bytes-1 w ↦ refused w.in-Err.refusal w.result-is w.in-Err.is
      | in-Err+in-Text-1 w ↦ refused w.in-Err.refusal w.result-is w.in-Err.is
      | in-Err+in-Nothing-1 w ↦ refused w.in-Err.refusal w.result-is w.in-Err.is
    ] in
    rw is (record { lines = taken.lines; reads = taken.reads; spelled = spelled })

pub returns-in_default-clause-heard : goal.returns-in_default-clause-heard
returns-in_default-clause-heard g c =
    let is = sym (c.block_command-command.ensures ∙ ap (λ (line : List ℕ). command_of (words_of line)) c.line.ensures) in
    let taken = rw c.in_default.is at c.in_ok-block.ensures.heard in
    let end = rw c.in_default.is at c.in_ok-block.ensures.end in
    rw is (record {
      lines = taken.lines;
      hears = taken.hears;
      spelled = λ more may.
          block_open taken.lines c.block_command-command.result more taken.taken
          (subst (λ (ended : Bool). MayFollow ended more) (end refl) may);
    })

pub returns-clause-heard : goal.returns-clause-heard
returns-clause-heard g c =
    let is = sym (c.block_command-command.ensures ∙ ap (λ (line : List ℕ). command_of (words_of line)) c.line.ensures) in
    let taken = rw c.in-Some.is at c.in_ok-block.ensures.heard in
    let refused : (why : LineRefusal) → c.match-command.result ≡ Refused why → c.block_command-command.result ≡ Err why
    → SpellBlock {E = ItemFault} c.block_command-command.result (Ok c.match-command.result) c.read_lines.new.input.at_end taken.lines =
    λ why refuses parsed.
    rw refuses (λ more may. block_refused _ taken.lines c.in-Some.block c.block_command-command.result why more taken.taken parsed) in
    let spelled : SpellBlock {E = ItemFault} c.block_command-command.result (Ok c.match-command.result) c.read_lines.new.input.at_end
    taken.lines =
    elim c.match-command.branch [
      | in-Ok w ↦
          let kind : c.opened_kind.result ≡ kind_of w.in-Ok.command = rw w.in-Ok.is at c.opened_kind.ensures in
          rw w.result-is
          (λ more may.
          block_given _ taken.lines c.in-Some.block c.block_command-command.result w.in-Ok.command more taken.taken w.in-Ok.is
          (c.of_kind-block.ensures.kind_is ∙ kind))
      | in-Err+in-Words-1 w ↦ refused w.in-Err.refusal w.result-is w.in-Err.is
      | in-Err+in-Image-1 w ↦ refused w.in-Err.refusal w.result-is w.in-Err.is
      | in-Err+in-Source-1 w ↦ refused w.in-Err.refusal w.result-is w.in-Err.is
      | in-Err+in-Bytes-1 w ↦ refused w.in-Err.refusal w.result-is w.in-Err.is
      | in-Err+in-Text-1 w ↦ refused w.in-Err.refusal w.result-is w.in-Err.is
      | in-Err+in-Nothing-1 w ↦ refused w.in-Err.refusal w.result-is w.in-Err.is
    ] in
    rw is (record { lines = taken.lines; hears = taken.hears; spelled = spelled })

pub returns-clause-open : goal.returns-clause-open
returns-clause-open g c =
    let shut : is_unended c.block_command-command.result ≡ false = ap is_unended c.block_command-command.ensures ∙ never_unended _ in
    search rules

pub returns-in_err-block : goal.returns-in_err-block
returns-in_err-block g c =
    let failed = err_from_is_err_and c.from_residual.result c.from_residual.ensures.1 in
    let fault = c.in_err-block.ensures in
    rw (failed.1, failed.2)
    (record {
      item = record { lines = fault.block.lines; reads = fault.block.reads; spelled = fault.block.taken };
      heard = record { lines = fault.heard.lines; hears = fault.heard.hears; spelled = fault.heard.taken };
      bound = tt;
      «open» = tt;
      stopped = λ is. fault.stopped cc;
      cause = λ is. fault.cause cc;
      flushed = λ is. fault.flushed cc;
      kept = fault.kept;
      counted = fault.counted;
      reader = λ not. fault.reader (λ is. not cc);
      writer = fault.writer;
    })
