use Rattle.std.proofs.Common.{◌≡◌, ◌∷◌, ◌++◌, List, ℕ, arith, refl, sym, ◌∙◌, ap, drop, length, length-append, map}
use Rattle.h41_asm.specs.private.CodeStatements.{in_line}
use Rattle.h41_asm.specs.Faults.{line_length, read_length}
use Rattle.h41_asm.specs.private.KeptLines.{kept_lines, kept_names, kept_said, said_from}
use Rattle.h41_asm.specs.private.LabelTable.{labels_in}
use Rattle.h41_asm.specs.Placing.{Labels}
use Rattle.h41_asm.specs.SourceLines.{SourceLine, line_of, source_lines, words_of}
use Rattle.h41_lines.proofs.LineCount.{length-lines}
use Rattle.h41_asm.proofs.Keeping.{kept_next, length_of_line}
use Rattle.h41_asm.proofs.Placed.{IsPlaced, placed_next, placed_none, placed_within}
use Rattle.h41_asm.proofs.assembler.place.Goals as goal

pub loop-start-init : goal.loop-start-init
loop-start-init c =
    let count = length-lines c.args.text.now in
    rw (c.from-address.ensures, c.requires.lines, c.requires.names)
    (record {
      within = omega arith;
      count = omega (arith, count);
      placed = placed_none (labels_in c.args.labels.now) (source_lines c.args.text.now)
          c.args.origin c.requires.labels;
      length = refl;
      kept = refl;
    })

pub loop-start-preserved : goal.loop-start-preserved
loop-start-preserved c =
    let text : List ℕ = c.args.text.now in
    let number = c.loop-start.number in
    let start = c.loop-start.start in
    let address = c.loop-start.address in
    let before : Labels = labels_in c.loop-start.labels in
    let after : Labels = labels_in c.place_line.new.labels in
    let all : List SourceLine = source_lines text in
    let line : SourceLine = in_line c.read_line.result in
    let rest : List SourceLine = source_lines (drop c.line_at-next.result.1 text) in
    let own : line ≡ line_of (words_of c.line_at-next.result.0.now) = c.read_line.ensures in
    let left : source_lines (drop start text) ≡ line ∷ rest =
    ap (map (λ text. line_of (words_of text))) c.line_at-next.ensures.line ∙ ap (λ line. line ∷ rest) (sym own) in
    let placed : IsPlaced before all c.args.origin number address (line ∷ rest) = rw left at c.loop-start.invariant.placed in
    let gave = c.in-Ok.ensures in
    let count = ap length c.line_at-next.ensures.line in
    let within = placed_within _ address line gave.ok in
    let long : c.length.result ≡ line_length line = c.length.ensures ∙ ap read_length gave.read in
    record {
      within = omega (arith, within, long);
      count = omega (arith, count, c.loop-start.invariant.count);
      placed = rw long (placed_next before after all c.args.origin number address line rest placed gave.ok gave.labels);
      length = rw (c.in_ok-keep-in-Ok.ensures.names, c.in_ok-keep-in-Ok.ensures.lines) (omega (
        arith,
        c.loop-start.invariant.length,
        length_of_line number c.in-Ok.statement,
        length-append c.loop-start.names.items (kept_names c.in-Ok.statement),
        length-append c.loop-start.lines.items (kept_lines number c.in-Ok.statement),
      ));
      kept =
          rw (c.in_ok-keep-in-Ok.ensures.names, c.in_ok-keep-in-Ok.ensures.lines)
          (kept_next number c.in-Ok.statement line rest c.loop-start.lines.items c.loop-start.names.items
          c.loop-start.invariant.length gave.read
          ∙ ap (λ some. kept_said c.loop-start.lines.items c.loop-start.names.items ++ said_from number some) (sym left)
          ∙ c.loop-start.invariant.kept);
    }
