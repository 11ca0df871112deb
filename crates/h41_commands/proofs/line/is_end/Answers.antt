use Rattle.std.proofs.Common.{not, sym}
use Rattle.std.proofs.Math.Bool.{and-false}
use Rattle.h41_lines.proofs.FirstWord.{words_of-none}
use Rattle.h41_commands.specs.DeckLines.{is_long}
use Rattle.h41_commands.proofs.EndLines.{other_start}
use Rattle.h41_commands.proofs.line.is_end.Goals as goal

pub returns-in_default : goal.returns-in_default
returns-in_default c =
    let line = c.args.line.now in
    rw (other_start line c.in-Some.start c.in-Some.ensures c.if-line-start-eq101.false) (sym (and-false (not (is_long line))))

pub returns-in_default-2 : goal.returns-in_default-2
returns-in_default-2 c = rw (words_of-none c.args.line.now c.in_default.ensures) (sym (and-false (not (is_long c.args.line.now))))
