use Rattle.std.proofs.Common.{◌≡◌, ◌+◌, ◌-◌, arith, drop, refl}
use Rattle.std.proofs.lemmas.List.{take_rest}
use Rattle.std.specs.List.{position_or_len}
use Rattle.h41_lines.proofs.FirstWord.{words_of-none, word_end_is}
use Rattle.h41_lines.specs.Words.{is_blank}
use Rattle.h41_commands.proofs.NameEnds.{named_told}
use Rattle.h41_commands.proofs.line.named_line.Goals as goal

pub returns-in_err-start : goal.returns-in_err-start
returns-in_err-start c =
    let none = words_of-none c.args.line.now c.in_err-start.ensures in
    rw (c.from_residual.ensures, none) refl

pub returns : goal.returns
returns c =
    let line = c.args.line.now in
    let start = c.in_ok-start.start in
    let rest = drop (start + 1) line in
    let n = c.unwrap_or.result in
    let end : n ≡ position_or_len is_blank rest =
    word_end_is rest c.word_end.result n (simp take_rest at c.word_end.ensures) (simp take_rest at c.unwrap_or.ensures) in
    let length : start + 1 + n - start ≡ 1 + n = omega arith in
    named_told line start n c.of_word-name.result c.in_ok-start.ensures end (rw length at c.of_word-name.ensures)
