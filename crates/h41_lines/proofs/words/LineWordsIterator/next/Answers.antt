use Rattle.std.proofs.Common.{◌≡◌, length, drop, arith, ap}
use Rattle.std.proofs.lemmas.List.{take_rest}
use Rattle.std.specs.List.{position_or_len}
use Rattle.h41_lines.specs.Words.{is_blank}
use Rattle.h41_lines.proofs.FirstWord.{words_of-none, words_of-first, word_end_is, word_end-le}
use Rattle.h41_lines.proofs.words.LineWordsIterator.next.Goals as goal

pub returns-in_err-start-clause-steps : goal.returns-in_err-start-clause-steps
returns-in_err-start-clause-steps c =
    let none = words_of-none c.args.self.now.rest.now c.in_err-start.ensures in
    rw c.from_residual.ensures (none, none)

pub split_at-requires : goal.split_at-requires
split_at-requires c =
    let line = c.args.self.now.rest.now in
    let end : c.unwrap_or-end.result ≡ position_or_len is_blank (drop c.in_ok-start.start line) =
    word_end_is (drop c.in_ok-start.start line) c.word_end.result c.unwrap_or-end.result
    (simp take_rest at c.word_end.ensures) (simp take_rest at c.unwrap_or-end.ensures) in
    rw take_rest (word_end-le (drop c.in_ok-start.start line) c.unwrap_or-end.result end)

pub returns-clause-steps : goal.returns-clause-steps
returns-clause-steps c =
    let line = c.args.self.now.rest.now in
    let end : c.unwrap_or-end.result ≡ position_or_len is_blank (drop c.in_ok-start.start line) =
    word_end_is (drop c.in_ok-start.start line) c.word_end.result c.unwrap_or-end.result
    (simp take_rest at c.word_end.ensures) (simp take_rest at c.unwrap_or-end.ensures) in
    simp (c.split_at.ensures.front, c.split_at.ensures.back, take_rest)
    (words_of-first line c.in_ok-start.start c.unwrap_or-end.result c.in_ok-start.ensures end)

pub returns-clause-goes : goal.returns-clause-goes
returns-clause-goes c =
    record { on = λ _. (tt, tt, omega (arith, ap length (returns-clause-steps c))); keeps = tt; rests = λ _. tt }
