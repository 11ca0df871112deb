use Rattle.std.proofs.Common.{◌≡◌, ◌≤◌, ◌<◌, length, drop, arith, ap, false, sym, ◌∙◌}
use Rattle.std.proofs.lemmas.List.{take_rest}
use Rattle.std.proofs.lemmas.Bool.{eqb-true, eqb-false}
use Rattle.h41_asm.specs.SourceLines.{part_length}
use Rattle.h41_asm.proofs.FirstWord.{words_of-none, words_of-first, words_of-comment_alone}
use Rattle.h41_asm.proofs.words.SourceWordsIterator.next.Goals as goal

pub returns-in_err-start-clause-steps : goal.returns-in_err-start-clause-steps
returns-in_err-start-clause-steps c =
    let none = words_of-none c.args.self.now.rest.now c.in_err-start.ensures in
    rw c.from_residual.ensures (none, none)

pub returns-then-is_empty-clause-steps : goal.returns-then-is_empty-clause-steps
returns-then-is_empty-clause-steps c =
    let line = c.args.self.now.rest.now in
    let end : c.word_end.result ≡ part_length false (drop c.in_ok-start.start line) = simp take_rest at c.word_end.ensures.value in
    let empty : part_length false (drop c.in_ok-start.start line) ≡ 0 =
    omega
    (arith, c.split_at.ensures.front_len, eqb-true (length c.split_at.result.0.now) 0 (sym c.is_empty.ensures ∙ c.if-is_empty.true)) in
    let none = words_of-comment_alone line c.in_ok-start.start c.in_ok-start.ensures empty in
    (none, none)

pub returns-clause-steps : goal.returns-clause-steps
returns-clause-steps c =
    let line = c.args.self.now.rest.now in
    let end : c.word_end.result ≡ part_length false (drop c.in_ok-start.start line) = simp take_rest at c.word_end.ensures.value in
    let within : c.word_end.result ≤ length (drop c.in_ok-start.start line) = simp take_rest at c.word_end.ensures.bound in
    let not_empty = eqb-false (length c.split_at.result.0.now) 0 (sym c.is_empty.ensures ∙ c.if-is_empty.false) in
    let some : 0 < c.word_end.result = omega (arith, c.split_at.ensures.front_len, not_empty) in
    simp (c.split_at.ensures.front, c.split_at.ensures.back, take_rest)
    (words_of-first line c.in_ok-start.start c.word_end.result c.in_ok-start.ensures end within some)

pub returns-clause-goes : goal.returns-clause-goes
returns-clause-goes c =
    record { on = λ _. (tt, tt, omega (arith, ap length (returns-clause-steps c))); keeps = tt; rests = λ _. tt }
