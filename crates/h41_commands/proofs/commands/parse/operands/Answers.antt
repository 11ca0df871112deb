use Rattle.std.proofs.Common.{◌≡◌, ◌≤◌, ℕ, drop, length, ap, ◌∙◌, rules}
use Rattle.std.proofs.lemmas.List.{take_rest}
use Rattle.h41_lines.specs.Words.{words_of}
use Rattle.h41_commands.proofs.NameEnds.{name_end-le, words_behind}
use Rattle.h41_commands.proofs.commands.parse.operands.Goals as goal

pub slice_bounds-new-count : goal.slice_bounds-new-count
slice_bounds-new-count c = rw c.requires (name_end-le c.args.line.now)

pub slice_bounds-new-start : goal.slice_bounds-new-start
slice_bounds-new-start c = let within : c.args.at ≤ length c.args.line.now = slice_bounds-new-count c in search rules

pub returns : goal.returns
returns c =
    let line = c.args.line.now in
    let rest : c.new.result.rest.now ≡ drop c.args.at line = simp take_rest at c.new.ensures in
    ap words_of rest ∙ ap (λ (at : ℕ). words_of (drop at line)) c.requires ∙ words_behind line
