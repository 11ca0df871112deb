-- The line of a text that begins at a position.
use Rattle.std.proofs.Common.{◌≡◌, ℕ, ◌+◌, ◌<◌, ◌==◌, List, ◌∷◌, length, length-drop, take, drop, Some, None, sym, ◌∙◌, ap, arith}
use Rattle.std.specs.List.{position}
use Rattle.std.specs.Str.Lines.{strip_carriage_return}
use Rattle.std.proofs.Math.Seq.{drop-length}
use Rattle.std.proofs.lemmas.List.{drop-drop}
use Rattle.h41_lines.proofs.FirstLine.{lines_at, lines_last}
use Rattle.h41_asm.specs.SourceLines.{lines}

pub line_ended : (text : List ℕ) (start end : ℕ) → Some end ≡ position (λ byte. byte == 10) (drop start text)
    → lines (drop start text) ≡ strip_carriage_return (take end (drop start text)) ∷ lines (drop (start + end + 1) text)
line_ended text start end e =
    let behind : drop (end + 1) (drop start text) ≡ drop (start + end + 1) text =
    drop-drop (end + 1) start text ∙ ap (λ (n : ℕ). drop n text) (omega arith) in
    lines_at (drop start text) end e ∙ ap (λ rest. strip_carriage_return (take end (drop start text)) ∷ lines rest) behind

pub last_line : (text : List ℕ) (start : ℕ) → start < length text → None ≡ position (λ byte. byte == 10) (drop start text)
    → lines (drop start text) ≡ drop start text ∷ lines (drop (length text) text)
last_line text start within e =
    let long = length-drop start text in
    lines_last (drop start text) e (λ none. omega (arith, long, none)) ∙ ap (λ rest. drop start text ∷ lines rest) (sym (drop-length text))
