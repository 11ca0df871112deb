-- The first line of a text, and the lines after it.
use Rattle.std.proofs.Common.{not, ◌≡◌, ℕ, ◌+◌, ◌-◌, ◌<◌, ◌≤◌, Bool, false, cond, ◌==◌, List, [], ◌∷◌, length, length-drop, slice_index}
use Rattle.std.proofs.Common.{take, drop, Some, None, refl, sym, ◌∙◌, ap, arith}
use Rattle.std.specs.List.{slice_split, position, position_or_len, suffix_len, after_last, All}
use Rattle.std.specs.Str.Lines.{lines_of_parts, strip_carriage_return}
use Rattle.std.proofs.lemmas.Bool.{ne_eqb}
use Rattle.std.proofs.lemmas.List.Splits.{slice_split_first, slice_split_none, length-slice_split}
use Rattle.std.proofs.lemmas.List.Sums.{fails_before_first, suffix_len_is}
use Rattle.h41_lines.specs.Lines.{ended_lines, lines}
use Rattle.h41_lines.proofs.Positions.{position_some, position_none}

lines_of_parts-cons : (x : List ℕ) (parts : List (List ℕ)) → 0 < length parts
    → lines_of_parts (x ∷ parts) ≡ strip_carriage_return x ∷ lines_of_parts parts
lines_of_parts-cons x [] l = absurd (omega arith)
lines_of_parts-cons x (y ∷ more) l = refl

pub lines_at : (text : List ℕ) (n : ℕ) → Some n ≡ position (λ byte. byte == 10) text
    → lines text ≡ strip_carriage_return (take n text) ∷ lines (drop (n + 1) text)
lines_at text n e =
    let p : ℕ → Bool = λ byte. byte == 10 in
    let at = position_some p text n e in
    let here : n ≡ position_or_len p text = at.0 in
    let first = slice_split_first p text 0 (omega (arith, at.1)) in
    ap lines_of_parts first
    ∙ lines_of_parts-cons _ (slice_split p (drop (position_or_len p text + 1) text))
    (omega (arith, length-slice_split p (drop (position_or_len p text + 1) text)))
    ∙ ap (λ (k : ℕ). strip_carriage_return (take k text) ∷ lines (drop (k + 1) text)) (sym here)

pub lines_last : (text : List ℕ) → None ≡ position (λ byte. byte == 10) text → (length text ≡ 0 → ⊥) → lines text ≡ text ∷ []
lines_last text e some =
    let p : ℕ → Bool = λ byte. byte == 10 in
    let end : position_or_len p text ≡ length text = position_none p text e in
    let none : All (λ x. p x ≡ false) text = λ k d l. fails_before_first p text k d (omega arith) in
    ap lines_of_parts (slice_split_none p text none) ∙ ap (λ t. cond t [] (text ∷ [])) (ne_eqb (length text) 0 some)

-- The bytes up to the last line end, if it is right before this place, or if there is none.
pub ended_at : (text : List ℕ) (end : ℕ) → end ≤ length text → ((k : ℕ) → end ≤ k → k < length text → (slice_index text k == 10) ≡ false)
    → (0 < end → slice_index text (end - 1) ≡ 10) → take end text ≡ ended_lines text
ended_at text end within none last =
    let suffix =
    suffix_len_is (λ byte. not (byte == 10)) text end 0 within
    (λ k from below. ap not (none k from below)) (λ some. ap (λ byte. not (byte == 10)) (last some)) in
    let from : length text - suffix_len (λ byte. not (byte == 10)) text ≡ end = omega (arith, suffix) in
    let after : length (after_last (λ byte. byte == 10) text) ≡ length text - end =
    ap (λ (k : ℕ). length (drop k text)) from ∙ length-drop end text in
    ap (λ (k : ℕ). take k text) (omega (arith, after))
