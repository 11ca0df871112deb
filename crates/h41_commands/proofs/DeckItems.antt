-- The commands of a deck, line by line.
use Rattle.std.proofs.Common.{◌≡◌, ℕ, zero, suc, ◌+◌, ◌≤◌, true, false, List, [], ◌∷◌, length, length-drop, Err, refl, ◌∙◌, arith}
use Rattle.std.proofs.Common.{if◌then◌else◌}
use Rattle.std.proofs.lemmas.Bool.{cond-true, cond-false}
use Rattle.std.specs.List.{after_first, position_or_len}
use Rattle.h41_commands.specs.Commands.{is_opening}
use Rattle.h41_commands.specs.Items.{opened_block, spelled_by, spelled_within, commands}
use Rattle.h41_lines.specs.Words.{words_of}
use Rattle.h41_commands.specs.DeckLines.{is_long, is_skipped, is_end}
use Rattle.h41_commands.specs.declared.refusal.LineRefusal.TheVariants.{LineTooLong}

after_first-le : (lines : List (List ℕ)) (most : ℕ) → length lines ≤ most → length (after_first is_end lines) ≤ most
after_first-le lines most short = omega (arith, length-drop (position_or_len is_end lines + 1) lines)

-- A bound that is large enough changes nothing.
spelled_within-enough : (m n : ℕ) (lines : List (List ℕ)) → length lines ≤ m → length lines ≤ n
    → spelled_within m lines ≡ spelled_within n lines
spelled_within-enough zero zero lines p q = refl
spelled_within-enough zero (suc n) [] p q = refl
spelled_within-enough zero (suc n) (line ∷ rest) p q = absurd (omega arith)
spelled_within-enough (suc m) zero [] p q = refl
spelled_within-enough (suc m) zero (line ∷ rest) p q = absurd (omega arith)
spelled_within-enough (suc m) (suc n) [] p q = refl
spelled_within-enough (suc m) (suc n) (line ∷ rest) p q =
    let on = spelled_within-enough m n rest (omega arith) (omega arith) in
    let after =
    spelled_within-enough m n (after_first is_end rest) (after_first-le rest m (omega arith)) (after_first-le rest n (omega arith)) in
    λ i. if is_long line then Err LineTooLong ∷ on i
    else (if is_skipped line then on i
    else (if is_opening (words_of line) then opened_block line rest ∷ after i
    else spelled_by line [] ∷ on i))

pub commands-cons : (line : List ℕ) (rest : List (List ℕ)) → commands (line ∷ rest) ≡ (if is_long line then Err LineTooLong ∷ commands rest
    else (if is_skipped line then commands rest
    else (if is_opening (words_of line) then opened_block line rest ∷ commands (after_first is_end rest)
    else spelled_by line [] ∷ commands rest)))
commands-cons line rest =
    let after =
    spelled_within-enough (length rest) (length (after_first is_end rest))
    (after_first is_end rest) (after_first-le rest (length rest) (omega arith)) (omega arith) in
    λ i. if is_long line then Err LineTooLong ∷ commands rest
    else (if is_skipped line then commands rest
    else (if is_opening (words_of line) then opened_block line rest ∷ after i
    else spelled_by line [] ∷ commands rest))

pub commands-long : (line : List ℕ) (rest : List (List ℕ)) → is_long line ≡ true → commands (line ∷ rest) ≡ Err LineTooLong ∷ commands rest
commands-long line rest long = commands-cons line rest ∙ cond-true (is_long line) _ _ long

pub commands-opening : (line : List ℕ) (rest : List (List ℕ)) → is_long line ≡ false → is_skipped line ≡ false
    → is_opening (words_of line) ≡ true → commands (line ∷ rest) ≡ opened_block line rest ∷ commands (after_first is_end rest)
commands-opening line rest short says opening =
    commands-cons line rest ∙ cond-false (is_long line) _ _ short ∙ cond-false (is_skipped line) _ _ says
    ∙ cond-true (is_opening (words_of line)) _ _ opening

pub commands-line : (line : List ℕ) (rest : List (List ℕ)) → is_long line ≡ false → is_skipped line ≡ false
    → is_opening (words_of line) ≡ false → commands (line ∷ rest) ≡ spelled_by line [] ∷ commands rest
commands-line line rest short says other =
    commands-cons line rest ∙ cond-false (is_long line) _ _ short ∙ cond-false (is_skipped line) _ _ says
    ∙ cond-false (is_opening (words_of line)) _ _ other
