-- The commands that lines specify, from only the first 201 bytes of each.
use Rattle.std.proofs.Common.{inl, inr, not, ◌≡◌, ℕ, zero, suc, ◌+◌, ◌≤◌, ◌&&◌, ◌||◌, Bool, false, cond, if◌then◌else◌, List, [], ◌∷◌}
use Rattle.std.proofs.Common.{length, map, take, drop, length-take, Option, Err, refl, sym, ap, ◌∙◌, arith}
use Rattle.std.specs.List.{after_first, before_first, list_any, position_or_len, take-map}
use Rattle.std.proofs.lemmas.Bool.{cases_Bool, cases_lt, cond-true, lt-ltb, ltb-false}
use Rattle.std.proofs.lemmas.List.{drop-map, length-map, take_all}
use Rattle.h41_ends.specs.InputLines.{told_part}
use Rattle.h41_commands.specs.Blocks.{block_values, content_of, short_lines, unless_long}
use Rattle.h41_commands.specs.Commands.{and_then, command_of, is_opening, kind_of}
use Rattle.h41_commands.specs.DeckLines.{is_end, is_long, is_only_end, is_skipped}
use Rattle.h41_commands.specs.Items.{Spelled, opened_block, spelled_by, spelled_within, with_values}
use Rattle.h41_commands.specs.LineLaws.{LongLinesAreAlike}
use Rattle.h41_commands.specs.declared.commands.BlockKind.{BlockKind}
use Rattle.h41_commands.specs.declared.refusal.LineRefusal.TheVariants.{LineTooLong, NoEnd}
use Rattle.h41_lines.specs.Words.{words_of}

-- A line that is not too long is returned completely, and one that is too long remains so.
told_whole : (line : List ℕ) → is_long line ≡ false → told_part line ≡ line
told_whole line short =
    let most : length line ≤ 200 = ltb-false 200 (length line) short in
    take_all 201 line (omega (arith, most))

long_same : (line : List ℕ) → is_long (told_part line) ≡ is_long line
long_same line = elim (cases_lt 200 (length line)) [
  | inl long ↦
      lt-ltb 200 (length (told_part line)) (omega (arith, long, length-take 201 line)) ∙ sym (lt-ltb 200 (length line) long)
  | inr short ↦ ap is_long (take_all 201 line (omega (arith, short)))
]

end_same : (line : List ℕ) → is_end (told_part line) ≡ is_end line
end_same line = elim (cases_Bool (is_long line)) [
  | inl long ↦
      ap (λ (b : Bool). not b && is_only_end (words_of (told_part line))) (long_same line ∙ long)
      ∙ sym (ap (λ (b : Bool). not b && is_only_end (words_of line)) long)
  | inr short ↦ ap is_end (told_whole line short)
]

any_end_same : (lines : List (List ℕ)) → list_any is_end (map told_part lines) ≡ list_any is_end lines
any_end_same [] = refl
any_end_same (line ∷ lines) = λ i. end_same line i || any_end_same lines i

any_long_same : (lines : List (List ℕ)) → list_any is_long (map told_part lines) ≡ list_any is_long lines
any_long_same [] = refl
any_long_same (line ∷ lines) = λ i. long_same line i || any_long_same lines i

first_end_same : (lines : List (List ℕ)) → position_or_len is_end (map told_part lines) ≡ position_or_len is_end lines
first_end_same [] = refl
first_end_same (line ∷ lines) = λ i. cond (not (end_same line i)) (1 + first_end_same lines i) 0

short_same : (lines : List (List ℕ)) → short_lines (map told_part lines) ≡ short_lines lines
short_same [] = refl
short_same (line ∷ lines) = elim (cases_Bool (is_long line)) [
  | inl long ↦
      (λ i. if not ((long_same line ∙ long) i) then told_part line ∷ short_same lines i else short_same lines i)
      ∙ sym (ap (λ (b : Bool). if not b then line ∷ short_lines lines else short_lines lines) long)
  | inr short ↦ λ i. if not (is_long (told_whole line short i)) then told_whole line short i ∷ short_same lines i else short_same lines i
]

values_same : (kind : Option BlockKind) (lines : List (List ℕ)) → block_values kind (map told_part lines) ≡ block_values kind lines
values_same kind lines = λ i. unless_long (any_long_same lines i) (content_of kind (short_same lines i))

spelled_same : (first : List ℕ) (inside : List (List ℕ)) → spelled_by first (map told_part inside) ≡ spelled_by first inside
spelled_same first inside =
    λ i. and_then (command_of (words_of first)) (λ command. with_values (values_same (kind_of command) inside i) command)

before_same : (lines : List (List ℕ)) → before_first is_end (map told_part lines) ≡ map told_part (before_first is_end lines)
before_same lines =
    ap (λ (k : ℕ). take k (map told_part lines)) (first_end_same lines) ∙ take-map told_part (position_or_len is_end lines) lines

after_same : (lines : List (List ℕ)) → after_first is_end (map told_part lines) ≡ map told_part (after_first is_end lines)
after_same lines =
    ap (λ (k : ℕ). drop (k + 1) (map told_part lines)) (first_end_same lines)
    ∙ drop-map told_part (position_or_len is_end lines + 1) lines

opened_same : (first : List ℕ) (rest : List (List ℕ)) → opened_block first (map told_part rest) ≡ opened_block first rest
opened_same first rest =
    let inside : spelled_by first (before_first is_end (map told_part rest)) ≡ spelled_by first (before_first is_end rest) =
    ap (spelled_by first) (before_same rest) ∙ spelled_same first (before_first is_end rest) in
    λ i. if any_end_same rest i then inside i else Err NoEnd

within_same : (most : ℕ) (lines : List (List ℕ)) → spelled_within most (map told_part lines) ≡ spelled_within most lines
within_same zero lines = refl
within_same (suc most) [] = refl
within_same (suc most) (line ∷ rest) = elim (cases_Bool (is_long line)) [
  | inl long ↦
      cond-true (is_long (told_part line)) _ _ (long_same line ∙ long)
      ∙ ap (λ (items : List Spelled). Err LineTooLong ∷ items) (within_same most rest)
      ∙ sym (cond-true (is_long line) _ _ long)
  | inr short ↦
      let on = within_same most rest in
      let after : spelled_within most (after_first is_end (map told_part rest)) ≡ spelled_within most (after_first is_end rest) =
      ap (spelled_within most) (after_same rest) ∙ within_same most (after_first is_end rest) in
      let same = told_whole line short in
      λ i. if is_long (same i) then Err LineTooLong ∷ on i
      else (if is_skipped (same i) then on i
      else (if is_opening (words_of (same i)) then opened_same (same i) rest i ∷ after i
      else spelled_by (same i) [] ∷ on i))
]

pub told_commands : LongLinesAreAlike
told_commands lines =
    ap (λ (most : ℕ). spelled_within most (map told_part lines)) (length-map lines told_part) ∙ within_same (length lines) lines
