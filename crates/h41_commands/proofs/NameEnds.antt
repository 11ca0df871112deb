-- Where the first word of a line ends, and the bytes after it.
use Rattle.std.proofs.Common.{inl, inr, not, ◌≡◌, ◌≤◌, ℕ, ◌+◌, List, [], drop, get_or, take, true, length, Option, Some, None}
use Rattle.std.proofs.Common.{refl, sym, ap, ◌∙◌, arith}
use Rattle.std.specs.List.{position, position_or_len}
use Rattle.std.proofs.lemmas.Bool.{cases_lt, cond-false, cond-true, le-ltb, lt-ltb}
use Rattle.std.proofs.lemmas.List.{drop-drop, drop_all, drop_more, length-drop}
use Rattle.std.proofs.lemmas.List.Sums.{passes_at_first, prefix_len-le-length}
use Rattle.h41_lines.proofs.FirstWord.{words_of-first, words_of-none, word_end-le}
use Rattle.h41_lines.proofs.Positions.{position_some}
use Rattle.h41_lines.specs.Words.{is_blank, words_of}
use Rattle.h41_commands.specs.FirstLines.{first_line, first_line_by, first_word, kind_by_words, line_kind, name_end, name_start}
use Rattle.h41_commands.specs.declared.commands.FirstWord.{FirstWord}
use Rattle.h41_commands.specs.declared.line.FirstLine.{FirstLine}
use Rattle.h41_commands.specs.declared.line.LineKind.{LineKind}
use Rattle.h41_commands.specs.declared.line.LineKind.TheVariants.{Long, Named}

-- Its first byte is neither a space nor a tab.
pub end_behind : (line : List ℕ) (start n : ℕ) → Some start ≡ position (λ byte. not (is_blank byte)) line
    → n ≡ position_or_len is_blank (drop (start + 1) line) → 1 + n ≡ position_or_len is_blank (drop start line)
end_behind line start n found here =
    let at = position_some (λ byte. not (is_blank byte)) line start found in
    let first : not (is_blank (get_or line start 0)) ≡ true =
    rw at.0 (passes_at_first (λ byte. not (is_blank byte)) line 0 (omega (arith, at.0, at.1))) in
    rw (drop_more line start 0 at.1, first) (ap (λ (k : ℕ). 1 + k) here)

-- A line with a first word is classified by it.
pub named_told : (line : List ℕ) (start n : ℕ) (word : FirstWord) → Some start ≡ position (λ byte. not (is_blank byte)) line
    → n ≡ position_or_len is_blank (drop (start + 1) line) → word ≡ first_word (take (1 + n) (drop start line))
    → Some (record { kind = Named word; name_end = start + 1 + n }) ≡ first_line_by line (kind_by_words (words_of line))
named_told line start n word found here is =
    let at = (position_some (λ byte. not (is_blank byte)) line start found).0 in
    let length = end_behind line start n found here in
    let words = words_of-first line start (1 + n) found length in
    let sum : start + 1 + n ≡ start + (1 + n) = omega arith in
    let end : start + 1 + n ≡ name_end line = sum ∙ rw (← at) (ap (λ (k : ℕ). start + k) length) in
    rw (words, is, end) refl

-- The bytes after the first word.
behind : (line : List ℕ) → drop (name_end line) line
    ≡ drop (position_or_len is_blank (drop (name_start line) line)) (drop (name_start line) line)
behind line = sym (drop-drop _ (name_start line) line)

no_word : (line : List ℕ) → length line ≤ name_start line → words_of (drop (name_end line) line) ≡ drop 1 (words_of line)
no_word line past =
    let most = prefix_len-le-length (λ byte. not (not (is_blank byte))) line in
    let none : words_of line ≡ [] = words_of-none line (sym (cond-false _ _ _ (le-ltb (name_start line) (length line) past))) in
    ap words_of (drop_all (name_end line) line (omega (arith, past))) ∙ rw none refl

pub name_end-le : (line : List ℕ) → name_end line ≤ length line
name_end-le line =
    let most = prefix_len-le-length (λ byte. not (not (is_blank byte))) line in
    let rest = word_end-le (drop (name_start line) line) _ refl in
    omega (arith, length-drop (name_start line) line)

pub words_behind : (line : List ℕ) → words_of (drop (name_end line) line) ≡ drop 1 (words_of line)
words_behind line = elim (cases_lt (name_start line) (length line)) [
  | inl within ↦
      let found : Some (name_start line) ≡ position (λ byte. not (is_blank byte)) line = sym (cond-true _ _ _ (lt-ltb _ _ within)) in
      ap words_of (behind line) ∙ sym (ap (drop 1) (words_of-first line (name_start line) _ found refl))
  | inr past ↦ no_word line past
]

-- The kind of line in a result.
abbrev kind_in : Option FirstLine → Option LineKind
kind_in None = None
kind_in (Some first) = Some first.kind

told : (line : List ℕ) (kind : Option LineKind) (first : FirstLine) → first_line_by line kind ≡ Some first → kind ≡ Some first.kind
told line None first e = cc
told line (Some Long) first e = ap (λ (of : Option FirstLine). kind_in of) e
told line (Some (Named word)) first e = ap (λ (of : Option FirstLine). kind_in of) e

pub told_kind : (line : List ℕ) (first : FirstLine) → first_line line ≡ Some first → line_kind line ≡ Some first.kind
told_kind line first e = told line (line_kind line) first e

none_told : (line : List ℕ) (kind : Option LineKind) → first_line_by line kind ≡ None → kind ≡ None
none_told line None e = refl
none_told line (Some kind) e = cc

pub told_none : (line : List ℕ) → first_line line ≡ None → line_kind line ≡ None
told_none line e = none_told line (line_kind line) e
