-- The lines of the buffered bytes, whatever bytes follow.
use Rattle.std.proofs.Common.{inl, inr, not, ◌≡◌, ℕ, ◌+◌, ◌-◌, ◌<◌, ◌≤◌, Bool, true, false, nat_lt, List, [], ◌∷◌, ◌++◌, length, take, drop}
use Rattle.std.proofs.Common.{map, ◌==◌, slice_index, Some, None, refl, sym, ap, ◌∙◌, arith, length-append, length-take}
use Rattle.std.specs.List.{position, position_or_len}
use Rattle.std.specs.Str.Lines.{strip_carriage_return}
use Rattle.std.proofs.lemmas.Bool.{cases_Bool, cases_lt, cond-true, cond-false, eq-eqb, ne_eqb, lt-ltb, le-ltb}
use Rattle.std.proofs.lemmas.List.{take-append-le, take-append-drop, drop-append-le, take_all}
use Rattle.std.proofs.lemmas.List.Folds.{prefix_len-append}
use Rattle.std.proofs.Math.Seq.{take-append-add, drop-append-add}
use Rattle.h41_lines.proofs.FirstLine.{lines_at, lines_last}
use Rattle.h41_lines.proofs.Positions.{position_some, position_none}
use Rattle.h41_ends.specs.InputLines.{IsUnended, told_lines, told_part}

abbrev pub is_end : ℕ → Bool
is_end byte = byte == 10

pub take_within : (n m : ℕ) (xs : List ℕ) → n ≤ m → m ≤ length xs → take n (take m xs) ≡ take n xs
take_within n m xs less within =
    sym (take-append-le n (take m xs) (drop m xs) (omega (arith, less, within, length-take m xs)))
    ∙ ap (take n) (take-append-drop m xs)

-- The index of the first line end, with more bytes after it and others before it.
pub place_before : (xs ys : List ℕ) (n : ℕ) → Some n ≡ position is_end xs → Some n ≡ position is_end (xs ++ ys)
place_before xs ys n e =
    let at = position_some is_end xs n e in
    let here : position_or_len is_end (xs ++ ys) ≡ position_or_len is_end xs =
    prefix_len-append (λ x. not (is_end x)) xs ys
    ∙ cond-false _ _ _ (ne_eqb (position_or_len is_end xs) (length xs) (λ same. absurd (omega (arith, at.0, at.1, same)))) in
    let inside : nat_lt (position_or_len is_end (xs ++ ys)) (length (xs ++ ys)) ≡ true =
    lt-ltb (position_or_len is_end (xs ++ ys)) (length (xs ++ ys)) (omega (arith, at.0, at.1, here, length-append xs ys)) in
    let is : n ≡ position_or_len is_end (xs ++ ys) = at.0 ∙ sym here in
    ap (λ (k : ℕ). Some k) is ∙ sym (cond-true _ _ _ inside)

pub place_behind : (xs ys : List ℕ) (n : ℕ) → IsUnended xs → Some n ≡ position is_end ys → Some (length xs + n) ≡ position is_end (xs ++ ys)
place_behind xs ys n none e =
    let at = position_some is_end ys n e in
    let here : position_or_len is_end (xs ++ ys) ≡ length xs + position_or_len is_end ys =
    prefix_len-append (λ x. not (is_end x)) xs ys ∙ cond-true _ _ _ (eq-eqb _ _ (position_none is_end xs (sym none))) in
    let inside : nat_lt (position_or_len is_end (xs ++ ys)) (length (xs ++ ys)) ≡ true =
    lt-ltb (position_or_len is_end (xs ++ ys)) (length (xs ++ ys)) (omega (arith, at.0, at.1, here, length-append xs ys)) in
    let is : length xs + n ≡ position_or_len is_end (xs ++ ys) = omega (arith, at.0, here) in
    ap (λ (k : ℕ). Some k) is ∙ sym (cond-true _ _ _ inside)

pub no_place : (xs ys : List ℕ) → IsUnended xs → IsUnended ys → IsUnended (xs ++ ys)
no_place xs ys none others =
    let here : position_or_len is_end (xs ++ ys) ≡ length xs + position_or_len is_end ys =
    prefix_len-append (λ x. not (is_end x)) xs ys ∙ cond-true _ _ _ (eq-eqb _ _ (position_none is_end xs (sym none))) in
    let end = position_none is_end ys (sym others) in
    let past : nat_lt (position_or_len is_end (xs ++ ys)) (length (xs ++ ys)) ≡ false =
    le-ltb (position_or_len is_end (xs ++ ys)) (length (xs ++ ys)) (omega (arith, here, end, length-append xs ys)) in
    cond-false _ _ _ past

pub unended_front : (n : ℕ) (xs : List ℕ) → IsUnended xs → IsUnended (take n xs)
unended_front n xs none =
    elim (cases_Bool (nat_lt (position_or_len is_end (take n xs)) (length (take n xs)))) [
      | inl found ↦
          let before : Some (position_or_len is_end (take n xs)) ≡ position is_end (take n xs ++ drop n xs) =
          place_before (take n xs) (drop n xs) _ (sym (cond-true _ _ _ found)) in
          let both : Some (position_or_len is_end (take n xs)) ≡ None =
          before ∙ ap (position is_end) (take-append-drop n xs) ∙ none in
          cc
      | inr past ↦ cond-false _ _ _ past
    ]

-- A line with its line end.
pub told_ended : (held more : List ℕ) (n : ℕ) → Some n ≡ position is_end held
    → told_lines (held ++ more) ≡ told_part (strip_carriage_return (take n held)) ∷ told_lines (drop (n + 1) held ++ more)
told_ended held more n e =
    let at = position_some is_end held n e in
    let front : take n (held ++ more) ≡ take n held = take-append-le n held more (omega (arith, at.1)) in
    let back : drop (n + 1) (held ++ more) ≡ drop (n + 1) held ++ more = drop-append-le (n + 1) held more (omega (arith, at.1)) in
    ap (map told_part) (lines_at (held ++ more) n (place_before held more n e))
    ∙ (λ i. told_part (strip_carriage_return (front i)) ∷ told_lines (back i))

-- The last line, which has no line end.
pub told_last : (held : List ℕ) → IsUnended held → 0 < length held → told_lines held ≡ told_part held ∷ []
told_last held none some = ap (map told_part) (lines_last held (sym none) (λ e. absurd (omega (arith, some, e))))

-- For a line with more bytes than are returned it makes no difference whether it ends in a CR.
stripped_part : (line : List ℕ) → 202 ≤ length line → told_part (strip_carriage_return line) ≡ told_part line
stripped_part line long = elim (cases_Bool (slice_index line (length line - 1) == 13)) [
  | inl ends ↦ ap told_part (cond-true _ _ _ ends) ∙ take_within 201 (length line - 1) line (omega (arith, long)) (omega arith)
  | inr other ↦ ap told_part (cond-false _ _ _ other)
]

-- Only the first 202 buffered bytes matter if there is no line end among them.
part_same : (held x : List ℕ) → 202 ≤ length held → told_part (take 202 held ++ x) ≡ told_part (held ++ x)
part_same held x long =
    take-append-le 201 (take 202 held) x (omega (arith, length-take 202 held)) ∙ take_within 201 202 held (omega arith) long
    ∙ sym (take-append-le 201 held x (omega (arith, long)))

line_same : (held x : List ℕ) → 202 ≤ length held
    → told_part (strip_carriage_return (take 202 held ++ x)) ≡ told_part (strip_carriage_return (held ++ x))
line_same held x long =
    stripped_part (take 202 held ++ x) (omega (arith, length-append (take 202 held) x, length-take 202 held))
    ∙ part_same held x long ∙ sym (stripped_part (held ++ x) (omega (arith, length-append held x)))

-- The first line of the buffered bytes and of the bytes that follow.
behind_ended : (held more : List ℕ) (m : ℕ) → IsUnended held → Some m ≡ position is_end more
    → told_lines (held ++ more) ≡ told_part (strip_carriage_return (held ++ take m more)) ∷ told_lines (drop (m + 1) more)
behind_ended held more m none e =
    let front : take (length held + m) (held ++ more) ≡ held ++ take m more = take-append-add held more m in
    let back : drop ((length held + m) + 1) (held ++ more) ≡ drop (m + 1) more =
    ap (λ (k : ℕ). drop k (held ++ more)) (omega arith) ∙ drop-append-add held more (m + 1) in
    ap (map told_part) (lines_at (held ++ more) (length held + m) (place_behind held more m none e))
    ∙ (λ i. told_part (strip_carriage_return (front i)) ∷ told_lines (back i))

behind_last : (held more : List ℕ) → IsUnended held → IsUnended more → 0 < length held
    → told_lines (held ++ more) ≡ told_part (held ++ more) ∷ []
behind_last held more none others some =
    told_last (held ++ more) (no_place held more none others) (omega (arith, some, length-append held more))

shorter : (held more : List ℕ) → IsUnended held → 202 ≤ length held → told_lines (held ++ more) ≡ told_lines (take 202 held ++ more)
shorter held more none long =
    let kept : IsUnended (take 202 held) = unended_front 202 held none in
    elim (position is_end more) as (λ place. position is_end more ≡ place
    → told_lines (held ++ more) ≡ told_lines (take 202 held ++ more)) [
      | Some m ↦ λ at.
          behind_ended held more m none (sym at)
          ∙ ap (λ (first : List ℕ). first ∷ told_lines (drop (m + 1) more)) (sym (line_same held (take m more) long))
          ∙ sym (behind_ended (take 202 held) more m kept (sym at))
      | None ↦ λ at.
          behind_last held more none at (omega (arith, long))
          ∙ ap (λ (first : List ℕ). first ∷ []) (sym (part_same held more long))
          ∙ sym (behind_last (take 202 held) more kept at (omega (arith, long, length-take 202 held)))
    ] refl

pub told_shortened : (held more : List ℕ) → IsUnended held → told_lines (held ++ more) ≡ told_lines (take 202 held ++ more)
told_shortened held more none = elim (cases_lt (length held) 202) [
  | inl short ↦ ap (λ (front : List ℕ). told_lines (front ++ more)) (sym (take_all 202 held (omega (arith, short))))
  | inr long ↦ shorter held more none long
]
