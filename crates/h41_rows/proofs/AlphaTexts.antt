-- The 24 bytes of ALPHA.
use Rattle.std.proofs.Common.{◌≡◌, ℕ, ◌+◌, ◌-◌, ◌≤◌, min, List, ◌++◌, length, take, drop, replicate, length-append, inl, inr, refl, ap, sym}
use Rattle.std.proofs.Common.{◌∙◌, arith, rules}
use Rattle.std.proofs.lemmas.Bool.{cases_lt}
use Rattle.std.proofs.lemmas.List.{append-nil, drop-append-le, drop-drop, drop_all, drop_at, length-drop, take_at, take_rest}
use Rattle.h41_rows.specs.RowEffects.{last_24}
use borrow.Rule.Slice.PartMut.{post_of, put_mid}

-- A text after nulls alone is stored as the text alone.
pub over_nulls : (text : List ℕ) → last_24 (replicate 24 0 ++ text) ≡ last_24 text
over_nulls text = refl

-- After 24 bytes, as many bytes drop out as are appended.
last_behind : (old text : List ℕ) → length old ≡ 24 → last_24 (old ++ text) ≡ drop (length text) (old ++ text)
last_behind old text size =
    let long : length (old ++ text) ≡ 24 + length text = length-append old text ∙ ap (λ n. n + length text) size in
    ap (λ n. drop n (replicate 24 0 ++ (old ++ text))) long
    ∙ sym (drop-drop (length text) 24 (replicate 24 0 ++ (old ++ text)))
    ∙ ap (drop (length text)) (drop_at (replicate 24 0) (old ++ text) 24 refl)

-- The bytes that remain, and those that are appended.
kept_and_new : (old text : List ℕ) → length old ≡ 24
    → drop (min (length text) 24) old ++ drop (length text - 24) text ≡ drop (length text) (old ++ text)
kept_and_new old text size = elim (cases_lt 24 (length text)) [
  | inl long ↦
      let most : min (length text) 24 ≡ 24 = omega (arith, long) in
      let sum : length text ≡ 24 + (length text - 24) = omega (arith, long) in
      ap (λ n. drop n old ++ drop (length text - 24) text) most
      ∙ ap (λ (l : List ℕ). l ++ drop (length text - 24) text) (drop_all 24 old (omega (arith, size)))
      ∙ sym (ap (λ n. drop n (old ++ text)) sum
      ∙ sym (drop-drop (length text - 24) 24 (old ++ text))
      ∙ ap (drop (length text - 24)) (drop_at old text 24 size))
  | inr short ↦
      let all : min (length text) 24 ≡ length text = omega (arith, short) in
      let none : length text - 24 ≡ 0 = omega (arith, short) in
      ap (λ n. drop n old ++ drop (length text - 24) text) all
      ∙ ap (λ n. drop (length text) old ++ drop n text) none
      ∙ sym (drop-append-le (length text) old text (omega (arith, short, size)))
]

-- A part that was written at the end.
written_end : (front rest last : List ℕ) (a k : ℕ) → length front ≡ a → length (front ++ rest) ≤ a + k
    → put_mid a k (front ++ rest) last ≡ front ++ last
written_end front rest last a k size most = search (rules, post_of, take_at, drop_all, length-drop, append-nil)

-- A text that was appended to another.
pub put : (old text last front part : List ℕ) (from : ℕ) → length old ≡ 24 → from ≡ length text - 24
    → last ≡ take (length text - from) (drop from text) → front ≡ take (24 - length last) (drop (length last) old) → part ≡ last
    → put_mid (24 - length last) (24 - (24 - length last)) (front ++ drop (24 - length last) (replicate 24 0)) part ≡ last_24 (old ++ text)
put old text last front part from size is_from is_last is_front is_part =
    let ends : last ≡ drop (length text - 24) text = is_last ∙ take_rest text from ∙ ap (λ n. drop n text) is_from in
    let count : length last ≡ min (length text) 24 = omega (arith, ap length ends, length-drop (length text - 24) text) in
    let stays : front ≡ drop (length last) old =
    is_front ∙ ap (λ n. take (n - length last) (drop (length last) old)) (sym size) ∙ take_rest old (length last) in
    let long : length front ≡ 24 - length last = omega (arith, ap length stays, length-drop (length last) old, size) in
    let nulls : List ℕ = replicate 24 0 in
    let rest : List ℕ = drop (24 - length last) nulls in
    let nulls_size : length nulls ≡ 24 = refl in
    let most : length (front ++ rest) ≤ 24 - length last + (24 - (24 - length last)) =
    omega (arith, length-append front rest, long, length-drop (24 - length last) nulls, nulls_size) in
    written_end front rest part (24 - length last) (24 - (24 - length last)) long most
    ∙ ap (λ (l : List ℕ). l ++ part) stays
    ∙ ap (λ (l : List ℕ). drop (length last) old ++ l) (is_part ∙ ends)
    ∙ ap (λ n. drop n old ++ drop (length text - 24) text) count
    ∙ kept_and_new old text size
    ∙ sym (last_behind old text size)

-- The characters after the first six.
pub past_six : (shown : List ℕ) (first : ℕ) → first ≡ min (length shown) 6 → take (length shown - first) (drop first shown) ≡ drop 6 shown
past_six shown first is_first = search (rules, take_rest, drop_all)
