-- The lines whose end was read, when reading stops.
use Rattle.std.proofs.Common.{inl, inr, not, ◌≡◌, ◌⊎◌, ℕ, ◌+◌, ◌-◌, ◌<◌, ◌≤◌, ◌==◌, Bool, true, false, cond, nat_lt, List, [], ◌∷◌, ◌++◌}
use Rattle.std.proofs.Common.{length, map, take, get_or, Some, None, refl, sym, subst, ap, ◌∙◌, arith, append_assoc, append-nil}
use Rattle.std.proofs.Common.{length-append}
use Rattle.std.specs.List.{All, onto_first, position_or_len, slice_split}
use Rattle.std.specs.Str.Lines.{lines_of_parts, strip_carriage_return}
use Rattle.std.proofs.lemmas.Bool.{cases_Bool, eqb-true}
use Rattle.std.proofs.lemmas.List.{get_or-append-add, map-append}
use Rattle.std.proofs.lemmas.List.Splits.{length-slice_split, slice_split_none}
use Rattle.std.proofs.lemmas.List.Sums.{fails_before_first}
use Rattle.std.proofs.Math.Seq.{get_or-append_seam, take-append_seam}
use Rattle.h41_lines.specs.Lines.{ended_lines, lines}
use Rattle.h41_lines.proofs.FirstLine.{ended_at}
use Rattle.h41_lines.proofs.Positions.{position_none}
use Rattle.h41_ends.specs.declared.input_lines.InputLines.{InputLines}
use Rattle.h41_ends.specs.InputLines.{HasRead, IsStopped, IsUnended, MayFollow, bytes_within, held_in, told_lines, told_part}
use Rattle.h41_ends.proofs.ToldLines.{is_end, no_place}

-- The parts between line ends, of bytes that follow a line end.
onto_join : (x : ℕ) (parts others : List (List ℕ)) → 0 < length parts → onto_first x (parts ++ others) ≡ onto_first x parts ++ others
onto_join x [] others some = absurd (omega (arith, some))
onto_join x (part ∷ parts) others some = refl

split_join : (xs zs : List ℕ) → slice_split is_end (xs ++ 10 ∷ zs) ≡ slice_split is_end xs ++ slice_split is_end zs
split_join [] zs = refl
split_join (x ∷ xs) zs =
    let before = slice_split is_end xs in
    let behind = slice_split is_end zs in
    let joined : onto_first x (before ++ behind) ≡ onto_first x before ++ behind =
    onto_join x before behind (omega (arith, length-slice_split is_end xs)) in
    (λ i. cond (is_end x) ([] ∷ split_join xs zs i) (onto_first x (split_join xs zs i)))
    ∙ elim (is_end x) as (λ (ends : Bool). cond ends ([] ∷ (before ++ behind)) (onto_first x (before ++ behind))
    ≡ cond ends ([] ∷ before) (onto_first x before) ++ behind) [ true ↦ refl | false ↦ joined ]

parts_join : (parts others : List (List ℕ)) → 0 < length parts → 0 < length others
    → lines_of_parts (parts ++ others) ≡ map strip_carriage_return parts ++ lines_of_parts others
parts_join [] others some more = absurd (omega (arith, some))
parts_join (part ∷ parts) [] some more = absurd (omega (arith, more))
parts_join (part ∷ []) (other ∷ others) some more = refl
parts_join (part ∷ next ∷ parts) (other ∷ others) some more =
    ap (λ (rest : List (List ℕ)). strip_carriage_return part ∷ rest) (parts_join (next ∷ parts) (other ∷ others) (omega arith) more)

lines_join : (xs zs : List ℕ) → lines (xs ++ 10 ∷ zs) ≡ map strip_carriage_return (slice_split is_end xs) ++ lines zs
lines_join xs zs =
    ap lines_of_parts (split_join xs zs)
    ∙ parts_join (slice_split is_end xs) (slice_split is_end zs) (omega (arith, length-slice_split is_end xs))
    (omega (arith, length-slice_split is_end zs))

-- If bytes contain no line end, none of their parts does.
none_at : (bytes : List ℕ) → IsUnended bytes → (k : ℕ) → k < length bytes → (get_or bytes k 0 == 10) ≡ false
none_at bytes none k below =
    let all : position_or_len is_end bytes ≡ length bytes = position_none is_end bytes (sym none) in
    fails_before_first is_end bytes k 0 (omega (arith, all, below))

one_line : (bytes : List ℕ) → IsUnended bytes → lines (bytes ++ 10 ∷ []) ≡ strip_carriage_return bytes ∷ []
one_line bytes none =
    let all : All (λ x. is_end x ≡ false) bytes = λ k d below.
    fails_before_first is_end bytes k d (omega (arith, position_none is_end bytes (sym none), below)) in
    lines_join bytes [] ∙ ap (λ (parts : List (List ℕ)). map strip_carriage_return parts ++ []) (slice_split_none is_end bytes all)

-- The bytes up to their last line end.
record HasLastEnd (bytes : List ℕ) : Type 0 where
  front : List ℕ
  tail : List ℕ
  parts : bytes ≡ front ++ 10 ∷ tail
  none : IsUnended tail

unended_one : (byte : ℕ) → is_end byte ≡ false → IsUnended (byte ∷ [])
unended_one byte other =
    ap (λ (ends : Bool). cond (nat_lt (cond (not ends) (1 + 0) 0) 1) (Some (cond (not ends) (1 + 0) 0)) None) other

last_end : (bytes : List ℕ) → IsUnended bytes ⊎ HasLastEnd bytes
last_end [] = inl refl
last_end (byte ∷ bytes) = elim (last_end bytes) [
  | inr has ↦ inr (record {
    front = byte ∷ has.front;
    tail = has.tail;
    parts = ap (λ (rest : List ℕ). byte ∷ rest) has.parts;
    none = has.none;
  })
  | inl none ↦ elim (cases_Bool (is_end byte)) [
    | inl ends ↦ inr (record {
      front = [];
      tail = bytes;
      parts = ap (λ (first : ℕ). first ∷ bytes) (eqb-true byte 10 ends);
      none = none;
    })
    | inr other ↦ inl (no_place (byte ∷ []) bytes (unended_one byte other) none)
  ]
]

ended_none : (bytes : List ℕ) → IsUnended bytes → ended_lines bytes ≡ []
ended_none bytes none =
    sym (ended_at bytes 0 (omega arith) (λ k from below. none_at bytes none k below) (λ some. absurd (omega (arith, some))))

behind_last : (front tail : List ℕ) → IsUnended tail → (k : ℕ) → length front + 1 ≤ k → k < length (front ++ 10 ∷ tail)
    → (get_or (front ++ 10 ∷ tail) k 0 == 10) ≡ false
behind_last front tail none k from below =
    let place : k ≡ length (front ++ 10 ∷ []) + (k - (length front + 1)) = omega (arith, from, length-append front (10 ∷ [])) in
    let within : k - (length front + 1) < length tail = omega (arith, from, below, length-append front (10 ∷ tail)) in
    let whole : front ++ 10 ∷ tail ≡ (front ++ 10 ∷ []) ++ tail = sym (append_assoc front (10 ∷ []) tail) in
    let same : get_or (front ++ 10 ∷ tail) k 0 ≡ get_or tail (k - (length front + 1)) 0 =
    (λ i. get_or (whole i) (place i) 0) ∙ get_or-append-add (front ++ 10 ∷ []) tail (k - (length front + 1)) 0 in
    ap (λ (byte : ℕ). byte == 10) same ∙ none_at tail none (k - (length front + 1)) within

ended_some : (front tail : List ℕ) → IsUnended tail → ended_lines (front ++ 10 ∷ tail) ≡ front ++ 10 ∷ []
ended_some front tail none =
    let whole : front ++ 10 ∷ tail ≡ (front ++ 10 ∷ []) ++ tail = sym (append_assoc front (10 ∷ []) tail) in
    let size : length front + 1 ≡ length (front ++ 10 ∷ []) = omega (arith, length-append front (10 ∷ [])) in
    let last : length front ≡ (length front + 1) - 1 = omega arith in
    sym (ended_at (front ++ 10 ∷ tail) (length front + 1) (omega (arith, length-append front (10 ∷ tail)))
    (behind_last front tail none)
    (λ some. ap (λ (k : ℕ). get_or (front ++ 10 ∷ tail) k 0) (sym last) ∙ get_or-append_seam front 10 tail 0))
    ∙ (λ i. take (size i) (whole i)) ∙ take-append_seam (front ++ 10 ∷ []) tail

-- One more line end makes one more line.
record HasOneMore (bytes : List ℕ) : Type 0 where
  line : List ℕ
  more : told_lines (bytes ++ 10 ∷ []) ≡ told_lines (ended_lines bytes) ++ line ∷ []

one_more : (bytes : List ℕ) → HasOneMore bytes
one_more bytes = elim (last_end bytes) [
  | inl none ↦ record {
    line = told_part (strip_carriage_return bytes);
    more =
        ap (map told_part) (one_line bytes none)
        ∙ ap (λ (ended : List ℕ). told_lines ended ++ told_part (strip_carriage_return bytes) ∷ []) (sym (ended_none bytes none));
  }
  | inr has ↦
      let front = map strip_carriage_return (slice_split is_end has.front) in
      let last = strip_carriage_return has.tail in
      let whole : bytes ++ 10 ∷ [] ≡ has.front ++ 10 ∷ (has.tail ++ 10 ∷ []) =
      ap (λ (all : List ℕ). all ++ 10 ∷ []) has.parts ∙ append_assoc has.front (10 ∷ has.tail) (10 ∷ []) in
      let all : lines (bytes ++ 10 ∷ []) ≡ front ++ last ∷ [] =
      ap lines whole ∙ lines_join has.front (has.tail ++ 10 ∷ [])
      ∙ ap (λ (rest : List (List ℕ)). front ++ rest) (one_line has.tail has.none) in
      let ended : lines (ended_lines bytes) ≡ front =
      ap lines (ap ended_lines has.parts ∙ ended_some has.front has.tail has.none) ∙ lines_join has.front [] ∙ append-nil front in
      record {
        line = told_part last;
        more =
            ap (map told_part) all ∙ map-append told_part front (last ∷ [])
            ∙ ap (λ (before : List (List ℕ)). map told_part before ++ told_part last ∷ []) (sym ended);
      }
]

same_front : (xs ys : List (List ℕ)) (x y : List ℕ) → xs ++ x ∷ [] ≡ ys ++ y ∷ [] → xs ≡ ys
same_front xs ys x y same =
    let size : length xs ≡ length ys = omega (arith, ap length same, length-append xs (x ∷ []), length-append ys (y ∷ [])) in
    sym (take-append_seam xs (x ∷ [])) ∙ (λ i. take (size i) (same i)) ∙ take-append_seam ys (y ∷ [])

-- When reading stops, the lines that were returned are those whose end was read.
pub stopped_lines : (bytes : List ℕ) (told : List (List ℕ)) (input : InputLines) → HasRead bytes told input → IsStopped input
    → told_lines (ended_lines (bytes_within bytes)) ≡ told
stopped_lines bytes told input read stopped =
    let more = one_more (bytes_within bytes) in
    let held = held_in input in
    let all : told_lines (bytes_within bytes ++ 10 ∷ []) ≡ told ++ told_lines (held ++ 10 ∷ []) =
    read.others (10 ∷ []) (subst (λ (ended : Bool). MayFollow {A = ℕ} ended (10 ∷ [])) (sym stopped.goes_on) tt) in
    same_front (told_lines (ended_lines (bytes_within bytes))) told more.line (told_part (strip_carriage_return held))
    (sym more.more ∙ all ∙ ap (λ (rest : List (List ℕ)). told ++ map told_part rest) (one_line held stopped.unended))
