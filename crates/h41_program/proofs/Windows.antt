-- A line is read from 18 bytes as from all of them.
use Rattle.std.proofs.Common.{◌≡◌, ℕ, suc, ◌+◌, ◌-◌, ◌<◌, ◌≤◌, List, [], ◌∷◌, map, length, take, drop, length-take-le, refl, sym, ◌∙◌, ap}
use Rattle.std.proofs.Common.{subst, arith, inl, inr, take_all, min}
use Rattle.std.specs.List.{range_with_len}
use Rattle.std.proofs.lemmas.List.{ext_get_or, take-take, drop-take, get_or-drop, length-drop, length-take, length-map}
use Rattle.std.proofs.lemmas.List.FromFn.{get_or-map-range_with_len, length-map-range_with_len, take-map-range_with_len}
use Rattle.std.proofs.lemmas.Bool.{cases_lt}
use Rattle.h41_codes.specs.Codes.{character_code}
use Rattle.h41_codes.specs.ByteGrammar.{spelling, IsLine, IsComplete, GoesOn, Begins}
use Rattle.h41_codes.specs.declared.line.Line.{Line}
use Rattle.h41_codes.specs.declared.line.Line.TheVariants.{Number}
use Rattle.h41_codes.proofs.LineLengths.{spelling_most, spelling_least}

-- The number of bytes with which bytes begin with a line is the line's own number of bytes.
pub begins_count : (bytes : List ℕ) (line : Line) (count : ℕ) → Begins bytes line count → count ≡ length (spelling line)
begins_count bytes line count begins =
    sym (length-take-le count bytes begins.inside) ∙ ap length begins.spells.same

-- A line with which bytes begin has at most 18 bytes.
pub begins_most : (bytes : List ℕ) (line : Line) (count : ℕ) → Begins bytes line count → count ≤ 18
begins_most bytes line count begins =
    subst (λ (n : ℕ). n ≤ 18) (sym (begins_count bytes line count begins)) (spelling_most line begins.spells.valid)

pub begins_least : (bytes : List ℕ) (line : Line) (count : ℕ) → Begins bytes line count → 1 ≤ count
begins_least bytes line count begins =
    subst (λ (n : ℕ). 1 ≤ n) (sym (begins_count bytes line count begins)) (spelling_least line begins.spells.valid)

goes_in : (m : ℕ) (bytes : List ℕ) → GoesOn bytes → GoesOn (take (suc m) bytes)
goes_in m [] goes = absurd goes
goes_in m (byte ∷ bytes) goes = goes

goes_out : (m : ℕ) (bytes : List ℕ) → GoesOn (take (suc m) bytes) → GoesOn bytes
goes_out m [] goes = absurd goes
goes_out m (byte ∷ bytes) goes = goes

-- The bytes after a line of fewer than 18 bytes.
rest_in : (count : ℕ) (bytes : List ℕ) → count < 18 → drop count (take 18 bytes) ≡ take (suc (17 - count)) (drop count bytes)
rest_in count bytes below =
    let size : 18 ≡ count + suc (17 - count) = omega arith in
    ap (λ n. drop count (take n bytes)) size ∙ drop-take count (suc (17 - count)) bytes

whole_out : (line : Line) (bytes : List ℕ) (count : ℕ) → IsLine line → count ≡ length (spelling line)
    → IsComplete line (drop count (take 18 bytes)) → IsComplete line (drop count bytes)
whole_out (Number characters) bytes count valid size whole =
    λ goes. whole (subst GoesOn (sym (rest_in count bytes (omega (arith, size, length-map characters character_code, valid.1))))
    (goes_in (17 - count) (drop count bytes) goes))
whole_out line bytes count valid size whole = tt

whole_in : (line : Line) (bytes : List ℕ) (count : ℕ) → IsLine line → count ≡ length (spelling line) → IsComplete line (drop count bytes)
    → IsComplete line (drop count (take 18 bytes))
whole_in (Number characters) bytes count valid size whole =
    λ goes. whole (goes_out (17 - count) (drop count bytes)
    (subst GoesOn (rest_in count bytes (omega (arith, size, length-map characters character_code, valid.1))) goes))
whole_in line bytes count valid size whole = tt

pub begins_out : (bytes : List ℕ) (line : Line) (count : ℕ) → Begins (take 18 bytes) line count → Begins bytes line count
begins_out bytes line count begins =
    let most = begins_most (take 18 bytes) line count begins in
    record {
      inside = omega (arith, length-take 18 bytes, begins.inside);
      spells = record {
        valid = begins.spells.valid;
        same = sym (take-take count 18 bytes most) ∙ begins.spells.same;
      };
      whole = whole_out line bytes count begins.spells.valid (begins_count (take 18 bytes) line count begins) begins.whole;
    }

pub begins_in : (bytes : List ℕ) (line : Line) (count : ℕ) → Begins bytes line count → Begins (take 18 bytes) line count
begins_in bytes line count begins =
    let most = begins_most bytes line count begins in
    record {
      inside = omega (arith, length-take 18 bytes, begins.inside, most);
      spells = record {
        valid = begins.spells.valid;
        same = take-take count 18 bytes most ∙ begins.spells.same;
      };
      whole = whole_in line bytes count begins.spells.valid (begins_count bytes line count begins) begins.whole;
    }

-- A part of a list of a function's values.
pub drop-map-range : (f : ℕ → ℕ) (n p : ℕ) → p ≤ n → drop p (map f (range_with_len 0 n)) ≡ map f (range_with_len p (n - p))
drop-map-range f n p inside =
    let whole = length-map-range_with_len f 0 n in
    let part = length-map-range_with_len f p (n - p) in
    ext_get_or 0 (drop p (map f (range_with_len 0 n))) (map f (range_with_len p (n - p)))
    (length-drop p (map f (range_with_len 0 n)) ∙ ap (λ m. m - p) whole ∙ sym part)
    (λ i below.
    let low : i < n - p = omega (arith, below, length-drop p (map f (range_with_len 0 n)), whole) in
    get_or-drop p (map f (range_with_len 0 n)) i 0
    ∙ get_or-map-range_with_len f 0 n (p + i) (p + i) 0 (omega arith) (omega arith)
    ∙ sym (get_or-map-range_with_len f p (n - p) i (p + i) 0 low refl))

-- The first 18 bytes.
pub take-window : (f : ℕ → ℕ) (p m : ℕ) → take 18 (map f (range_with_len p m)) ≡ map f (range_with_len p (min 18 m))
take-window f p m = elim (cases_lt m 18) [
  | inl few ↦
      let size : m ≡ min 18 m = omega arith in
      take_all 18 (map f (range_with_len p m)) (omega (arith, length-map-range_with_len f p m)) ∙ ap (λ n. map f (range_with_len p n)) size
  | inr many ↦
      let size : 18 ≡ min 18 m = omega arith in
      take-map-range_with_len f p m 18 many ∙ ap (λ n. map f (range_with_len p n)) size
]
