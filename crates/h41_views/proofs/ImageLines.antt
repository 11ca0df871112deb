-- The lines of an image, one more at a time.
use Rattle.std.proofs.Common.{◌≡◌, ℕ, suc, ◌+◌, ◌*◌, ◌-◌, List, [], ◌∷◌, ◌++◌, take, drop, arith, refl, ap, ◌∙◌, append-nil}
use Rattle.std.specs.List.{flat_map, range_with_len}
use Rattle.std.proofs.lemmas.Grind.{flat_map-append}
use Rattle.h41_views.proofs.Ranges.{range_more}
use Rattle.h41_views.specs.PageViews.{image_line, image_lines}

pub no_lines : (bytes : List ℕ) → image_lines bytes 0 ≡ []
unfolding image_lines
no_lines bytes = refl

pub one_more_line : (bytes : List ℕ) (count : ℕ) → image_lines bytes (count + 1) ≡ image_lines bytes count ++ image_line bytes count
unfolding image_lines
one_more_line bytes count =
    let e : count + 1 ≡ suc count = omega arith in
    ap (λ n. flat_map (image_line bytes) (range_with_len 0 n)) e
    ∙ ap (flat_map (image_line bytes)) (range_more 0 count)
    ∙ flat_map-append (image_line bytes) (range_with_len 0 count) ((0 + count) ∷ [])
    ∙ ap (λ rest. flat_map (image_line bytes) (range_with_len 0 count) ++ rest) (append-nil (image_line bytes (0 + count)))
    ∙ (let z : 0 + count ≡ count = omega arith in ap (λ n. flat_map (image_line bytes) (range_with_len 0 count) ++ image_line bytes n) z)

-- The bytes of a line are those between its first and its last.
pub line_of : (bytes : List ℕ) (line start last : ℕ) → start ≡ 32 * line → last ≡ start + 32
    → take (last - start) (drop start bytes) ≡ take 32 (drop (32 * line) bytes)
line_of bytes line start last first end =
    let count : last - start ≡ 32 = omega (arith, end) in
    ap (λ n. take n (drop start bytes)) count ∙ ap (λ n. take 32 (drop n bytes)) first
