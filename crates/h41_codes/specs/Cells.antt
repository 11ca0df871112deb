-- A list stored in a fixed number of cells. The cells after its end have a filler value.
use Rattle.std.specs.Prelude.{◌≡◌, ℕ, ◌-◌, ◌≤◌, List, ◌++◌, take, length, replicate}
use Rattle.h41_codes.specs.Counts.{number_most}
use Rattle.std.proofs.Common.{sym, ◌∙◌, ap, subst, length-take-le}

-- The cells of a list.
abbrev pub with_cells : {A : Type 0} → A → ℕ → List A → List A
with_cells blank most items = items ++ replicate (most - length items) blank

-- The cells after the first ones have the filler value.
abbrev pub IsPadded : {A : Type 0} → A → ℕ → ℕ → List A → Type 0
IsPadded blank most count cells = cells ≡ take count cells ++ replicate (most - count) blank

-- A number has 1 to 16 characters.
abbrev pub FitsNumber : {A : Type 0} → List A → Type 0
FitsNumber characters = (1 ≤ length characters) × (length characters ≤ number_most)

-- A list is stored in `most` cells: it has at most as many elements, and the other cells have the
-- filler value.
abbrev pub Keeps : {A : Type 0} → A → ℕ → ℕ → List A → Type 0
Keeps blank most count cells =
    (count ≤ most) × (length cells ≡ most) × IsPadded blank most count cells

-- As many cells are taken as are counted.
pub count_again : {A : Type 0} (most count : ℕ) (cells : List A) → count ≤ most
    → length cells ≡ most → length (take count cells) ≡ count
count_again most count cells inside size =
    length-take-le count cells (subst (λ (n : ℕ). count ≤ n) (sym size) inside)

-- If the first cells are taken as a list, the cells of that list are the same cells.
pub filled_again : {A : Type 0} (blank : A) (most count : ℕ) (cells : List A) → count ≤ most
    → length cells ≡ most → IsPadded blank most count cells
    → with_cells blank most (take count cells) ≡ cells
filled_again blank most count cells inside size rest =
    ap (λ n. take count cells ++ replicate (most - n) blank)
    (count_again most count cells inside size)
    ∙ sym rest
