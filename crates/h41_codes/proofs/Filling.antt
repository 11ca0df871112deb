-- Cells that are filled one after another.
use Rattle.std.proofs.Common.{◌≡◌, ℕ, suc, ◌+◌, ◌-◌, ◌<◌, ◌≤◌, List, [], ◌∷◌, ◌++◌, take, length, get_or, set, replicate, sym, ◌∙◌, ap}
use Rattle.std.proofs.Common.{append_assoc, add-one, length-take-le, arith}
use Rattle.std.proofs.Math.Seq.{take-suc, set-append_seam}

-- The cells after the first n elements of a list are written.
abbrev pub filling : {A : Type 0} → A → ℕ → List A → ℕ → List A
filling blank most items n = take n items ++ replicate (most - n) blank

-- The next element is written.
pub fill_next : {A : Type 0} (blank other : A) (most : ℕ) (items : List A) (n : ℕ) → n < length items → length items ≤ most
    → set (filling blank most items n) n (get_or items n other) ≡ filling blank most items (n + 1)
fill_next {A} blank other most items n inside room =
    let x = get_or items n other in
    let size : length (take n items) ≡ n = length-take-le n items (omega arith) in
    let more : most - n ≡ suc (most - (n + 1)) = omega arith in
    let rest = replicate (most - (n + 1)) blank in
    ap (λ k. set (take n items ++ replicate k blank) n x) more
    ∙ ap (λ k. set (take n items ++ blank ∷ rest) k x) (sym size)
    ∙ set-append_seam (take n items) blank rest x
    ∙ sym (append_assoc (take n items) (x ∷ []) rest)
    ∙ ap (λ front. front ++ rest) (sym (take-suc items n other inside) ∙ ap (λ k. take k items) (sym (add-one n)))
