-- The characters in quotes, one after another.
use Rattle.std.proofs.Common.{◌≡◌, ℕ, zero, suc, ◌+◌, List, [], ◌∷◌, Some, None, refl, ◌∙◌, ap, arith}
use Rattle.h41_text.specs.private.TextParts.{first_character, unquoted_text}

-- One more character.
pub unquoted_more : (most fewer : ℕ) (text : List ℕ) (character : ℕ) (rest : List ℕ) → most ≡ fewer + 1
    → first_character text ≡ Some (character, rest) → unquoted_text most text ≡ character ∷ unquoted_text fewer rest
unquoted_more zero fewer text character rest count first = absurd (omega arith)
unquoted_more (suc most) fewer text character rest count first =
    let same : most ≡ fewer = omega arith in
    ap (λ parts. elim parts [ None ↦ [] | Some p ↦ p.0 ∷ unquoted_text most p.1 ]) first ∙ ap (λ n. character ∷ unquoted_text n rest) same

-- No more characters.
pub unquoted_end : (most : ℕ) (text : List ℕ) → first_character text ≡ None → unquoted_text most text ≡ []
unquoted_end zero text first = refl
unquoted_end (suc most) text first = ap (λ parts. elim parts [ None ↦ [] | Some p ↦ p.0 ∷ unquoted_text most p.1 ]) first
