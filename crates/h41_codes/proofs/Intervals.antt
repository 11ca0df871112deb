-- The kinds of lines by their first byte. Each kind is an interval of the byte table.
use Rattle.std.proofs.Common.{◌≡◌, ℕ, zero, suc, ◌<◌, ◌≤◌, Bool, true, false, ◌&&◌, List, [], ◌∷◌, leb, if◌then◌else◌, refl, ◌∙◌, ap, arith}
use Rattle.std.proofs.lemmas.Bool.{le-leb, lt-leb, leb-true, cond-true, cond-false, and_parts}

-- The first bytes of the intervals from the second on.
abbrev pub edges : List ℕ
edges =
    0x01 ∷ 0x10 ∷ 0x1D ∷ 0x20 ∷ 0x40 ∷ 0x90 ∷ 0xA0 ∷ 0xA8 ∷ 0xAE ∷ 0xAF ∷ 0xB1 ∷ 0xC0 ∷ 0xCE ∷ 0xD0 ∷ 0xF0 ∷ []

-- How many of these bounds a byte has reached.
abbrev pub passed : List ℕ → ℕ → ℕ
passed [] byte = 0
passed (edge ∷ more) byte = if leb edge byte then suc (passed more byte) else 0

-- The kind of a byte.
unfoldable pub kind : ℕ → ℕ
kind byte = passed edges byte

-- Whether an interval is that of a kind.
abbrev pub is_interval : List ℕ → ℕ → ℕ → ℕ → Bool
is_interval [] zero low high = true
is_interval [] (suc k) low high = false
is_interval (edge ∷ more) zero low high = leb high edge
is_interval (edge ∷ more) (suc k) low high = leb edge low && is_interval more k low high

passed_at : (list : List ℕ) (k low high byte : ℕ) → is_interval list k low high ≡ true → low ≤ byte → byte < high → passed list byte ≡ k
passed_at [] zero low high byte fits from below = refl
passed_at [] (suc k) low high byte fits from below = cc
passed_at (edge ∷ more) zero low high byte fits from below =
    cond-false (leb edge byte) (suc (passed more byte)) 0 (lt-leb edge byte (omega (arith, leb-true high edge fits)))
passed_at (edge ∷ more) (suc k) low high byte fits from below =
    let parts = and_parts (leb edge low) (is_interval more k low high) fits in
    cond-true (leb edge byte) (suc (passed more byte)) 0 (le-leb edge byte (omega (arith, leb-true edge low parts.0)))
    ∙ ap suc (passed_at more k low high byte parts.1 from below)

-- The kind of a byte in an interval.
pub kind_at : (k low high byte : ℕ) → is_interval edges k low high ≡ true → low ≤ byte → byte < high → kind byte ≡ k
unfolding kind
kind_at k low high byte fits from below = passed_at edges k low high byte fits from below
