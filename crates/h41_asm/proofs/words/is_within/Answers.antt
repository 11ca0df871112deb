use Rattle.std.proofs.Common.{◌≡◌, ℕ, ◌==◌, ◌||◌, Bool, true, false, not, cond, get_or, map, nat_eq, refl, ap, ◌∙◌, arith}
use Rattle.std.specs.List.{range_with_len}
use Rattle.std.proofs.lemmas.List.FromFn.{get_or-map-range_with_len}
use Rattle.h41_asm.specs.SourceLines.{is_blank}
use Rattle.h41_asm.proofs.words.is_within.Goals as goal

-- The bytes that end a word, or begin or end quotes.
abbrev is_apart : ℕ → Bool
is_apart byte = is_blank byte || byte == 59 || byte == 34

abbrev mark : ℕ → ℕ
mark byte = cond (is_apart byte) 1 0

unmarked : (apart : Bool) → nat_eq (cond {A = ℕ} apart 1 0) 0 ≡ not apart
unmarked true = refl
unmarked false = refl

pub returns : goal.returns
returns c =
    let byte : ℕ = c.args.byte in
    let entry : get_or (map mark (range_with_len 0 256)) byte 0 ≡ mark byte =
    get_or-map-range_with_len mark 0 256 byte byte 0 c.ranges.byte.fits (omega arith) in
    ap (λ (n : ℕ). nat_eq n 0) entry ∙ unmarked (is_apart byte)
