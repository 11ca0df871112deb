-- The lines of a text whose lines have no byte that would end them or be removed.
use Rattle.std.proofs.Common.{◌≡◌, ℕ, ◌-◌, ◌<◌, Bool, true, false, not, ◌&&◌, List, [], ◌∷◌, ◌++◌, length, nat_lt, ◌==◌, refl, ap, ◌∙◌}
use Rattle.std.proofs.Common.{arith, All}
use Rattle.std.specs.Prelude.{slice_index}
use Rattle.std.specs.List.{list_all, slice_split}
use Rattle.std.specs.Str.Lines.{lines_of_parts, strip_carriage_return}
use Rattle.std.proofs.lemmas.Bool.{and_parts, ltb-true, not-true, ne_eqb}
use Rattle.std.proofs.lemmas.List.Splits.{slice_split_at, length-slice_split}
use Rattle.std.proofs.lemmas.List.Sums.{AllPass-from_list_all}
use Rattle.h41_asm.specs.SourceLines.{lines}

-- A byte that can be part of a line as it is: no control character, no '"' and no ';'.
abbrev pub is_plain : ℕ → Bool
is_plain byte = nat_lt 31 byte && (not (byte == 34) && not (byte == 59))

-- The bytes that a plain byte is not.
pub not_below : (byte other : ℕ) → is_plain byte ≡ true → other < 32 → (byte == other) ≡ false
not_below byte other plain low =
    let above = ltb-true 31 byte (and_parts (nat_lt 31 byte) (not (byte == 34) && not (byte == 59)) plain).0 in
    ne_eqb byte other (λ same. omega (arith, above, same))

pub not_special : (byte : ℕ) → is_plain byte ≡ true → ((byte == 34) ≡ false) × ((byte == 59) ≡ false)
not_special byte plain =
    let others = and_parts (nat_lt 31 byte) (not (byte == 34) && not (byte == 59)) plain in
    let both = and_parts (not (byte == 34)) (not (byte == 59)) others.1 in
    (not-true (byte == 34) both.0, not-true (byte == 59) both.1)

-- A plain line does not end in CR.
unstripped : (text : List ℕ) → list_all is_plain text ≡ true → strip_carriage_return text ≡ text
unstripped [] plain = refl
unstripped (first ∷ rest) plain =
    let at : is_plain (slice_index (first ∷ rest) (length (first ∷ rest) - 1)) ≡ true =
    AllPass-from_list_all is_plain (first ∷ rest) plain (length (first ∷ rest) - 1) 0 (omega arith) in
    rw (not_below (slice_index (first ∷ rest) (length (first ∷ rest) - 1)) 13 at (omega arith)) refl

lines_of_parts-cons : (part : List ℕ) (parts : List (List ℕ)) → 0 < length parts
    → lines_of_parts (part ∷ parts) ≡ strip_carriage_return part ∷ lines_of_parts parts
lines_of_parts-cons part [] some = absurd (omega arith)
lines_of_parts-cons part (next ∷ more) some = refl

-- The first line, and the lines after its LF.
pub lines-cons : (text rest : List ℕ) → list_all is_plain text ≡ true → lines (text ++ 10 ∷ rest) ≡ text ∷ lines rest
lines-cons text rest plain =
    let newline : ℕ → Bool = λ byte. byte == 10 in
    let none : All (λ byte. newline byte ≡ false) text =
    λ k d inside. not_below _ 10 (AllPass-from_list_all is_plain text plain k d inside) (omega arith) in
    let parts = slice_split newline rest in
    ap lines_of_parts (slice_split_at newline text 10 rest none refl)
    ∙ lines_of_parts-cons text parts (omega (arith, length-slice_split newline rest))
    ∙ ap (λ line. line ∷ lines_of_parts parts) (unstripped text plain)
