-- The words of a mnemonic, a space and an operand.
use Rattle.std.proofs.Common.{◌≡◌, ℕ, ◌<◌, Bool, true, false, not, ◌&&◌, List, [], ◌∷◌, ◌++◌, length, nat_lt, ◌==◌, filter, refl, ap, ◌∙◌}
use Rattle.std.proofs.Common.{arith, inl, inr}
use Rattle.std.specs.List.{list_all, onto_first}
use Rattle.std.proofs.lemmas.Bool.{cases_Bool, and_parts, lt-ltb, cond_both, cond-true, not-true}
use Rattle.std.proofs.lemmas.List.Elements.{filter-append}
use Rattle.h41_asm.specs.SourceLines.{is_blank, parts_from, quoted_after, words_of}
use Rattle.h41_laws_words.proofs.ListingLines.{is_plain, not_below, not_special}

-- A plain byte that is no space.
abbrev pub is_solid : ℕ → Bool
is_solid byte = is_plain byte && not (byte == 32)

onto_first-append : (byte : ℕ) (parts others : List (List ℕ)) → 0 < length parts
    → onto_first byte (parts ++ others) ≡ onto_first byte parts ++ others
onto_first-append byte [] others some = absurd (omega arith)
onto_first-append byte (part ∷ parts) others some = refl

onto_first-some : (byte : ℕ) (parts : List (List ℕ)) → 0 < length (onto_first byte parts)
onto_first-some byte [] = omega arith
onto_first-some byte (part ∷ parts) = omega arith

parts_some : (quoted : Bool) (line : List ℕ) → 0 < length (parts_from quoted line)
parts_some quoted [] = omega arith
parts_some quoted (byte ∷ rest) =
    let others = parts_from (quoted_after quoted byte) rest in
    cond_both (not quoted && byte == 59) _ _ (λ parts. 0 < length parts) (λ _. omega arith)
    (λ _. cond_both (not quoted && is_blank byte) ([] ∷ others) (onto_first byte others)
    (λ parts. 0 < length parts) (λ _. omega arith) (λ _. onto_first-some byte others))

-- The parts of a plain text that is followed by a space, and the rest.
parts-append : (name rest : List ℕ) → list_all is_plain name ≡ true
    → parts_from false (name ++ 32 ∷ rest) ≡ parts_from false name ++ parts_from false rest
parts-append [] rest plain = refl
parts-append (byte ∷ name) rest plain =
    let both = and_parts (is_plain byte) (list_all is_plain name) plain in
    let special = not_special byte both.0 in
    let behind = parts-append name rest both.1 in
    elim (cases_Bool (is_blank byte)) [
      | inl blank ↦ rw (special.0, special.1, blank) (ap (λ parts. [] ∷ parts) behind)
      | inr other ↦
          rw (special.0, special.1, other)
          (ap (onto_first byte) behind ∙ onto_first-append byte (parts_from false name) (parts_from false rest) (parts_some false name))
    ]

parts_solid : (word : List ℕ) → list_all is_solid word ≡ true → parts_from false word ≡ word ∷ []
parts_solid [] solid = refl
parts_solid (byte ∷ word) solid =
    let both = and_parts (is_solid byte) (list_all is_solid word) solid in
    let here = and_parts (is_plain byte) (not (byte == 32)) both.0 in
    let special = not_special byte here.0 in
    rw (special.0, special.1, not-true (byte == 32) here.1, not_below byte 9 here.0 (omega arith))
    (ap (onto_first byte) (parts_solid word both.1))

words_solid : (word : List ℕ) → 0 < length word → list_all is_solid word ≡ true → words_of word ≡ word ∷ []
words_solid word some solid =
    ap (filter (λ part. nat_lt 0 (length part))) (parts_solid word solid) ∙ cond-true _ _ _ (lt-ltb 0 (length word) some)

-- The words of a mnemonic, and its operand.
pub words_of-operand : (name word : List ℕ) → list_all is_plain name ≡ true → 0 < length word → list_all is_solid word ≡ true
    → words_of (name ++ 32 ∷ word) ≡ words_of name ++ (word ∷ [])
words_of-operand name word plain some solid =
    ap (filter (λ part. nat_lt 0 (length part))) (parts-append name word plain)
    ∙ filter-append (λ part. nat_lt 0 (length part)) (parts_from false name) (parts_from false word)
    ∙ ap (λ words. words_of name ++ words) (words_solid word some solid)
