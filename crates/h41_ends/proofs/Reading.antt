-- The bytes that were read of an input when it ends or is too long.
use Rattle.std.proofs.Common.{◌≡◌, ◌⊎◌, ◌≤◌, ◌<◌, ℕ, ◌+◌, ◌-◌, List, [], ◌++◌, length, take, min, Option, Some, None, IfSome, inl, inr, sym}
use Rattle.std.proofs.Common.{ap, ◌∙◌, arith}
use Rattle.std.proofs.Math.Seq.{take-append-add}
use Rattle.std.proofs.lemmas.List.{take-append-le, length-take}
use Rattle.std.proofs.lemmas.Grind.{common_steps}
use Rattle.std.specs.Io.KnownBytes.{Consumes, IsAtEnd}

piece_is : (room count : ℕ) (ys zs buffer : List ℕ) → ys ≡ take count buffer ++ zs → count ≤ length buffer → room < count
    → take room ys ≡ take (min count room) buffer
piece_is room count ys zs buffer second fits more =
    let inside : take room (take count buffer) ≡ take (min count room) buffer = grind (arith, common_steps) in
    ap (take room) second ∙ take-append-le room (take count buffer) zs (omega (arith, length-take count buffer)) ∙ inside

front_is : (most count : ℕ) (xs ys zs bytes buffer : List ℕ) → xs ≡ bytes ++ ys → ys ≡ take count buffer ++ zs → count ≤ length buffer
    → length bytes ≤ most → most - length bytes < count → bytes ++ take (min count (most - length bytes)) buffer ≡ take most xs
front_is most count xs ys zs bytes buffer first second fits short room =
    let most_is : most ≡ length bytes + (most - length bytes) = omega arith in
    let split : take most xs ≡ bytes ++ take (most - length bytes) ys =
    (λ i. take (most_is i) (first i)) ∙ take-append-add bytes ys (most - length bytes) in
    sym (split ∙ ap (λ piece. bytes ++ piece) (piece_is (most - length bytes) count ys zs buffer second fits room))

all_is : (most count : ℕ) (xs ys zs bytes buffer : List ℕ) → xs ≡ bytes ++ ys → ys ≡ take count buffer ++ zs → count ≡ 0 → zs ≡ []
    → length bytes ≤ most → bytes ++ take (min count (most - length bytes)) buffer ≡ take most xs
all_is most count xs ys zs bytes buffer first second none end short = grind (arith, common_steps)

-- The bytes that were read, with as many of the last piece as there is room for, are a prefix of the input.
pub input_front : (old mid new : Option (List ℕ)) (bytes buffer items : List ℕ) (most count room taken : ℕ) → Consumes old mid bytes
    → Consumes mid new (take count buffer) → (count ≡ 0 → 0 < length buffer → IsAtEnd new) → 0 < length buffer → count ≤ length buffer
    → length bytes ≤ most → room ≡ most - length bytes → taken ≡ min count room → items ≡ bytes ++ take taken buffer
    → (count ≡ 0) ⊎ ((count ≡ 0 → ⊥) × (room < count)) → IfSome old (λ xs. items ≡ take most xs)
input_front None mid new bytes buffer items most count room taken first second ends some fits short room_is taken_is items_is reason = tt
input_front (Some xs) None new bytes buffer items most count room taken first second ends some fits short room_is taken_is items_is reason =
    absurd first
input_front (Some xs) (Some ys) None bytes buffer items most count room taken
    first second ends some fits short room_is taken_is items_is reason =
    absurd second
input_front (Some xs) (Some ys) (Some zs) bytes buffer items most count room
    taken first second ends some fits short room_is taken_is items_is reason =
    let all : items ≡ bytes ++ take (min count (most - length bytes)) buffer = rw (sym room_is, sym taken_is) items_is in
    all ∙ elim reason [
      | inl none ↦ all_is most count xs ys zs bytes buffer first second none (ends none some) short
      | inr more ↦ front_is most count xs ys zs bytes buffer first second fits short (rw (sym room_is) more.1)
    ]
