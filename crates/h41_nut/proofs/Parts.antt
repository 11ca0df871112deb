-- Some places of a register as a number.
use Rattle.std.proofs.Common.{◌≡◌, ℕ, zero, suc, ◌+◌, ◌-◌, ◌*◌, ◌%◌, ◌^◌, ◌<◌, ◌≤◌, List, take, drop, slice_index, sym, ap, arith, inl, inr}
use Rattle.std.proofs.Common.{◌∙◌}
use Rattle.std.proofs.Math.Nat.{pow-succ'}
use Rattle.std.proofs.lemmas.Bool.{cases_lt}
use Rattle.std.proofs.lemmas.List.{drop_more, get_or-take, take_all}
use Rattle.std.proofs.lemmas.List.Elements.{All-get_or}
use Rattle.h41_digits.specs.Register.{IsRegister, value}
use Rattle.h41_digits.specs.Packed.{value-cons}
use Rattle.h41_nut.specs.RegisterWords.{rotated_register}
use Rattle.h41_nut.proofs.Digits.{by_place-is}

digit_at : (x : List ℕ) (place : ℕ) → IsRegister 14 x → place < 14 → slice_index x place < 16
digit_at x place register inside = All-get_or (λ digit. digit < 16) x place 0 (omega (arith, register.size, inside)) register.each

-- The lowest digit of a part, and those above it.
value_at : (x : List ℕ) (lo count : ℕ) → IsRegister 14 x → lo < 14
    → value (take (suc count) (drop lo x)) ≡ slice_index x lo + 16 * value (take count (drop (lo + 1) x))
value_at x lo count register inside =
    ap (λ d. value (take (suc count) d)) (drop_more x lo 0 (omega (arith, register.size, inside)))
    ∙ value-cons (slice_index x lo) (take count (drop (lo + 1) x))

-- A part is below 16 to the power of the count of its places.
pub part-lt : (x : List ℕ) (lo count : ℕ) → IsRegister 14 x → lo + count ≤ 14 → value (take count (drop lo x)) < 16 ^ count
part-lt x lo zero register inside = omega arith
part-lt x lo (suc count) register inside =
    let above = part-lt x (lo + 1) count register (omega (arith, inside)) in
    rw (value_at x lo count register (omega (arith, inside)), pow-succ' 16 count)
    (omega (arith, above, digit_at x lo register (omega (arith, inside))))

-- Parts with the same number have the same digits.
same_part : (count a b k : ℕ) (x y : List ℕ) → IsRegister 14 x → IsRegister 14 y → a + count ≤ 14 → b + count ≤ 14
    → value (take count (drop a x)) ≡ value (take count (drop b y)) → k < count → slice_index x (a + k) ≡ slice_index y (b + k)
same_part zero a b k x y p q in_x in_y held inside = absurd (omega (arith, inside))
same_part (suc count) a b k x y p q in_x in_y held inside =
    let below_a : a < 14 = omega (arith, in_x) in
    let below_b : b < 14 = omega (arith, in_y) in
    let whole : slice_index x a + 16 * value (take count (drop (a + 1) x)) ≡ slice_index y b + 16 * value (take count (drop (b + 1) y)) =
    sym (value_at x a count p below_a) ∙ held ∙ value_at y b count q below_b in
    let own : slice_index x a ≡ slice_index y b = omega (arith, whole, digit_at x a p below_a, digit_at y b q below_b) in
    let rest : value (take count (drop (a + 1) x)) ≡ value (take count (drop (b + 1) y)) = omega (arith, whole, own) in
    elim (cases_lt k 1) [
      | inl first ↦ ap (slice_index x) (omega (arith, first)) ∙ own ∙ ap (slice_index y) (omega (arith, first))
      | inr later ↦
          ap (slice_index x) (omega (arith, later))
          ∙ same_part count (a + 1) (b + 1) (k - 1) x y p q (omega (arith, in_x))
          (omega (arith, in_y)) rest (omega (arith, later, inside))
          ∙ ap (slice_index y) (omega (arith, later))
    ]

-- A register that consists of the two parts of another one, exchanged.
pub exchanged_parts : (x stayed z : List ℕ) (digits : ℕ) → digits < 14 → IsRegister 14 x → IsRegister 14 stayed → IsRegister 14 z
    → value (take (14 - digits) (drop 0 stayed)) ≡ value (take (14 - digits) (drop digits x))
    → value (take digits (drop (14 - digits) z)) ≡ value (take digits (drop 0 x)) → take (14 - digits) z ≡ take (14 - digits) stayed
    → z ≡ rotated_register x digits
exchanged_parts x stayed z digits few from between register staying leaving below =
    by_place-is z (λ place. slice_index x ((place + digits) % 14)) register.size (λ place inside. elim (cases_lt place (14 - digits)) [
      | inl low ↦
          sym (get_or-take (14 - digits) z place 0 low) ∙ ap (λ d. slice_index d place) below ∙ get_or-take (14 - digits) stayed place 0 low
          ∙ ap (slice_index stayed) (omega arith)
          ∙ same_part (14 - digits) 0 digits place stayed x between from (omega arith) (omega (arith, few)) staying low
          ∙ ap (slice_index x) (omega (arith, low))
      | inr high ↦
          ap (slice_index z) (omega (arith, few, high))
          ∙ same_part digits (14 - digits) 0 (place - (14 - digits)) z x register from
          (omega (arith, few)) (omega (arith, few)) leaving (omega (arith, few, high, inside))
          ∙ ap (slice_index x) (omega (arith, few, high, inside))
    ])

-- A register is below 16 to the power of its places.
pub register-lt : (x : List ℕ) → IsRegister 14 x → value x < 16 ^ 14
register-lt x register = rw (take_all 14 x (omega (arith, register.size))) at (part-lt x 0 14 register (omega arith))
