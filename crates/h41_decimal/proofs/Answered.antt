-- The results of the operations are determined.
use Rattle.std.proofs.Common.{◌≡◌, ℕ, suc, ◌+◌, ◌*◌, ◌<◌, ◌≤◌, sym, ◌∙◌, arith, Result, Ok, Err, Bool, true, false}
use Rattle.std.proofs.Common.{MatchBool}
use Rattle.std.specs.Prelude.{ℤ, pos, negsuc, ◌+ℤ◌, ◌-ℤ◌, ◌*ℤ◌, ◌<ℤ◌, ◌≤ℤ◌, ◌==◌, unsigned_abs}
use Rattle.std.proofs.lemmas.Int.{ints, by_lt_z}
use Rattle.std.proofs.Math.Nat.{mul-le-mul_right}
use Rattle.std.proofs.Math.IntN.{pos-*ℤ-pos, pos-*ℤ-negsuc, negsuc-*ℤ-pos, negsuc-*ℤ-negsuc}
use Rattle.h41_decimal.specs.Signs.{with_sign, sign_of}
use Rattle.h41_decimal.specs.Units.{one, units}
use Rattle.h41_decimal.specs.NearestDecimal.{Nearest}
use Rattle.h41_decimal.specs.Operations.{IsFloor, RoundsRest}
use Rattle.h41_decimal.specs.Laws.{ModuloIsDetermined, QuotientIsDetermined, StepsAreDetermined}
use Rattle.h41_decimal.specs.declared.fault.DecimalFault.{DecimalFault}
use Rattle.h41_decimal.specs.declared.fault.DecimalFault.TheVariants.{Data}
use Rattle.h41_decimal.specs.declared.ten.Ten.{Ten}
use Rattle.h41_decimal.proofs.Determined.{nearest_determined}
use Rattle.h41_decimal.proofs.Same.{neither_less}

-- A count of steps is determined.
not_fewer : (step size k l : ℕ) → size < 2 * ((k + 1) * step) → 2 * (l * step) ≤ size → k < l → ⊥
not_fewer step size k l next not_above less =
    let le : k + 1 ≤ l = omega arith in
    let a : (k + 1) * step ≤ l * step = mul-le-mul_right step le in
    omega arith

same_count : (step size k l : ℕ) → 2 * (k * step) ≤ size → size < 2 * ((k + 1) * step) → 2 * (l * step) ≤ size → size < 2 * ((l + 1) * step)
    → k ≡ l
same_count step size k l k_low k_high l_low l_high =
    neither_less k l (not_fewer step size k l k_high l_low) (not_fewer step size l k l_high k_low)

pub steps_determined : StepsAreDetermined
steps_determined step number a b h k =
    let e : h.steps ≡ k.steps =
    same_count step (2 * unsigned_abs number + step) h.steps k.steps h.not_above h.next_above k.not_above k.next_above in
    nearest_determined (with_sign (sign_of number) (h.steps * step)) 1 a b h.value (rw e k.value)

-- The result of a division.
quotient_either : (t : Bool) (above : ℤ) (below : ℕ) (a b : Result Ten DecimalFault)
    → MatchBool t (a ≡ Err Data) (Nearest above below a) → MatchBool t (b ≡ Err Data) (Nearest above below b) → a ≡ b
quotient_either true above below a b h k = h ∙ sym k
quotient_either false above below a b h k = nearest_determined above below a b h k

pub quotient_determined : QuotientIsDetermined
quotient_determined x y a b h k =
    quotient_either (unsigned_abs y == 0) (x *ℤ y *ℤ pos one) (unsigned_abs y * unsigned_abs y) a b h k

-- The products of numbers with a divisor are in the order of its sign.
products_up : (a b : ℤ) (x : ℕ) → a ≤ℤ b → (a *ℤ pos x) ≤ℤ (b *ℤ pos x)
products_up (pos m) (pos n) x h =
    let le : m ≤ n = omega (arith, ints) in
    let p : m * x ≤ n * x = mul-le-mul_right x le in
    let e = pos-*ℤ-pos m x in
    let f = pos-*ℤ-pos n x in
    omega (arith, ints)
products_up (pos m) (negsuc n) x h = absurd (omega (arith, ints))
products_up (negsuc m) (pos n) x h =
    let e = negsuc-*ℤ-pos m x in
    let f = pos-*ℤ-pos n x in
    omega (arith, ints)
products_up (negsuc m) (negsuc n) x h =
    let le : suc n ≤ suc m = omega (arith, ints) in
    let p : suc n * x ≤ suc m * x = mul-le-mul_right x le in
    let e = negsuc-*ℤ-pos m x in
    let f = negsuc-*ℤ-pos n x in
    omega (arith, ints)

products_down : (a b : ℤ) (x : ℕ) → a ≤ℤ b → (b *ℤ negsuc x) ≤ℤ (a *ℤ negsuc x)
products_down (pos m) (pos n) x h =
    let le : m ≤ n = omega (arith, ints) in
    let p : m * suc x ≤ n * suc x = mul-le-mul_right (suc x) le in
    let e = pos-*ℤ-negsuc m x in
    let f = pos-*ℤ-negsuc n x in
    omega (arith, ints)
products_down (pos m) (negsuc n) x h = absurd (omega (arith, ints))
products_down (negsuc m) (pos n) x h =
    let e = negsuc-*ℤ-negsuc m x in
    let f = pos-*ℤ-negsuc n x in
    omega (arith, ints)
products_down (negsuc m) (negsuc n) x h =
    let le : suc n ≤ suc m = omega (arith, ints) in
    let p : suc n * suc x ≤ suc m * suc x = mul-le-mul_right (suc x) le in
    let e = negsuc-*ℤ-negsuc m x in
    let f = negsuc-*ℤ-negsuc n x in
    omega (arith, ints)

-- Of two greatest whole numbers, neither is smaller.
no_lower_floor : (w v y x : ℤ) → IsFloor w y x → IsFloor v y x → w <ℤ v → ⊥
no_lower_floor w v y (pos x) h k less =
    let le : (w +ℤ pos 1) ≤ℤ v = omega (arith, ints) in
    let p : ((w +ℤ pos 1) *ℤ pos x) ≤ℤ (v *ℤ pos x) = products_up (w +ℤ pos 1) v x le in
    let a : y <ℤ ((w +ℤ pos 1) *ℤ pos x) = h.1 in
    let b : (v *ℤ pos x) ≤ℤ y = k.0 in
    omega (arith, ints)
no_lower_floor w v y (negsuc x) h k less =
    let le : (w +ℤ pos 1) ≤ℤ v = omega (arith, ints) in
    let p : (v *ℤ negsuc x) ≤ℤ ((w +ℤ pos 1) *ℤ negsuc x) = products_down (w +ℤ pos 1) v x le in
    let a : ((w +ℤ pos 1) *ℤ negsuc x) <ℤ y = h.1 in
    let b : y ≤ℤ (v *ℤ negsuc x) = k.0 in
    omega (arith, ints)

floor_determined : (w v y x : ℤ) → IsFloor w y x → IsFloor v y x → w ≡ v
floor_determined w v y x h k =
    by_lt_z w v
    (λ less. absurd (no_lower_floor w v y x h k less))
    (λ ge. by_lt_z v w (λ less. absurd (no_lower_floor v w y x k h less)) (λ le. omega (arith, ints)))

rest_determined : (y x : ℤ) (a b : Result Ten DecimalFault) → RoundsRest y x a → RoundsRest y x b → a ≡ b
rest_determined y x a b h k =
    let e : h.whole ≡ k.whole = floor_determined h.whole k.whole y x h.floor k.floor in
    nearest_determined (y -ℤ x *ℤ h.whole) 1 a b h.rest (rw e k.rest)

-- The result of a remainder.
modulo_either : (t : Bool) (number : Ten) (y x : ℤ) (a b : Result Ten DecimalFault)
    → MatchBool t (a ≡ Ok number) (RoundsRest y x a) → MatchBool t (b ≡ Ok number) (RoundsRest y x b) → a ≡ b
modulo_either true number y x a b h k = h ∙ sym k
modulo_either false number y x a b h k = rest_determined y x a b h k

pub modulo_determined : ModuloIsDetermined
modulo_determined y x a b h k = modulo_either (unsigned_abs (units x) == 0) y (units y) (units x) a b h k
