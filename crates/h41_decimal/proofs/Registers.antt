-- Numbers in registers.
use Rattle.std.proofs.Common.{◌≡◌, ℕ, zero, suc, ◌+◌, ◌*◌, ◌^◌, ◌<◌, ◌≤◌, ◌∙◌, ap, refl, arith, List, Option, Some, None, Bool, true, false}
use Rattle.std.specs.Prelude.{ℤ, pos, ◌==◌, if◌then◌else◌, nat_le, nat_lt, slice_index, ◌&&◌}
use Rattle.h41_decimal.specs.Signs.{with_sign}
use Rattle.h41_decimal.specs.Units.{size_of}
use Rattle.h41_decimal.specs.declared.sign.Sign.{Sign}
use Rattle.std.specs.Option.{option_map}
use Rattle.std.proofs.lemmas.Bool.Decides.{nat_tests}
use Rattle.h41_decimal.specs.Holding.{Number, Text, Other, decimal_in, holding, holding_of, number_in, worth, text_in, sign_in, steps_in}
use Rattle.h41_decimal.specs.Holding.{parts_worth, digits_worth}

-- The value of the content of a register is the value of the number in it.
other-worth : (b : Bool) (bytes : List ℕ) → worth (if b then Text bytes else Other) ≡ None
other-worth true bytes = refl
other-worth false bytes = refl

worth-holding : (value : Option ℤ) (register : List ℕ) → worth (holding value register) ≡ value
worth-holding (Some value) register = refl
worth-holding None register = other-worth (slice_index register 13 == 1) (text_in register)

pub worth-holding_of : (register : List ℕ) → worth (holding_of register) ≡ number_in register
worth-holding_of register = worth-holding (number_in register) register

-- Digits that do not change are read as before.
pub decimal_same : (x y : List ℕ) (place count : ℕ) → ((k : ℕ) → place ≤ k → k < place + count → slice_index x k ≡ slice_index y k)
    → decimal_in x place count ≡ decimal_in y place count
decimal_same x y place zero same = refl
decimal_same x y place (suc count) same =
    let d : slice_index x place ≡ slice_index y place = same place (omega arith) (omega arith) in
    let r = decimal_same x y (place + 1) count (λ k low high. same k (omega arith) (omega arith)) in
    ap (λ t. if nat_le t 9 then option_map (λ rest. t + 10 * rest) (decimal_in x (place + 1) count) else None) d
    ∙ ap (λ o. if nat_le (slice_index y place) 9 then option_map (λ rest. slice_index y place + 10 * rest) o else None) r

-- Parts that are read as those of a decimal.
pub parts_hold : (register : List ℕ) (m e s : ℕ) (sign : Sign) (steps : ℕ) → decimal_in register 3 10 ≡ Some m
    → decimal_in register 0 3 ≡ Some e → slice_index register 13 ≡ s → sign_in s ≡ Some sign → steps_in e ≡ Some steps → 10 ^ 9 ≤ m
    → holding_of register ≡ Number (with_sign sign (size_of m steps))
parts_hold register m e s sign steps m_in e_in s_in sign_is steps_is m_size =
    let z : (m == 0) ≡ false = grind (arith, nat_tests) in
    let l : nat_lt m (10 ^ 9) ≡ false = grind (arith, nat_tests) in
    let a : number_in register ≡ parts_worth (Some m) (Some e) s = cc in
    let b : parts_worth (Some m) (Some e) s ≡ digits_worth m (sign_in s) (steps_in e) =
    ap (λ t. if t && e == 0 && s == 0 then Some (pos 0) else digits_worth m (sign_in s) (steps_in e)) z in
    let c : digits_worth m (sign_in s) (steps_in e) ≡ digits_worth m (Some sign) (Some steps) = cc in
    let d : digits_worth m (Some sign) (Some steps) ≡ Some (with_sign sign (size_of m steps)) =
    ap (λ t. if t then None else Some (with_sign sign (size_of m steps))) l in
    ap (λ v. holding v register) (a ∙ (b ∙ (c ∙ d)))
