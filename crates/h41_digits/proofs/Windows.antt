-- The bytes of two registers in one number.
use Rattle.std.proofs.Common.{◌≡◌, ℕ, suc, zero, ◌+◌, ◌-◌, ◌*◌, ◌/◌, ◌%◌, ◌^◌, ◌<◌, ◌≤◌, List, Bool, true, false, refl, sym, ap, arith, ◌∙◌}
use Rattle.std.specs.Prelude.{nat_lt, if◌then◌else◌}
use Rattle.std.proofs.lemmas.Bool.{ltb-true}
use Rattle.std.proofs.lemmas.Bool.Decides.{nat_tests}
use Rattle.std.proofs.Math.Nat.{mul-mod_left, mul-add-div_right, mul-add-mod_self_right, pow-succ'}
use Rattle.std.proofs.Math.Pow.{mod-mod-pow}
use Rattle.std.proofs.lemmas.Nat.{and_mask, pow-add, pow_pos, shl-shr, shr-shr, shr_below}
use Rattle.std.proofs.lemmas.Nat.{mod-pow-add, mod_below, field_of, div-mul-add, mul-add-lt}
use Rattle.std.specs.Int.RustNames.{bit_and}
use Rattle.h41_digits.specs.Register.{byte_at, byte_of_two, number_byte}
use Rattle.h41_digits.specs.Packed.{digits_of}
use Rattle.h41_digits.proofs.Packed.{byte_shifted}

-- A byte is eight bits wide.
pub bits_of_weight : (k : ℕ) → 256 ^ k ≡ 2 ^ (8 * k)
bits_of_weight zero = refl
bits_of_weight (suc k) =
    pow-succ' 256 k ∙ ap (λ weight. 256 * weight) (bits_of_weight k) ∙ sym (pow-add 2 8 (8 * k)) ∙ ap (λ bits. 2 ^ bits) (omega arith)

-- A shift and a mask read a byte of a number.
pub number_byte_read : (number k : ℕ) → bit_and (number / 2 ^ (8 * k)) 255 ≡ number_byte number k
number_byte_read number k = and_mask (number / 2 ^ (8 * k)) 8 ∙ ap (λ weight. number / weight % 256) (sym (bits_of_weight k))

-- A shift to the left inserts zeros.
shifted_up : (word rest width : ℕ) → word * 2 ^ width % 2 ^ (rest + width) ≡ word % 2 ^ rest * 2 ^ width
shifted_up word rest width =
    let split = mod-pow-add (word * 2 ^ width) rest width in
    let kept = ap (λ n. n % 2 ^ rest * 2 ^ width) (shl-shr word width) in
    omega (arith, split, kept, mul-mod_left word (2 ^ width))

-- A byte of the upper part of a number, and one of the lower part.
upper_byte : (word lower more place width : ℕ) → lower < 2 ^ width
    → (word % 2 ^ (more + 8 + place) * 2 ^ width + lower) / 2 ^ (width + place) % 256 ≡ word / 2 ^ place % 256
upper_byte word lower more place width small =
    ap (λ n. n % 256) (sym (shr-shr (word % 2 ^ (more + 8 + place) * 2 ^ width + lower) width place)
    ∙ ap (λ n. n / 2 ^ place) (div-mul-add (word % 2 ^ (more + 8 + place)) (2 ^ width) lower small) ∙ field_of word (more + 8) place)
    ∙ mod-mod-pow (word / 2 ^ place) more 8

lower_byte : (upper lower more place : ℕ) → (upper * 2 ^ (more + 8 + place) + lower) / 2 ^ place % 256 ≡ lower / 2 ^ place % 256
lower_byte upper lower more place =
    let weights : 2 ^ (more + 8 + place) ≡ 2 ^ more * 256 * 2 ^ place =
    pow-add 2 (more + 8) place ∙ ap (λ n. n * 2 ^ place) (pow-add 2 more 8) in
    let high : upper * 2 ^ (more + 8 + place) ≡ upper * (2 ^ more * 256) * 2 ^ place =
    ap (λ n. upper * n) weights ∙ grind arith in
    let whole : upper * (2 ^ more * 256) ≡ upper * 2 ^ more * 256 = grind arith in
    ap (λ n. (n + lower) / 2 ^ place % 256) high
    ∙ ap (λ n. n % 256) (mul-add-div_right (pow_pos place) (upper * (2 ^ more * 256)) lower)
    ∙ ap (λ n. (n + lower / 2 ^ place) % 256) whole
    ∙ mul-add-mod_self_right (upper * 2 ^ more) 256 (lower / 2 ^ place)

module _ (here below skipped : ℕ) (few : skipped < 7) (small : below < 16 ^ 14) where
  abbrev width : ℕ
  width = 8 * skipped + 8

  abbrev rest : ℕ
  rest = 56 - 8 * skipped

  abbrev lower : ℕ
  lower = below / 2 ^ (48 - 8 * skipped)

  abbrev number : ℕ
  number = here * 2 ^ width % 2 ^ 64 + lower

  lower_small : lower < 2 ^ width
  lower_small =
      let bits : 56 ≡ width + (48 - 8 * skipped) = omega (arith, few) in
      let fits : below < 2 ^ (width + (48 - 8 * skipped)) = rw (← bits) small in
      shr_below below width (48 - 8 * skipped) fits

  number_is : number ≡ here % 2 ^ rest * 2 ^ width + lower
  number_is =
      let bits : 64 ≡ rest + width = omega (arith, few) in
      ap (λ n. n + lower) (ap (λ n. here * 2 ^ width % 2 ^ n) bits ∙ shifted_up here rest width)

  pub number_fits : number < 2 ^ 64
  number_fits =
      let less : here % 2 ^ rest * 2 ^ width + lower < 2 ^ width * 2 ^ rest =
      mul-add-lt (here % 2 ^ rest) (2 ^ width) lower (2 ^ rest) (mod_below here (2 ^ rest) (pow_pos rest)) lower_small in
      let bits : width + rest ≡ 64 = omega (arith, few) in
      let product : 2 ^ width * 2 ^ rest ≡ 2 ^ 64 = sym (pow-add 2 width rest) ∙ ap (λ n. 2 ^ n) bits in
      omega (arith, number_is, less, product)

  number_upper : (k : ℕ) → skipped + k < 7 → number_byte number (7 - k) ≡ here / 2 ^ (8 * (6 - (skipped + k))) % 256
  number_upper k inside =
      let place = 8 * (6 - (skipped + k)) in
      let bits : 8 * (7 - k) ≡ width + place = omega (arith, inside) in
      let parts : rest ≡ 8 * k + 8 + place = omega (arith, inside) in
      ap (λ weight. number / weight % 256) (bits_of_weight (7 - k) ∙ ap (λ n. 2 ^ n) bits)
      ∙ ap (λ n. n / 2 ^ (width + place) % 256) (number_is ∙ ap (λ n. here % 2 ^ n * 2 ^ width + lower) parts)
      ∙ upper_byte here lower (8 * k) place width lower_small

  number_lower : (k : ℕ) → k < 8 → 7 ≤ skipped + k → number_byte number (7 - k) ≡ below / 2 ^ (8 * (13 - (skipped + k))) % 256
  number_lower k inside behind =
      let place = 8 * (7 - k) in
      let more = 8 * (skipped + k - 7) in
      let parts : width ≡ more + 8 + place = omega (arith, inside, behind) in
      let bits : 48 - 8 * skipped + place ≡ 8 * (13 - (skipped + k)) = omega (arith, few, inside, behind) in
      ap (λ weight. number / weight % 256) (bits_of_weight (7 - k))
      ∙ ap (λ n. n / 2 ^ place % 256) (number_is ∙ ap (λ n. here % 2 ^ rest * 2 ^ n + lower) parts)
      ∙ lower_byte (here % 2 ^ rest) lower more place
      ∙ ap (λ n. n % 256) (shr-shr below (48 - 8 * skipped) place ∙ ap (λ n. below / 2 ^ n) bits)

  pub number_bytes : (upper lower : List ℕ) → digits_of 14 here ≡ upper → digits_of 14 below ≡ lower → (k : ℕ) → k < 8
      → number_byte number (7 - k) ≡ byte_of_two upper lower (skipped + k)
  number_bytes upper lower seen seen_below k inside =
      elim (nat_lt (skipped + k) 7) as (λ (first : Bool). nat_lt (skipped + k) 7 ≡ first
      → number_byte number (7 - k) ≡ (if first then byte_at upper (6 - (skipped + k)) else byte_at lower (13 - (skipped + k)))) [
        | true ↦ λ is.
            let less : skipped + k < 7 = ltb-true (skipped + k) 7 is in
            number_upper k less ∙ byte_shifted 14 here (6 - (skipped + k)) upper seen (omega (arith, less))
        | false ↦ λ is.
            let more : 7 ≤ skipped + k = grind (arith, nat_tests) in
            number_lower k inside more ∙ byte_shifted 14 below (13 - (skipped + k)) lower seen_below (omega (arith, more))
      ] refl
