-- The bytes of program memory, read eight at a time, and the nulls among them.
use Rattle.std.proofs.Common.{◌≡◌, ◌≢◌, ℕ, suc, ◌+◌, ◌-◌, ◌*◌, ◌/◌, ◌%◌, ◌^◌, ◌<◌, ◌≤◌, List, true, sym, rules}
use Rattle.std.proofs.Common.{ap, arith, ◌∙◌, subst, inl, inr}
use Rattle.std.specs.Int.{w64, leading_zeros}
use Rattle.std.proofs.lemmas.Bool.{cases_lt, ltb-true}
use Rattle.std.proofs.lemmas.Bool.Decides.{nat_tests}
use Rattle.std.proofs.Math.Nat.{div-eq_of_lt, mod-eq_of_lt, pow-le-pow_right, pow-succ'}
use Rattle.std.proofs.lemmas.Nat.{pow_pos, leading_top, le-div, div_below}
use Rattle.h41_digits.specs.Register.{byte_of_two, number_byte}
use Rattle.h41_digits.proofs.Windows.{bits_of_weight}
use Rattle.h41_ram.specs.RegisterMap.{RegisterMap, curtain_of, is_sound, register_at}
use Rattle.h41_program.specs.ProgramBytes.{byte_count, final_position, program_byte}
use Rattle.h41_program.specs.private.Reading.{HoldsBytes}
use Rattle.h41_program.proofs.Sound.{no_null_at_end}

-- A byte of two registers of program memory.
pub two_registers : (memory : RegisterMap) (at k : ℕ) (upper lower : List ℕ) → k < 8
    → upper ≡ register_at memory (curtain_of memory - 1 - at / 7)
    → (7 ≤ at % 7 + k → lower ≡ register_at memory (curtain_of memory - 1 - at / 7 - 1))
    → byte_of_two upper lower (at % 7 + k) ≡ program_byte memory (at + k)
two_registers memory at k upper lower few here below = search (rules, ltb-true, nat_tests)

-- The zeros before the highest bit of a number.
module _ (number : ℕ) (some : 0 < number) (fits : number < 2 ^ 64) where
  abbrev nulls : ℕ
  nulls = leading_zeros w64 number / 8

  top : (j : ℕ) × (leading_zeros w64 number + suc j ≡ 64) × (2 ^ j ≤ number) × (number < 2 ^ suc j)
  top = leading_top 64 number some fits

  below_weight : (place : ℕ) → suc top.0 ≤ 8 * place → number < 256 ^ place
  below_weight place high = search (rules, top, bits_of_weight, pow-le-pow_right)

  pub nulls_zero : (k : ℕ) → k < nulls → number_byte number (7 - k) ≡ 0
  nulls_zero k before = search (rules, top, div-eq_of_lt, below_weight)

  pub nulls_stop : number_byte number (7 - nulls) ≢ 0
  nulls_stop =
      let sum = top.1 in
      let most = top.2 in
      let place = 7 - nulls in
      let weight : 256 ^ place ≤ number =
      omega (arith, most, bits_of_weight place, pow-le-pow_right {n = 2} (omega arith) {i = 8 * place} {j = top.0} (omega (arith, sum))) in
      let positive : 0 < 256 ^ place = rw (bits_of_weight place) (pow_pos (8 * place)) in
      let least : 1 ≤ number / 256 ^ place = le-div 1 number (256 ^ place) positive (omega (arith, weight)) in
      let next : number < 256 ^ suc place = below_weight (suc place) (omega (arith, sum)) in
      let less : number / 256 ^ place < 256 =
      div_below number (256 ^ place) 256 positive (subst (λ n. number < n) (pow-succ' 256 place) next) in
      λ null. omega (arith, least, null, mod-eq_of_lt less)

-- All bytes of the number zero are zero.
zero_byte : (place : ℕ) → number_byte 0 place ≡ 0
zero_byte place = search (rules, bits_of_weight, pow_pos, div-eq_of_lt)

-- The bytes that were skipped are nulls, and the byte after them is not.
module _ (memory : RegisterMap) (at position : ℕ) (before : (k : ℕ) → at ≤ k → k < position → program_byte memory k ≡ 0) where
  pub more_nulls : (next last : ℕ)
      → ((k : ℕ) → k < next → position + k < byte_count memory → program_byte memory (position + k) ≡ 0)
      → position + next ≤ last → last < byte_count memory → (k : ℕ) → at ≤ k → k < position + next → program_byte memory k ≡ 0
  more_nulls next last zeros to inside k from below = elim (cases_lt k position) [
    | inl earlier ↦ before k from earlier
    | inr later ↦
        let here : k ≡ position + (k - position) = omega (arith, later) in
        ap (program_byte memory) here
        ∙ zeros (k - position) (omega (arith, later, below)) (omega (arith, later, below, to, inside))
  ]

pub not_past : (memory : RegisterMap) (position next last : ℕ)
    → ((k : ℕ) → k < next → position + k < byte_count memory → program_byte memory (position + k) ≡ 0)
    → program_byte memory last ≢ 0 → last < byte_count memory → position ≤ last → position + next ≤ last
not_past memory position next last zeros other inside from = elim (cases_lt last (position + next)) [
  | inl past ↦
      let here : last ≡ position + (last - position) = omega (arith, from) in
      absurd (other (ap (program_byte memory) here
      ∙ zeros (last - position) (omega (arith, from, past)) (omega (arith, from, inside))))
  | inr before ↦ before
]

pub eight_nulls : (memory : RegisterMap) (position number : ℕ) → HoldsBytes memory position number → number ≡ 0
    → (k : ℕ) → k < 8 → position + k < byte_count memory → program_byte memory (position + k) ≡ 0
eight_nulls memory position number holds none k few inside =
    sym (holds k few inside) ∙ ap (λ n. number_byte n (7 - k)) none ∙ zero_byte (7 - k)

pub leading : (memory : RegisterMap) (position number nulls : ℕ) → HoldsBytes memory position number → nulls < 8
    → ((k : ℕ) → k < nulls → number_byte number (7 - k) ≡ 0)
    → (k : ℕ) → k < nulls → position + k < byte_count memory → program_byte memory (position + k) ≡ 0
leading memory position number nulls holds few zeros k below inside =
    sym (holds k (omega (arith, below, few)) inside) ∙ zeros k below

-- The search for a byte that is not null ends at the last three bytes or before.
module _ (memory : RegisterMap) (position last number : ℕ) (sound : is_sound memory ≡ true) (last_is : last ≡ final_position memory)
    (count : last + 3 ≡ byte_count memory) (to : position ≤ last) (holds : HoldsBytes memory position number) where
  pub eight_inside : number ≡ 0 → position + 8 ≤ last
  eight_inside none =
      not_past memory position 8 last (eight_nulls memory position number holds none) (no_null_at_end memory last sound last_is)
      (omega (arith, count)) to

  pub nulls_inside : (nulls : ℕ) → nulls < 8 → ((k : ℕ) → k < nulls → number_byte number (7 - k) ≡ 0) → position + nulls ≤ last
  nulls_inside nulls few zeros =
      not_past memory position nulls last (leading memory position number nulls holds few zeros) (no_null_at_end memory last sound last_is)
      (omega (arith, count)) to
