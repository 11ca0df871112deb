-- The bits of numbers with 64 bits each, as one list.
use Rattle.std.proofs.Common.{◌≡◌, ◌≤◌, ◌<◌, ℕ, ◌-◌, ◌*◌, ◌/◌, ◌%◌, Bool, false, inl, inr, eqb, List, [], ◌++◌, length, replicate, take}
use Rattle.std.proofs.Common.{get_or, set, get_or-set_other, get_or-set_same, length-set, ext_get_or, sym, ap, ◌∙◌, arith}
use Rattle.std.specs.Prelude.{All}
use Rattle.std.specs.Int.{bit_at}
use Rattle.std.proofs.Math.Seq.{take-nil}
use Rattle.std.proofs.lemmas.Bool.{cases_eq}
use Rattle.std.proofs.lemmas.List.{get_or-replicate}
use Rattle.std.proofs.lemmas.List.FromFn.{get_or-map-range_with_len, length-map-range_with_len}
use Rattle.std.proofs.lemmas.Nat.Bits.{bit_at-zero}
use Rattle.h41_breakpoints.specs.private.Tables.{IsWithBit, bit_of, bits_of}

pub length-bits_of : (count : ℕ) (numbers : List ℕ) → length (bits_of count numbers) ≡ count
unfolding bits_of
length-bits_of count numbers = length-map-range_with_len (bit_of numbers) 0 count

pub get_or-bits_of : (count : ℕ) (numbers : List ℕ) (k : ℕ) → k < count → get_or (bits_of count numbers) k false ≡ bit_of numbers k
unfolding bits_of
get_or-bits_of count numbers k below = get_or-map-range_with_len (bit_of numbers) 0 count k k false below (omega arith)

-- An empty list that is filled with zeros, and its bits.
pub filled : (items : List ℕ) (spare count : ℕ) → items ≡ [] → spare ≡ 0
    → take count items ++ replicate (count - spare) 0 ≡ replicate count 0
filled items spare count none short =
    ap (λ list. take count list ++ replicate (count - spare) 0) none
    ∙ ap (λ list. list ++ replicate (count - spare) 0) (take-nil count)
    ∙ ap (λ n. replicate n 0) (omega (arith, short))

pub bits_of_zeros : (count n : ℕ) → count ≤ 64 * n → All (λ b. b ≡ false) (bits_of count (replicate n 0))
unfolding bits_of
bits_of_zeros count n room k d below =
    let zeros : List ℕ = replicate n 0 in
    let inside : k < count = rw length-map-range_with_len at below in
    let number : k / 64 < n = omega (arith, inside, room) in
    get_or-map-range_with_len (bit_of zeros) 0 count k k d inside (omega arith)
    ∙ ap (λ x. eqb (bit_at x (k % 64)) 1) (get_or-replicate n (k / 64) 0 0 number)
    ∙ ap (λ x. eqb x 1) (bit_at-zero (k % 64))

pub bits_of-set : (count : ℕ) (numbers : List ℕ) (n changed : ℕ) (bit : Bool) → n < count → count ≤ 64 * length numbers
    → IsWithBit (get_or numbers (n / 64) 0) (n % 64) bit changed
    → bits_of count (set numbers (n / 64) changed) ≡ set (bits_of count numbers) n bit
bits_of-set count numbers n changed bit within room is =
    let number_in : n / 64 < length numbers = omega (arith, within, room) in
    let bit_in : n < length (bits_of count numbers) = omega (arith, within, length-bits_of count numbers) in
    ext_get_or false _ _
    (length-bits_of count _ ∙ sym (length-bits_of count numbers) ∙ sym (length-set (bits_of count numbers) n bit))
    (λ k below.
    let k_in : k < count = rw length-bits_of at below in
    get_or-bits_of count _ k k_in
    ∙ (elim (cases_eq k n) as (λ _. bit_of (set numbers (n / 64) changed) k ≡ get_or (set (bits_of count numbers) n bit) k false) [
      | inl same ↦
          rw same
          (ap (λ x. eqb (bit_at x (n % 64)) 1) (get_or-set_same numbers (n / 64) changed 0 number_in)
          ∙ is.here ∙ sym (get_or-set_same (bits_of count numbers) n bit false bit_in))
      | inr other ↦
          (elim (cases_eq (k / 64) (n / 64)) as (λ _. bit_of (set numbers (n / 64) changed) k ≡ bit_of numbers k) [
            | inl one ↦
                ap (λ x. eqb (bit_at (get_or (set numbers (n / 64) changed) x 0) (k % 64)) 1) one
                ∙ ap (λ x. eqb (bit_at x (k % 64)) 1) (get_or-set_same numbers (n / 64) changed 0 number_in)
                ∙ ap (λ x. eqb x 1) (is.others (k % 64) (omega arith) (omega (arith, one, other)))
                ∙ ap (λ x. eqb (bit_at (get_or numbers x 0) (k % 64)) 1) (sym one)
            | inr apart ↦ ap (λ x. eqb (bit_at x (k % 64)) 1) (get_or-set_other numbers (n / 64) (k / 64) changed 0 apart)
          ])
          ∙ sym (get_or-bits_of count numbers k k_in)
          ∙ sym (get_or-set_other (bits_of count numbers) n k bit false other)
    ]))
