-- ALPHA is read as it was written.
use Rattle.std.proofs.Common.{◌≡◌, ◌≢◌, ◌⊎◌, inl, inr, ap, nat_lt, if◌then◌else◌, ℕ, ◌+◌, ◌-◌, ◌*◌, ◌/◌, ◌%◌, ◌<◌, List, length, map, set}
use Rattle.std.proofs.Common.{get_or, get_or-set_same, get_or-set_other, length-set, sym, arith, ◌∙◌}
use Rattle.std.specs.List.{range_with_len}
use Rattle.std.proofs.lemmas.List.{ext_get_or, get_or-drop}
use Rattle.std.proofs.lemmas.List.FromFn.{get_or-map-range_with_len, length-map-range_with_len}
use Rattle.h41_ram.specs.RegisterMap.{zeros}
use Rattle.h41_ram.specs.RegisterMapLaws.{AlphaIsRead, AlphaKeepsOthers, AlphaKeepsLeftOfP}

-- The four registers after a write of all of them.
module _ (status : List (List ℕ)) (m n o p : List ℕ) (size : length status ≡ 16) where
  abbrev pub after_m : List (List ℕ)
  after_m = set status 5 m

  abbrev pub after_n : List (List ℕ)
  after_n = set after_m 6 n

  abbrev pub after_o : List (List ℕ)
  after_o = set after_n 7 o

  abbrev pub after_p : List (List ℕ)
  after_p = set after_o 8 p

  size_m : length after_m ≡ 16
  size_m = length-set status 5 m ∙ size

  size_n : length after_n ≡ 16
  size_n = length-set after_m 6 n ∙ size_m

  size_o : length after_o ≡ 16
  size_o = length-set after_n 7 o ∙ size_n

  apart : (i j : ℕ) → i < j → i ≢ j
  apart i j below = λ equal. absurd (omega (arith, equal))

  pub reads_p : get_or after_p 8 zeros ≡ p
  reads_p = get_or-set_same after_o 8 p zeros (omega (arith, size_o))

  pub reads_o : get_or after_p 7 zeros ≡ o
  reads_o = get_or-set_other after_o 8 7 p zeros (apart 7 8 (omega arith)) ∙ get_or-set_same after_n 7 o zeros (omega (arith, size_n))

  pub reads_n : get_or after_p 6 zeros ≡ n
  reads_n =
      get_or-set_other after_o 8 6 p zeros (apart 6 8 (omega arith)) ∙ get_or-set_other after_n 7 6 o zeros (apart 6 7 (omega arith))
      ∙ get_or-set_same after_m 6 n zeros (omega (arith, size_m))

  pub reads_m : get_or after_p 5 zeros ≡ m
  reads_m =
      get_or-set_other after_o 8 5 p zeros (apart 5 8 (omega arith)) ∙ get_or-set_other after_n 7 5 o zeros (apart 5 7 (omega arith))
      ∙ get_or-set_other after_m 6 5 n zeros (apart 5 6 (omega arith)) ∙ get_or-set_same status 5 m zeros (omega (arith, size))

-- A byte consists of its two digits.
halves : (byte : ℕ) → byte / 16 * 16 + byte % 16 ≡ byte
halves byte = omega arith

-- A list of 24 elements consists of these elements.
listed : (text : List ℕ) → length text ≡ 24 → map (λ i. get_or text i 0) (range_with_len 0 24) ≡ text
listed text size =
    ext_get_or 0 (map (λ i. get_or text i 0) (range_with_len 0 24)) text (length-map-range_with_len (λ i. get_or text i 0) 0 24 ∙ sym size)
    (λ i inside. get_or-map-range_with_len (λ i. get_or text i 0) 0 24 i i 0
    (omega (arith, length-map-range_with_len (λ i. get_or text i 0) 0 24)) (omega arith))

pub alpha_of-with_alpha : AlphaIsRead
alpha_of-with_alpha memory text size long =
    rw (
      reads_p memory.status _ _ _ _ size,
      reads_o memory.status _ _ _ _ size,
      reads_n memory.status _ _ _ _ size,
      reads_m memory.status _ _ _ _ size,
    )
    (simp halves (listed text long))

-- Writing ALPHA changes no other register.
other_status : (status : List (List ℕ)) (m n o p : List ℕ) (address : ℕ) → (address < 5) ⊎ (8 < address)
    → get_or (set (set (set (set status 5 m) 6 n) 7 o) 8 p) address zeros ≡ get_or status address zeros
other_status status m n o p address (inl low) =
    get_or-set_other _ 8 address p zeros (λ equal. absurd (omega (arith, equal)))
    ∙ get_or-set_other _ 7 address o zeros (λ equal. absurd (omega (arith, equal)))
    ∙ get_or-set_other _ 6 address n zeros (λ equal. absurd (omega (arith, equal)))
    ∙ get_or-set_other _ 5 address m zeros (λ equal. absurd (omega (arith, equal)))
other_status status m n o p address (inr high) =
    get_or-set_other _ 8 address p zeros (λ equal. absurd (omega (arith, equal)))
    ∙ get_or-set_other _ 7 address o zeros (λ equal. absurd (omega (arith, equal)))
    ∙ get_or-set_other _ 6 address n zeros (λ equal. absurd (omega (arith, equal)))
    ∙ get_or-set_other _ 5 address m zeros (λ equal. absurd (omega (arith, equal)))

pub alpha_keeps_others : AlphaKeepsOthers
alpha_keeps_others memory text address apart =
    ap (λ (register : List ℕ).
    if nat_lt address 16 then register else if nat_lt address 192 then zeros else get_or memory.main (address - 192) zeros)
    (other_status memory.status _ _ _ _ address apart)

-- Writing ALPHA does not change the left four bytes of P.
pub alpha_keeps_left_of_p : AlphaKeepsLeftOfP
alpha_keeps_left_of_p memory text size = rw (reads_p memory.status _ _ _ _ size) (simp get_or-drop)
