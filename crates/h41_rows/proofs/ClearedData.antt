-- Main memory with zeros from the curtain up.
use Rattle.std.proofs.Common.{◌≡◌, ℕ, suc, zero, ◌+◌, ◌-◌, ◌<◌, ◌≤◌, min, List, ◌∷◌, ◌++◌, length, map, take, drop}
use Rattle.std.proofs.Common.{replicate, set, get_or, length-append, refl, ap, sym, ◌∙◌, append_assoc, add-one, arith, rules}
use Rattle.std.proofs.Math.Seq.{drop-cons, set-append_seam}
use Rattle.std.specs.List.{range_with_len}
use Rattle.std.proofs.lemmas.Bool.Decides.{nat_tests}
use Rattle.std.proofs.lemmas.List.{append-nil, ext_get_or, get_or_append_left, get_or-append_right, get_or-replicate, get_or-take}
use Rattle.std.proofs.lemmas.List.{length-replicate, length-take-le, take-append-drop, drop_all}
use Rattle.std.proofs.lemmas.List.FromFn.{get_or-map-range_with_len, length-map-range_with_len}
use Rattle.h41_ram.specs.RegisterMap.{RegisterMap, curtain_of, main_start, register_at, with_register, zeros}
use Rattle.h41_rows.specs.RowEffects.{cleared_register, with_cleared_data}

-- A register of main memory, by its index there.
at_main : (memory : RegisterMap) (k : ℕ) → register_at memory (main_start + k) ≡ get_or memory.main k zeros
at_main memory k = search (rules, nat_tests)

with_main : (memory : RegisterMap) (k : ℕ) (register : List ℕ)
    → with_register memory (main_start + k) register ≡ record memory { main = set memory.main k register }
with_main memory k register = search (rules, nat_tests)

-- Below the curtain a register is unchanged, from there on it is zero.
kept : (memory : RegisterMap) (k : ℕ) → 192 + k < curtain_of memory → cleared_register memory (main_start + k) ≡ get_or memory.main k zeros
kept memory k below = search (rules, nat_tests, at_main)

gone : (memory : RegisterMap) (k : ℕ) → curtain_of memory ≤ 192 + k → cleared_register memory (main_start + k) ≡ zeros
gone memory k above = search (rules, nat_tests)

-- Registers with zeros from one index to another.
pub zeros_from : List (List ℕ) → ℕ → ℕ → List (List ℕ)
zeros_from main first place = (take first main ++ replicate (place - first) zeros) ++ drop place main

pub zeros_none : (main : List (List ℕ)) (first : ℕ) → zeros_from main first first ≡ main
unfolding zeros_from
zeros_none main first = search (rules, append-nil, take-append-drop)

one_more : (n : ℕ) (rest : List (List ℕ)) → replicate n zeros ++ zeros ∷ rest ≡ replicate (suc n) zeros ++ rest
one_more zero rest = refl
one_more (suc n) rest = ap (λ (l : List (List ℕ)). zeros ∷ l) (one_more n rest)

zeros_more : (main : List (List ℕ)) (first place : ℕ) → first ≤ place → place < length main
    → set (zeros_from main first place) place zeros ≡ zeros_from main first (place + 1)
unfolding zeros_from
zeros_more main first place from inside =
    let front = take first main ++ replicate (place - first) zeros in
    let size : length front ≡ place =
    omega (
      arith,
      length-append (take first main) (replicate (place - first) zeros),
      length-take-le first main (omega arith),
      length-replicate (place - first) zeros,
    ) in
    let next : suc (place - first) ≡ place + 1 - first = omega arith in
    ap (λ (rest : List (List ℕ)). set (front ++ rest) place zeros) (drop-cons main place zeros inside)
    ∙ ap (λ i. set (front ++ get_or main place zeros ∷ drop (suc place) main) i zeros) (sym size)
    ∙ set-append_seam front (get_or main place zeros) (drop (suc place) main) zeros
    ∙ append_assoc (take first main) (replicate (place - first) zeros) (zeros ∷ drop (suc place) main)
    ∙ ap (λ (l : List (List ℕ)). take first main ++ l) (one_more (place - first) (drop (suc place) main))
    ∙ ap (λ n. take first main ++ (replicate n zeros ++ drop (suc place) main)) next
    ∙ sym (append_assoc (take first main) (replicate (place + 1 - first) zeros) (drop (suc place) main))
    ∙ ap (λ i. (take first main ++ replicate (place + 1 - first) zeros) ++ drop i main) (sym (add-one place))

-- Memory with these registers, and one more register written.
pub partly_cleared : RegisterMap → ℕ → ℕ → RegisterMap
partly_cleared memory first place = record memory { main = zeros_from memory.main first place }

pub cleared_none : (memory : RegisterMap) (first : ℕ) → memory ≡ partly_cleared memory first first
unfolding partly_cleared
cleared_none memory first = λ i. record memory { main = sym (zeros_none memory.main first) i }

pub cleared_more : (memory before after : RegisterMap) (first place : ℕ) (register : List ℕ) → first ≤ place → place < length memory.main
    → before ≡ partly_cleared memory first place → register ≡ zeros → after ≡ with_register before (main_start + place) register
    → after ≡ partly_cleared memory first (place + 1)
unfolding partly_cleared
cleared_more memory before after first place register from inside same cleared written =
    search (rules, partly_cleared, with_main, zeros_more)

-- The registers before an index, and zeros.
module _ (memory : RegisterMap) (first : ℕ) (is_first : first ≡ min (curtain_of memory - 192) (length memory.main)) where
  abbrev front : List (List ℕ)
  front = take first memory.main

  abbrev rest : List (List ℕ)
  rest = replicate (length memory.main - first) zeros

  front_size : length front ≡ first
  front_size = length-take-le first memory.main (omega arith)

  size : length (front ++ rest) ≡ length memory.main
  size = omega (arith, length-append front rest, front_size, length-replicate (length memory.main - first) zeros)

  each : (k : ℕ) → k < length memory.main → get_or (front ++ rest) k zeros ≡ cleared_register memory (main_start + k)
  each k inside = search (rules, get_or_append_left, front_size, get_or-take, kept, get_or-append_right, get_or-replicate, gone)

  listed : front ++ rest ≡ map (cleared_register memory) (range_with_len main_start (length memory.main))
  listed =
      let all = length-map-range_with_len (cleared_register memory) main_start (length memory.main) in
      ext_get_or zeros (front ++ rest) (map (cleared_register memory) (range_with_len main_start (length memory.main))) (size ∙ sym all)
      (λ k inside. each k (omega (arith, size, inside))
      ∙ sym (get_or-map-range_with_len (cleared_register memory) main_start
      (length memory.main) k (main_start + k) zeros (omega (arith, size, inside)) refl))

  pub cleared_all : partly_cleared memory first (length memory.main) ≡ with_cleared_data memory
  unfolding partly_cleared zeros_from
  cleared_all = search (rules, drop_all, append-nil, listed)
