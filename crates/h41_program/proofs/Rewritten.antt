-- Memory whose programs were written again: its addresses, its bytes, and that it is sound.
use Rattle.std.proofs.Common.{◌≡◌, ℕ, zero, suc, ◌+◌, ◌-◌, ◌*◌, ◌/◌, ◌%◌, ◌<◌, ◌≤◌, true, List, length, get_or, get_or-set_same}
use Rattle.std.proofs.Common.{refl, sym, ◌∙◌, ap, arith, rules}
use Rattle.std.proofs.lemmas.List.{ext_get_or}
use Rattle.std.proofs.lemmas.List.FromFn.{get_or-map-range_with_len, length-map-range_with_len}
use Rattle.h41_digits.specs.Register.{byte_at}
use Rattle.h41_ram.specs.RegisterMap.{RegisterMap, main_start, top_of, zeros, register_at, c_of, curtain_of, end_of, constant_of, is_sound}
use Rattle.h41_ram.specs.RegisterMap.{is_final_end, three_digits, with_three_places}
use Rattle.h41_program.specs.ProgramBytes.{byte_count, program_byte, program_bytes, final_position}
use Rattle.h41_program.specs.Rewriting.{end_after, program_register, with_program_bytes, rewritten_register}
use Rattle.h41_program.proofs.Addresses.{c_long, c_there, sound_by, three_above, three_again}
use Rattle.h41_program.proofs.Sound.{bounds, constant}
use Rattle.std.proofs.lemmas.Bool.Decides.{nat_tests}

-- A byte is its two digits.
halves : (byte : ℕ) → byte / 16 * 16 + byte % 16 ≡ byte
halves byte = omega arith

-- A register of seven bytes contains these bytes.
pub byte_again : (bytes : List ℕ) (below k p : ℕ) → k < 7 → p ≡ 7 * below + k
    → byte_at (program_register bytes below) (6 - k) ≡ get_or bytes p 0
byte_again bytes below zero p inside same = halves (get_or bytes (7 * below) 0) ∙ ap (λ i. get_or bytes i 0) (omega arith)
byte_again bytes below (suc zero) p inside same = halves (get_or bytes (7 * below + 1) 0) ∙ ap (λ i. get_or bytes i 0) (sym same)
byte_again bytes below (suc (suc zero)) p inside same = halves (get_or bytes (7 * below + 2) 0) ∙ ap (λ i. get_or bytes i 0) (sym same)
byte_again bytes below (suc (suc (suc zero))) p inside same = search rules
byte_again bytes below (suc (suc (suc (suc zero)))) p inside same = search rules
byte_again bytes below (suc (suc (suc (suc (suc zero))))) p inside same = search rules
byte_again bytes below (suc (suc (suc (suc (suc (suc zero)))))) p inside same = search rules
byte_again bytes below (suc (suc (suc (suc (suc (suc (suc k))))))) p inside same = absurd (omega arith)

-- A register that ends in .END.
end_register : (bytes : List ℕ) (below : ℕ) → get_or bytes (7 * below + 4) 0 ≡ 0xC0 → get_or bytes (7 * below + 6) 0 ≡ 0x20
    → is_final_end (program_register bytes below) ≡ true
end_register bytes below first last = rw (first, last) refl

-- The register at an address of main memory.
pub main_at : (memory : RegisterMap) (address : ℕ) → main_start ≤ address
    → register_at memory address ≡ get_or memory.main (address - main_start) zeros
main_at memory address from = search (rules, nat_tests)

main_register : (memory : RegisterMap) (bytes : List ℕ) (address : ℕ) → main_start ≤ address → address < top_of memory
    → register_at (with_program_bytes memory bytes) address ≡ rewritten_register memory bytes address
main_register memory bytes address from below = search (rules, main_at, get_or-map-range_with_len)

-- Bytes that fill registers, and for which there is room.
module _ (memory : RegisterMap) (sound : is_sound memory ≡ true) (bytes : List ℕ)
    (count : ℕ) (size : length bytes ≡ 7 * count) (some : 1 ≤ count)
    (room : main_start + count ≤ curtain_of memory) where
  abbrev new : RegisterMap
  new = with_program_bytes memory bytes

  end : end_after memory bytes ≡ curtain_of memory - count
  end = let registers : length bytes / 7 ≡ count = omega (arith, size) in ap (λ n. curtain_of memory - n) registers

  c_new : c_of new ≡ with_three_places (c_of memory) 0 (end_after memory bytes)
  c_new = get_or-set_same memory.status 13 (with_three_places (c_of memory) 0 (end_after memory bytes)) zeros (c_there memory sound)

  end_new : end_of new ≡ curtain_of memory - count
  end_new = search (rules, c_new, three_again, c_long, end)

  curtain_new : curtain_of new ≡ curtain_of memory
  curtain_new = ap (λ (c : List ℕ). three_digits c 3) c_new ∙ three_above (c_of memory) 0 (end_after memory bytes) 3 (omega arith)

  constant_new : constant_of new ≡ 0x169
  constant_new = search (rules, c_new, three_above, constant)

  top_new : length new.main ≡ length memory.main
  top_new = length-map-range_with_len (rewritten_register memory bytes) main_start (length memory.main)

  -- A register of the programs.
  own_register : (below : ℕ) → below < count → register_at new (curtain_of memory - 1 - below) ≡ program_register bytes below
  own_register below inside = search (rules, bounds, end, main_register, nat_tests)

  pub count_new : byte_count new ≡ length bytes
  count_new = omega (arith, curtain_new, end_new, size, room)

  byte_new : (p : ℕ) → p < length bytes → program_byte new p ≡ get_or bytes p 0
  byte_new p inside =
      ap (λ (curtain : ℕ). byte_at (register_at new (curtain - 1 - p / 7)) (6 - p % 7)) curtain_new
      ∙ ap (λ (register : List ℕ). byte_at register (6 - p % 7)) (own_register (p / 7) (omega (arith, inside, size)))
      ∙ byte_again bytes (p / 7) (p % 7) p (omega arith) (omega arith)

  pub program_new : program_bytes new ≡ bytes
  program_new =
      let all = length-map-range_with_len (program_byte new) 0 (byte_count new) in
      ext_get_or 0 (program_bytes new) bytes (all ∙ count_new)
      (λ p inside. get_or-map-range_with_len (program_byte new) 0 (byte_count new) p p 0 (omega (arith, all, inside)) (omega arith)
      ∙ byte_new p (omega (arith, all, inside, count_new)))

  pub final_new : final_position new ≡ length bytes - 3
  final_new = ap (λ n. n - 3) count_new

  pub sound_new : get_or bytes (length bytes - 3) 0 ≡ 0xC0 → get_or bytes (length bytes - 1) 0 ≡ 0x20 → is_sound new ≡ true
  sound_new first last =
      let high = (bounds memory sound).high in
      let here : curtain_of memory - 1 - (count - 1) ≡ end_of new = omega (arith, end_new, some, room) in
      let one : length bytes - 3 ≡ 7 * (count - 1) + 4 = omega (arith, size, some) in
      let three : length bytes - 1 ≡ 7 * (count - 1) + 6 = omega (arith, size, some) in
      let register : register_at new (end_of new) ≡ program_register bytes (count - 1) =
      ap (register_at new) (sym here) ∙ own_register (count - 1) (omega (arith, some)) in
      sound_by new constant_new (omega (arith, end_new, room))
      (omega (arith, end_new, curtain_new, some, room)) (omega (arith, curtain_new, top_new, high))
      (ap is_final_end register
      ∙ end_register bytes (count - 1) (ap (λ i. get_or bytes i 0) (sym one) ∙ first) (ap (λ i. get_or bytes i 0) (sym three) ∙ last))
