-- Memory with another number of data registers: its programs moved unchanged, and it is sound.
use Rattle.std.proofs.Common.{◌≡◌, ℕ, ◌+◌, ◌-◌, ◌/◌, ◌%◌, ◌<◌, ◌≤◌, true, List, length, get_or-set_same, refl, sym, ◌∙◌, ap, subst}
use Rattle.std.proofs.Common.{arith, Result, Ok, Err, rules}
use Rattle.std.proofs.lemmas.Bool.Decides.{nat_tests}
use Rattle.std.proofs.lemmas.List.{ext_get_or}
use Rattle.std.proofs.lemmas.List.FromFn.{get_or-map-range_with_len, length-map-range_with_len}
use Rattle.h41_digits.specs.Register.{byte_at}
use Rattle.h41_ram.specs.RegisterMap.{RegisterMap, main_start, zeros, register_at, c_of, curtain_of, end_of, constant_of, is_sound}
use Rattle.h41_ram.specs.RegisterMap.{three_digits, with_three_places}
use Rattle.h41_program.specs.declared.refusal.ProgramRefusal.{ProgramRefusal}
use Rattle.h41_program.specs.ProgramBytes.{byte_count, program_byte, program_bytes, final_position}
use Rattle.h41_program.specs.ProgramLaws.{SizeKeepsLines}
use Rattle.h41_program.specs.ProgramLines.{LinesFrom, Reads}
use Rattle.h41_program.specs.Rewriting.{HasOutcome}
use Rattle.h41_program.specs.Size.{moved_curtain, moved_end, moved_statistics, with_size, resized_c, resized_register, size_outcome}
use Rattle.h41_program.proofs.Addresses.{c_long, c_there, length-three_places, sound_by, three_above, three_again, three_below}
use Rattle.h41_program.proofs.Rewritten.{main_at}
use Rattle.h41_program.proofs.Sound.{bounds, constant, ends}
use Rattle.h41_program.proofs.Walks.{from_reads}

module _ (memory : RegisterMap) (sound : is_sound memory ≡ true) (size : ℕ) (small : size < length memory.main)
    (room : main_start + curtain_of memory ≤ moved_curtain memory size + end_of memory) where
  abbrev new : RegisterMap
  new = with_size memory size

  abbrev with_end : List ℕ
  with_end = with_three_places (c_of memory) 0 (moved_end memory size)

  abbrev with_curtain : List ℕ
  with_curtain = with_three_places with_end 3 (moved_curtain memory size)

  c_new : c_of new ≡ with_three_places with_curtain 11 (moved_statistics memory size)
  c_new = get_or-set_same memory.status 13 (resized_c memory size) zeros (c_there memory sound)

  end_new : end_of new ≡ moved_end memory size
  end_new =
      ap (λ (c : List ℕ). three_digits c 0) c_new ∙ three_below with_curtain 11 (moved_statistics memory size) 0 (omega arith)
      ∙ three_below with_end 3 (moved_curtain memory size) 0 (omega arith)
      ∙ three_again (c_of memory) 0 (moved_end memory size) (let long = c_long memory sound in omega (arith, long))

  curtain_new : curtain_of new ≡ moved_curtain memory size
  curtain_new =
      ap (λ (c : List ℕ). three_digits c 3) c_new ∙ three_below with_curtain 11 (moved_statistics memory size) 3 (omega arith)
      ∙ three_again with_end 3 (moved_curtain memory size)
      (let long =
      c_long memory sound in
      let same = length-three_places (c_of memory) 0 (moved_end memory size) in omega (arith, long, same))

  constant_new : constant_of new ≡ 0x169
  constant_new = search (rules, c_new, three_below, three_above, constant)

  top_new : length new.main ≡ length memory.main
  top_new = length-map-range_with_len (resized_register memory size) main_start (length memory.main)

  -- A register of the programs is unchanged.
  own_register : (address : ℕ) → moved_end memory size ≤ address → address < moved_curtain memory size
      → register_at new address ≡ register_at memory (address + end_of memory - moved_end memory size)
  own_register address from below = search (rules, bounds, main_at, get_or-map-range_with_len, nat_tests)

  pub size_sound : is_sound new ≡ true
  size_sound = search (rules, bounds, end_new, own_register, sound_by, constant_new, curtain_new, top_new, ends)

  pub size_count : byte_count new ≡ byte_count memory
  size_count = let order = (bounds memory sound).order in omega (arith, end_new, curtain_new, order, room)

  pub size_final : final_position new ≡ final_position memory
  size_final = ap (λ n. n - 3) size_count

  byte_new : (p : ℕ) → p < byte_count memory → program_byte new p ≡ program_byte memory p
  byte_new p inside =
      let order = (bounds memory sound).order in
      let address = moved_curtain memory size - 1 - p / 7 in
      let back : address + end_of memory - moved_end memory size ≡ curtain_of memory - 1 - p / 7 = omega (arith, inside, order, room) in
      ap (λ (curtain : ℕ). byte_at (register_at new (curtain - 1 - p / 7)) (6 - p % 7)) curtain_new
      ∙ ap (λ (register : List ℕ). byte_at register (6 - p % 7))
      (own_register address (omega (arith, inside, order, room)) (omega (arith, inside, order, room)) ∙ ap (register_at memory) back)

  pub size_bytes : program_bytes new ≡ program_bytes memory
  size_bytes =
      let all = length-map-range_with_len (program_byte new) 0 (byte_count new) in
      let own = length-map-range_with_len (program_byte memory) 0 (byte_count memory) in
      ext_get_or 0 (program_bytes new) (program_bytes memory) (all ∙ size_count ∙ sym own)
      (λ p inside.
      get_or-map-range_with_len (program_byte new) 0 (byte_count new) p p 0 (omega (arith, all, inside)) (omega arith)
      ∙ byte_new p (omega (arith, all, inside, size_count))
      ∙ sym
      (get_or-map-range_with_len (program_byte memory) 0 (byte_count memory) p p 0 (omega (arith, all, inside, size_count)) (omega arith)))

-- The facts about a size that is accepted.
pub record Fits (memory : RegisterMap) (size : ℕ) (after : RegisterMap) : Type 0 where
  pub small : size < length memory.main
  pub room : main_start + curtain_of memory ≤ moved_curtain memory size + end_of memory
  pub same : after ≡ with_size memory size

pub fits_outcome : (memory after : RegisterMap) (size : ℕ) → Fits memory size after
    → HasOutcome {A = Unit {0}} memory after (Ok tt) (size_outcome memory size)
fits_outcome memory after size fits = search (rules, nat_tests)

pub size_fits : (memory after : RegisterMap) (size : ℕ) → size_outcome memory size ≡ Ok (after, tt) → Fits memory size after
size_fits memory after size done = search (rules, nat_tests)

size_sound_by : (old left : RegisterMap) (size : ℕ) (result : Result (Unit {0}) ProgramRefusal)
    (outcome : Result (RegisterMap × Unit {0}) ProgramRefusal)
    → is_sound old ≡ true → size_outcome old size ≡ outcome → HasOutcome old left result outcome → is_sound left ≡ true
size_sound_by old left size result (Ok after) sound is has =
    let fits = size_fits old after.0 size is in
    subst (λ (m : RegisterMap). is_sound m ≡ true) (sym (has.1 ∙ fits.same)) (size_sound old sound size fits.small fits.room)
size_sound_by old left size result (Err refusal) sound is has = subst (λ (m : RegisterMap). is_sound m ≡ true) (sym has.1) sound

pub resize_sound : (old left : RegisterMap) (size : ℕ) (result : Result (Unit {0}) ProgramRefusal) → is_sound old ≡ true
    → HasOutcome old left result (size_outcome old size) → is_sound left ≡ true
resize_sound old left size result sound has = size_sound_by old left size result (size_outcome old size) sound refl has

pub size_lines : SizeKeepsLines
size_lines memory new size at lines sound done from =
    let fits = size_fits memory new size done in
    let after = with_size memory size in
    let reads = subst (λ (n : ℕ). Reads (program_bytes after) n at lines) (sym (size_final memory sound size fits.small fits.room))
    (subst (λ (bytes : List ℕ). Reads bytes (final_position memory) at lines)
    (sym (size_bytes memory sound size fits.small fits.room)) (from.sound sound)) in
    subst (λ (m : RegisterMap). LinesFrom m at lines) (sym fits.same)
    (from_reads after at lines (size_sound memory sound size fits.small fits.room) reads)
