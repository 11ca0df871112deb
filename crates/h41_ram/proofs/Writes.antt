-- A write of one register keeps the promise about the dirty flag.
use Rattle.std.proofs.Common.{◌≡◌, ◌≢◌, ℕ, ◌+◌, ◌-◌, ◌<◌, ◌≤◌, true, false, Bool, List, length, refl, sym, arith, ap, ◌∙◌, rules, inl, inr}
use Rattle.std.proofs.Common.{get_or, get_or-set_other, get_or-set_same, length-set}
use Rattle.std.specs.Prelude.{IsFalse, IsTrue, slice_set, nat_lt, nat_le, ◌&&◌}
use Rattle.std.proofs.lemmas.List.{get_or_default}
use Rattle.std.proofs.lemmas.Grind.{common_steps}
use Rattle.std.proofs.lemmas.Bool.{cases_Bool, and_parts}
use Rattle.std.proofs.lemmas.Bool.Decides.{nat_tests}
use Rattle.h41_ram.proofs.Named.{written_below}
use Rattle.h41_ram.specs.RegisterMap.{RegisterMap, IsMemory, zeros, top_of, with_bit, is_final_end, register_at}
use Rattle.h41_ram.specs.RegisterMap.{with_register, curtain_of, end_of, c_of, three_digits}
use Rattle.h41_ram.specs.declared.parts.Parts.{Parts}
use Rattle.h41_ram.specs.private.KeptParts.{AreKept, with_touched, is_ordered, main_register}
use Rattle.h41_ram.specs.RamState.{RamState, KeepsMark, exists_at, sets_mark, with_written, with_flag_written}

-- A write that does not set the dirty flag changes no register of the program.
same_length : (memory : RegisterMap) (address : ℕ) (register : List ℕ)
    → length memory.main ≡ length (with_register memory address register).main
same_length memory address register = search rules

same_c : (memory : RegisterMap) (address : ℕ) (register : List ℕ) → sets_mark memory address ≡ false
    → c_of memory ≡ c_of (with_register memory address register)
same_c memory address register unmarked = search rules

other_at : (memory : RegisterMap) (address : ℕ) (register : List ℕ) (at : ℕ) → at ≢ address
    → register_at memory at ≡ register_at (with_register memory address register) at
other_at memory address register at apart = grind (arith, nat_tests, get_or-set_other)

not_there : (memory : RegisterMap) (address : ℕ) (register : List ℕ) → exists_at memory address ≡ false
    → memory ≡ with_register memory address register
not_there memory address register none = grind (arith, nat_tests, common_steps)

apart_from : (memory : RegisterMap) (address at : ℕ) → sets_mark memory address ≡ false → exists_at memory address ≡ true
    → end_of memory ≤ at → at < curtain_of memory → at ≢ address
apart_from memory address at unmarked there from below = grind (arith, nat_tests)

same_program : (memory : RegisterMap) (address : ℕ) (register : List ℕ) (at : ℕ) → sets_mark memory address ≡ false
    → end_of memory ≤ at → at < curtain_of memory → register_at memory at ≡ register_at (with_register memory address register) at
same_program memory address register at unmarked from below = elim (cases_Bool (exists_at memory address)) [
  | inl there ↦ other_at memory address register at (apart_from memory address at unmarked there from below)
  | inr none ↦ ap (λ m. register_at m at) (not_there memory address register none)
]

still_set : (ram : RamState) (address : ℕ) (register : List ℕ) → IsTrue ram.touched
    → IsTrue (with_written ram address register).touched
still_set ram address register was = search rules

unmarked_by : (ram : RamState) (address : ℕ) (register : List ℕ) → IsFalse (with_written ram address register).touched
    → sets_mark ram.registers address ≡ false
unmarked_by ram address register off = search rules

pub written_keeps : (ram : RamState) (address : ℕ) (register : List ℕ) → KeepsMark ram (with_written ram address register)
written_keeps ram address register = record {
  set = λ was. still_set ram address register was;
  clear = λ off.
      let unmarked = unmarked_by ram address register off in
      record {
        size = same_length ram.registers address register;
        c = same_c ram.registers address register unmarked;
        program = λ at from below. same_program ram.registers address register at unmarked from below;
      };
}

-- A write to a status register other than c, as the code performs it.
status_tests : (memory : RegisterMap) (address : ℕ) → address < 16 → address ≢ 13
    → sets_mark memory address ≡ (nat_le (end_of memory) address && nat_lt address (curtain_of memory))
status_tests memory address below other = grind (arith, nat_tests)

pub status_written : (ram : RamState) (memory : RegisterMap) (parts after : Parts) (address index : ℕ) (register : List ℕ)
    → record { registers = memory; touched = parts.touched } ≡ ram → index ≡ address → index < 16 → index ≢ 13
    → parts.curtain ≡ curtain_of memory → parts.end ≡ end_of memory
    → after ≡ with_touched parts (nat_le parts.end address && nat_lt address parts.curtain)
    → record { registers = record memory { status = slice_set memory.status index register }; touched = after.touched }
    ≡ with_written ram address register
status_written ram memory parts after address index register seen same below other curtain end is =
    let at : address < 16 = omega (arith, same, below) in
    let apart : address ≢ 13 = λ equal. other (same ∙ equal) in
    rw (← seen, same, is, curtain, end, status_tests memory address at apart, written_below memory address register at) (search rules)

-- A write at an address between the status registers and main memory changes nothing.
pub nothing_written : (ram : RamState) (address index : ℕ) (register : List ℕ) → index ≡ address → 16 ≤ index → index < 192
    → ram ≡ with_written ram address register
nothing_written ram address index register same above below = grind (arith, nat_tests)

-- A status register does not depend on the value that is read for an address without a register.
pub read_status : (memory : RegisterMap) (address : ℕ) (spare : List ℕ) → length memory.status ≡ 16 → address < 16
    → get_or memory.status address spare ≡ get_or memory.status address zeros
read_status memory address spare size inside = get_or_default memory.status address spare zeros (omega (arith, size, inside))

-- A write of a flag keeps the promise.
pub flag_written : (ram : RamState) (memory : RegisterMap) (parts after : Parts) (flag : ℕ) (on : Bool) (register spare : List ℕ)
    → record { registers = memory; touched = parts.touched } ≡ ram → length memory.status ≡ 16
    → parts.curtain ≡ curtain_of memory → parts.end ≡ end_of memory
    → after ≡ with_touched parts (nat_le parts.end 14 && nat_lt 14 parts.curtain)
    → register ≡ with_bit (get_or memory.status 14 spare) (55 - flag) on
    → record { registers = record memory { status = slice_set memory.status 14 register }; touched = after.touched }
    ≡ with_flag_written ram flag on
flag_written ram memory parts after flag on register spare seen size curtain end is made =
    rw (← seen, made, read_status memory 14 spare size (omega arith))
    (status_written (record { registers = memory; touched = parts.touched }) memory parts after 14 14 _ refl refl (omega arith)
    (λ equal. absurd (omega (arith, equal))) curtain end is)

-- A write in main memory leaves the parts as they are, or determines anew whether memory is sound.
put_memory : (count : ℕ) (memory : RegisterMap) (index : ℕ) (register : List ℕ) → IsMemory count memory
    → IsMemory count (record memory { main = slice_set memory.main index register })
put_memory count memory index register is = record {
  status = is.status;
  main = length-set memory.main index register ∙ is.main;
  least = is.least;
  most = is.most;
}

put_ordered : (memory : RegisterMap) (index : ℕ) (register : List ℕ)
    → is_ordered (c_of memory) (top_of memory) ≡ is_ordered (c_of memory) (192 + length (slice_set memory.main index register))
put_ordered memory index register = ap (λ n. is_ordered (c_of memory) (192 + n)) (sym (length-set memory.main index register))

other_end : (main : List (List ℕ)) (index end : ℕ) (register : List ℕ) → (192 + index) ≢ end
    → main_register main end ≡ main_register (slice_set main index register) end
other_end main index end register apart = grind (arith, nat_tests, get_or-set_other)

this_end : (main : List (List ℕ)) (index end : ℕ) (register : List ℕ) → 192 + index ≡ end → index < length main
    → register ≡ main_register (slice_set main index register) end
this_end main index end register same inside = grind (arith, nat_tests, get_or-set_same)

pub put_beside : (count : ℕ) (memory : RegisterMap) (parts : Parts) (from index : ℕ) (register : List ℕ)
    → IsMemory count memory × AreKept memory parts → from ≡ parts.end → (192 + index) ≢ from
    → IsMemory count (record memory { main = slice_set memory.main index register })
    × AreKept (record memory { main = slice_set memory.main index register }) parts
put_beside count memory parts from index register (is, kept) read apart = (
  put_memory count memory index register is,
  record {
    curtain = kept.curtain;
    end = kept.end;
    ordered = kept.ordered ∙ put_ordered memory index register;
    sound = kept.sound ∙ ap (λ r. parts.ordered && is_final_end r)
        (other_end memory.main index (end_of memory) register (λ same. apart (same ∙ sym kept.end ∙ sym read)));
  },
)

pub put_at_end : (count : ℕ) (memory : RegisterMap) (parts after : Parts) (from index : ℕ) (register : List ℕ)
    → IsMemory count memory × AreKept memory parts → from ≡ parts.end → 192 + index ≡ from → index < count
    → after ≡ record parts { sound = parts.ordered && is_final_end register }
    → IsMemory count (record memory { main = slice_set memory.main index register })
    × AreKept (record memory { main = slice_set memory.main index register }) after
put_at_end count memory parts after from index register (is, kept) read same inside made = rw made (
  put_memory count memory index register is,
  record {
    curtain = kept.curtain;
    end = kept.end;
    ordered = kept.ordered ∙ put_ordered memory index register;
    sound = ap (λ r. parts.ordered && is_final_end r)
        (this_end memory.main index (end_of memory) register (same ∙ read ∙ kept.end) (omega (arith, inside, is.main)));
  },
)

ordered_above : (c : List ℕ) (top end : ℕ) → end ≡ three_digits c 0 → is_ordered c top ≡ true → 16 ≤ end
ordered_above c top end same ordered = grind (arith, nat_tests)

-- In sound memory, the end is above the status registers.
pub end_above : (count : ℕ) (memory : RegisterMap) (parts : Parts) → IsMemory count memory × AreKept memory parts → parts.sound ≡ true
    → 16 ≤ parts.end
end_above count memory parts (is, kept) sound =
    let first = and_parts parts.ordered (is_final_end (main_register memory.main (end_of memory))) (sym kept.sound ∙ sound) in
    ordered_above (c_of memory) (top_of memory) parts.end kept.end (sym kept.ordered ∙ first.0)

-- A write to a status register other than c keeps the parts.
pub status_kept : (count : ℕ) (memory : RegisterMap) (parts after : Parts) (index address : ℕ) (register : List ℕ)
    → IsMemory count memory × AreKept memory parts → index ≢ 13
    → after ≡ with_touched parts (nat_le parts.end address && nat_lt address parts.curtain)
    → IsMemory count (record memory { status = slice_set memory.status index register })
    × AreKept (record memory { status = slice_set memory.status index register }) after
status_kept count memory parts after index address register (is, kept) other made =
    let same : c_of memory ≡ get_or (slice_set memory.status index register) 13 zeros =
    sym (get_or-set_other memory.status index 13 register zeros (λ equal. other (sym equal))) in
    rw made (
      record {
        status = length-set memory.status index register ∙ is.status;
        main = is.main;
        least = is.least;
        most = is.most;
      },
      record {
        curtain = kept.curtain ∙ ap (λ c. three_digits c 3) same;
        end = kept.end ∙ ap (λ c. three_digits c 0) same;
        ordered = kept.ordered ∙ ap (λ c. is_ordered c (top_of memory)) same;
        sound = kept.sound ∙ ap (λ c. parts.ordered && is_final_end (main_register memory.main (three_digits c 0))) same;
      },
    )
