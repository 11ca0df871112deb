-- Registers by their names and numbers: what was written is read, and the others do not change.
use Rattle.std.proofs.Common.{◌≡◌, ◌≢◌, ℕ, ◌+◌, ◌-◌, ◌<◌, ◌≤◌, true, false, List, length, Some, if◌then◌else◌, get_or, set, get_or-set_same}
use Rattle.std.proofs.Common.{get_or-set_other, length-set, refl, sym, ap, arith, ◌∙◌}
use Rattle.std.specs.Prelude.{nat_lt, nat_le, ◌&&◌, ◌==◌}
use Rattle.std.specs.Bool.{then_some}
use Rattle.std.proofs.lemmas.Bool.{and_parts, ltb-true, leb-true}
use Rattle.std.proofs.lemmas.Bool.Decides.{nat_tests}
use Rattle.h41_ram.specs.RegisterMap.{RegisterMap, address_of, zeros, register_at, with_register, constant_of, end_of, curtain_of, top_of}
use Rattle.h41_ram.specs.RegisterMap.{is_final_end, is_sound}
use Rattle.h41_ram.specs.RegisterMapLaws.{StatusIsRead, OtherStatusStays, DataIsRead, OtherDataStay, DataKeepSound}
use Rattle.h41_ram.specs.NamedRegisters.{size_of, data_address, data_of}
use Rattle.h41_ram.specs.declared.status.StatusRegister.{StatusRegister}
use Rattle.h41_ram.specs.declared.status.StatusRegister.TheVariants as names

-- The register at an address below 16.
name_at : ℕ → StatusRegister
name_at address =
    if address == 0 then names.T else if address == 1 then names.Z else if address == 2 then names.Y else if address == 3 then names.X
    else if address == 4 then names.L else if address == 5 then names.M else if address == 6 then names.N else if address == 7 then names.O
    else if address == 8 then names.P
    else if address == 9 then names.Q else if address == 10 then names.Append else if address == 11 then names.A
    else if address == 12 then names.B else if address == 13 then names.C else if address == 14 then names.D else names.E

named : (name : StatusRegister) → name_at (address_of name) ≡ name
unfolding name_at
named names.T = refl
named names.Z = refl
named names.Y = refl
named names.X = refl
named names.L = refl
named names.M = refl
named names.N = refl
named names.O = refl
named names.P = refl
named names.Q = refl
named names.Append = refl
named names.A = refl
named names.B = refl
named names.C = refl
named names.D = refl
named names.E = refl

apart : (name other : StatusRegister) → other ≢ name → address_of other ≢ address_of name
apart name other different same = different (sym (named other) ∙ ap name_at same ∙ named name)

inside : (name : StatusRegister) → address_of name < 16
inside names.T = omega arith
inside names.Z = omega arith
inside names.Y = omega arith
inside names.X = omega arith
inside names.L = omega arith
inside names.M = omega arith
inside names.N = omega arith
inside names.O = omega arith
inside names.P = omega arith
inside names.Q = omega arith
inside names.Append = omega arith
inside names.A = omega arith
inside names.B = omega arith
inside names.C = omega arith
inside names.D = omega arith
inside names.E = omega arith

-- A write and a read at addresses of status registers.
pub written_below : (memory : RegisterMap) (address : ℕ) (register : List ℕ) → address < 16
    → with_register memory address register ≡ record memory { status = set memory.status address register }
written_below memory address register below =
    let test : nat_lt address 16 ≡ true = grind (arith, nat_tests) in
    ap (λ low. if low then record memory { status = set memory.status address register }
    else (if nat_lt address 192 then memory else record memory { main = set memory.main (address - 192) register }))
    test

read_below : (memory : RegisterMap) (address : ℕ) → address < 16 → register_at memory address ≡ get_or memory.status address zeros
read_below memory address below =
    let test : nat_lt address 16 ≡ true = grind (arith, nat_tests) in
    ap (λ low.
    if low then get_or memory.status address zeros else (if nat_lt address 192 then zeros else get_or memory.main (address - 192) zeros))
    test

pub status_read : StatusIsRead
status_read memory name register size =
    let at = address_of name in
    ap (λ m. register_at m at) (written_below memory at register (inside name))
    ∙ read_below (record memory { status = set memory.status at register }) at (inside name)
    ∙ get_or-set_same memory.status at register zeros (omega (arith, size, inside name))

pub others_stay : OtherStatusStays
others_stay memory name other register different =
    ap (λ m. register_at m (address_of other)) (written_below memory (address_of name) register (inside name))
    ∙ read_below (record memory { status = set memory.status (address_of name) register }) (address_of other) (inside other)
    ∙ get_or-set_other memory.status (address_of name) (address_of other) register zeros (apart name other different)
    ∙ sym (read_below memory (address_of other) (inside other))

-- The facts about sound memory.
pub record Sound (memory : RegisterMap) : Type 0 where
  pub end : 192 ≤ end_of memory
  pub below : end_of memory < curtain_of memory
  pub top : curtain_of memory ≤ top_of memory

sound_parts : (memory : RegisterMap) → is_sound memory ≡ true → Sound memory
sound_parts memory sound =
    let first =
    and_parts (constant_of memory == 0x169
    && (nat_le 192 (end_of memory) && nat_lt (end_of memory) (curtain_of memory) && nat_le (curtain_of memory) (top_of memory)))
    (is_final_end (register_at memory (end_of memory))) sound in
    let second =
    and_parts (constant_of memory == 0x169)
    (nat_le 192 (end_of memory) && nat_lt (end_of memory) (curtain_of memory) && nat_le (curtain_of memory) (top_of memory)) first.0 in
    let third =
    and_parts (nat_le 192 (end_of memory) && nat_lt (end_of memory) (curtain_of memory))
    (nat_le (curtain_of memory) (top_of memory)) second.1 in
    let fourth = and_parts (nat_le 192 (end_of memory)) (nat_lt (end_of memory) (curtain_of memory)) third.0 in
    record {
      end = leb-true 192 (end_of memory) fourth.0;
      below = ltb-true (end_of memory) (curtain_of memory) fourth.1;
      top = leb-true (curtain_of memory) (top_of memory) third.1;
    }

-- A write and a read at addresses of main memory.
written_above : (memory : RegisterMap) (address : ℕ) (register : List ℕ) → 192 ≤ address
    → with_register memory address register ≡ record memory { main = set memory.main (address - 192) register }
written_above memory address register above =
    let low : nat_lt address 16 ≡ false = grind (arith, nat_tests) in
    let gap : nat_lt address 192 ≡ false = grind (arith, nat_tests) in
    ap (λ test. if test then record memory { status = set memory.status address register }
    else (if nat_lt address 192 then memory else record memory { main = set memory.main (address - 192) register }))
    low
    ∙ ap (λ test. if test then memory else record memory { main = set memory.main (address - 192) register }) gap

read_above : (memory : RegisterMap) (address : ℕ) → 192 ≤ address → register_at memory address ≡ get_or memory.main (address - 192) zeros
read_above memory address above =
    let low : nat_lt address 16 ≡ false = grind (arith, nat_tests) in
    let gap : nat_lt address 192 ≡ false = grind (arith, nat_tests) in
    ap (λ test.
    if test then get_or memory.status address zeros else (if nat_lt address 192 then zeros else get_or memory.main (address - 192) zeros))
    low
    ∙ ap (λ test. if test then zeros else get_or memory.main (address - 192) zeros) gap

-- Memory with another register in main memory.
abbrev changed : RegisterMap → ℕ → List ℕ → RegisterMap
changed memory address register = record memory { main = set memory.main (address - 192) register }

same_size : (memory : RegisterMap) (address : ℕ) (register : List ℕ) → size_of (changed memory address register) ≡ size_of memory
same_size memory address register = ap (λ n. 192 + n - curtain_of memory) (length-set memory.main (address - 192) register)

pub data_read : DataIsRead
data_read memory n register sound small =
    let is = sound_parts memory sound in
    let at = data_address memory n in
    let above : 192 ≤ at = omega (arith, is.end, is.below) in
    let test : nat_lt n (size_of memory) ≡ true = grind (arith, nat_tests) in
    let place : at - 192 < length memory.main = omega (arith, small, above, is.end, is.below) in
    ap (λ m. data_of m n) (written_above memory at register above)
    ∙ ap (λ size. then_some (nat_lt n size) (register_at (changed memory at register) at)) (same_size memory at register)
    ∙ ap (λ there. then_some there (register_at (changed memory at register) at)) test
    ∙ ap Some (read_above (changed memory at register) at above ∙ get_or-set_same memory.main (at - 192) register zeros place)

pub others_data : OtherDataStay
others_data memory n other register sound different =
    let is = sound_parts memory sound in
    let at = data_address memory n in
    let there = data_address memory other in
    let above : 192 ≤ at = omega (arith, is.end, is.below) in
    let above_other : 192 ≤ there = omega (arith, is.end, is.below) in
    let places : there - 192 ≢ at - 192 = λ equal. different (omega (arith, equal, above, above_other)) in
    ap (λ m. data_of m other) (written_above memory at register above)
    ∙ ap (λ size. then_some (nat_lt other size) (register_at (changed memory at register) there)) (same_size memory at register)
    ∙ ap (λ r. then_some (nat_lt other (size_of memory)) r)
    (read_above (changed memory at register) there above_other ∙ get_or-set_other memory.main (at - 192) (there - 192) register zeros places
    ∙ sym (read_above memory there above_other))

pub data_keep_sound : DataKeepSound
data_keep_sound memory n register sound =
    let is = sound_parts memory sound in
    let at = data_address memory n in
    let above : 192 ≤ at = omega (arith, is.end, is.below) in
    let places : end_of memory - 192 ≢ at - 192 = λ equal. absurd (omega (arith, equal, is.end, is.below)) in
    let last : register_at (changed memory at register) (end_of memory) ≡ register_at memory (end_of memory) =
    read_above (changed memory at register) (end_of memory) is.end
    ∙ get_or-set_other memory.main (at - 192) (end_of memory - 192) register zeros places
    ∙ sym (read_above memory (end_of memory) is.end) in
    ap is_sound (written_above memory at register above)
    ∙ ap (λ size. constant_of memory == 0x169
    && (nat_le 192 (end_of memory) && nat_lt (end_of memory) (curtain_of memory) && nat_le (curtain_of memory) (192 + size))
    && is_final_end (register_at (changed memory at register) (end_of memory)))
    (length-set memory.main (at - 192) register)
    ∙ ap (λ r. constant_of memory == 0x169
    && (nat_le 192 (end_of memory) && nat_lt (end_of memory) (curtain_of memory) && nat_le (curtain_of memory) (top_of memory))
    && is_final_end r)
    last
    ∙ sound
