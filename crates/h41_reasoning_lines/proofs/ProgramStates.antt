-- Memory as theorems about programs describe it, after the stack or a data register was written.
use Rattle.std.proofs.Common.{◌≡◌, ◌≢◌, ℕ, ◌+◌, ◌-◌, ◌<◌, ◌≤◌, Bool, true, false, List, ◌∷◌, length, drop, if◌then◌else◌}
use Rattle.std.proofs.Common.{get_or, set, get_or-set_same, get_or-set_other, length-set, refl, sym, ap, ◌∙◌, subst, arith}
use Rattle.std.specs.Prelude.{nat_lt, ◌==◌, slice_index_or}
use Rattle.std.proofs.lemmas.Bool.{eqb-true, eqb-false}
use Rattle.std.proofs.lemmas.Bool.Decides.{nat_tests}
use Rattle.h41_program.proofs.Sound.{bounds}
use Rattle.h41_ram.specs.NamedRegisters.{data_address, size_of}
use Rattle.h41_ram.specs.RamState.{SameProgram}
use Rattle.h41_ram.specs.RegisterMap.{RegisterMap, bit_of, c_of, curtain_of, flag_of, is_sound, main_start, register_at}
use Rattle.h41_ram.specs.RegisterMap.{status_end, three_digits, with_register, zeros}
use Rattle.h41_reasoning_lines.specs.ProgramStates.{HasBecome, data_in, with_content}
use Rattle.h41_reasoning_lines.specs.Stacks.{Stack, stack_of, with_stack}
use Rattle.h41_reasoning_lines.proofs.Stacks.{main_register}
use Rattle.h41_reasoning_lines.proofs.Stepping.{own_stack, whole_list}

-- The status registers after the stack do not depend on it.
c_behind : (status : List (List ℕ)) → 5 ≤ length status → slice_index_or status 13 zeros ≡ slice_index_or (drop 5 status) 8 zeros
c_behind status enough = ap (λ (own : List (List ℕ)). slice_index_or own 13 zeros) (sym (whole_list status enough))

d_behind : (status : List (List ℕ)) → 5 ≤ length status → slice_index_or status 14 zeros ≡ slice_index_or (drop 5 status) 9 zeros
d_behind status enough = ap (λ (own : List (List ℕ)). slice_index_or own 14 zeros) (sym (whole_list status enough))

-- With another stack there are as many status registers.
as_many : (status : List (List ℕ)) (t z y x last : List ℕ) → length status ≡ 16 → length (t ∷ z ∷ y ∷ x ∷ last ∷ drop 5 status) ≡ 16
as_many status t z y x last size = ap length (whole_list status (omega (arith, size))) ∙ size

-- Main memory does not depend on the stack.
main_stays : (stack : Stack) (memory : RegisterMap) (address : ℕ) → length memory.status ≡ 16 → main_start ≤ address
    → register_at (with_stack stack memory) address ≡ register_at memory address
main_stays stack memory address size from =
    main_register stack memory address from ∙ sym (main_register (stack_of memory) memory address from)
    ∙ ap (λ (m : RegisterMap). register_at m address) (own_stack memory size)

-- Main memory with another register.
abbrev changed : RegisterMap → ℕ → List ℕ → RegisterMap
changed memory address register = record memory { main = set memory.main (address - main_start) register }

written_above : (memory : RegisterMap) (address : ℕ) (register : List ℕ) → main_start ≤ address
    → with_register memory address register ≡ changed memory address register
written_above memory address register from =
    let low : nat_lt address status_end ≡ false = grind (arith, nat_tests) in
    let gap : nat_lt address main_start ≡ false = grind (arith, nat_tests) in
    ap (λ (below : Bool). if below then record memory { status = set memory.status address register }
    else (if nat_lt address main_start then memory else changed memory address register)) low
    ∙ ap (λ (below : Bool). if below then memory else changed memory address register) gap

read_above : (memory : RegisterMap) (address : ℕ) → main_start ≤ address
    → register_at memory address ≡ get_or memory.main (address - main_start) zeros
read_above memory address from =
    let low : nat_lt address status_end ≡ false = grind (arith, nat_tests) in
    let gap : nat_lt address main_start ≡ false = grind (arith, nat_tests) in
    ap (λ (below : Bool). if below then get_or memory.status address zeros
    else (if nat_lt address main_start then zeros else get_or memory.main (address - main_start) zeros)) low
    ∙ ap (λ (below : Bool). if below then zeros else get_or memory.main (address - main_start) zeros) gap

other_stays : (memory : RegisterMap) (address other : ℕ) (register : List ℕ) → main_start ≤ address → main_start ≤ other
    → other ≢ address
    → register_at (changed memory address register) other ≡ register_at memory other
other_stays memory address other register from from_other different =
    let places : other - main_start ≢ address - main_start = λ same. different (omega (arith, same, from, from_other)) in
    read_above (changed memory address register) other from_other
    ∙ get_or-set_other memory.main (address - main_start) (other - main_start) register zeros places
    ∙ sym (read_above memory other from_other)

-- What is known of a memory that has become another one.
module _ (old : RegisterMap) (sixteen : length old.status ≡ 16) (sound : is_sound old ≡ true) where
  pub begins : HasBecome old (stack_of old) (data_in old) old
  begins = record {
    stack_is = refl;
    data_are = λ n below. refl;
    status_is = refl;
    sixteen = sixteen;
    size_is = refl;
    rest_is = λ address from below. refl;
  }

  module _ (stack : Stack) (contents : ℕ → List ℕ) (memory : RegisterMap) (is : HasBecome old stack contents memory) where
    same_c : c_of old ≡ c_of memory
    same_c =
        c_behind old.status (omega (arith, sixteen))
        ∙ sym (ap (λ (rest : List (List ℕ)). slice_index_or rest 8 zeros) is.status_is)
        ∙ sym (c_behind memory.status (omega (arith, is.sixteen)))

    pub flag_stays : (flag : ℕ) → flag_of memory flag ≡ flag_of old flag
    flag_stays flag =
        ap (λ (d : List ℕ). bit_of d (55 - flag))
        (d_behind memory.status (omega (arith, is.sixteen))
        ∙ ap (λ (rest : List (List ℕ)). slice_index_or rest 9 zeros) is.status_is
        ∙ sym (d_behind old.status (omega (arith, sixteen))))

    pub program_stays : SameProgram old memory
    program_stays = record {
      size = sym is.size_is;
      c = same_c;
      program = λ address from below.
          sym (is.rest_is address (omega (arith, from, (bounds old sound).low)) below);
    }

    pub curtain_stays : curtain_of memory ≡ curtain_of old
    curtain_stays = ap (λ (c : List ℕ). three_digits c 3) (sym same_c)

    pub address_stays : (n : ℕ) → data_address memory n ≡ data_address old n
    address_stays n = ap (λ (curtain : ℕ). curtain + n) curtain_stays

    pub size_stays : size_of memory ≡ size_of old
    size_stays =
        ap (λ (count : ℕ). main_start + count - curtain_of memory) is.size_is
        ∙ ap (λ (curtain : ℕ). main_start + length old.main - curtain) curtain_stays

    -- Memory is the same with its own stack.
    pub own : with_stack stack memory ≡ memory
    own = ap (λ (st : Stack). with_stack st memory) (sym is.stack_is) ∙ own_stack memory is.sixteen

    -- Data registers are above the rest of main memory.
    above : (n : ℕ) → main_start ≤ data_address old n
    above n = let known = bounds old sound in omega (arith, known.low, known.order)

    -- After the stack was written.
    pub restacked : (new : Stack) → HasBecome old new contents (with_stack new memory)
    restacked new = record {
      stack_is = refl;
      data_are = λ n below. main_stays new memory (data_address old n) is.sixteen (above n) ∙ is.data_are n below;
      status_is = is.status_is;
      sixteen = as_many memory.status new.t new.z new.y new.x new.last is.sixteen;
      size_is = is.size_is;
      rest_is = λ address from below. main_stays new memory address is.sixteen from ∙ is.rest_is address from below;
    }

    -- After a data register was written.
    module _ (n : ℕ) (register : List ℕ) (inside : n < size_of old) where
      abbrev place : ℕ
      place = data_address old n

      content_is : (k : ℕ) → k < size_of old → (same : Bool) → (k == n) ≡ same
          → register_at (changed memory place register) (data_address old k) ≡ (if same then register else contents k)
      content_is k small true is_same =
          let known = bounds old sound in
          let equal : k ≡ n = eqb-true k n is_same in
          let there : place - main_start < length memory.main = omega (arith, inside, known.low, known.order, is.size_is) in
          ap (λ (i : ℕ). register_at (changed memory place register) (data_address old i)) equal
          ∙ read_above (changed memory place register) place (above n)
          ∙ get_or-set_same memory.main (place - main_start) register zeros there
      content_is k small false is_other =
          let different : k ≢ n = eqb-false k n is_other in
          other_stays memory place (data_address old k) register (above n) (above k) (λ equal. different (omega (arith, equal)))
          ∙ is.data_are k small

      rewritten_there : HasBecome old stack (with_content contents n register) (changed memory place register)
      rewritten_there = record {
        stack_is = is.stack_is;
        data_are = λ k small. content_is k small (k == n) refl;
        status_is = is.status_is;
        sixteen = is.sixteen;
        size_is = length-set memory.main (place - main_start) register ∙ is.size_is;
        rest_is = λ address from below.
            other_stays memory place address register (above n) from (λ equal. absurd (omega (arith, equal, below)))
            ∙ is.rest_is address from below;
      }

      pub rewritten : HasBecome old stack (with_content contents n register) (with_register memory place register)
      rewritten =
          subst (λ (m : RegisterMap). HasBecome old stack (with_content contents n register) m)
          (sym (written_above memory place register (above n))) rewritten_there

-- The other data registers are as before.
pub other_content : (contents : ℕ → List ℕ) (n : ℕ) (register : List ℕ) (k : ℕ) → k ≢ n → with_content contents n register k ≡ contents k
other_content contents n register k different = by (k == n) refl
  where
    by : (same : Bool) → (k == n) ≡ same → (if same then register else contents k) ≡ contents k
    by true is = absurd (different (eqb-true k n is))
    by false is = refl
