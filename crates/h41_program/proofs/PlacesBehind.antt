-- The line after nulls, or in the last three bytes.
use Rattle.std.proofs.Common.{◌≡◌, ◌≢◌, ℕ, zero, suc, ◌+◌, ◌-◌, ◌<◌, ◌≤◌, min, true, false, refl, inl, inr, arith, subst, rules}
use Rattle.std.proofs.lemmas.Bool.{cases_lt}
use Rattle.h41_codes.specs.Heads.{IsIn}
use Rattle.h41_digits.specs.Register.{IsRegister}
use Rattle.h41_ram.specs.RegisterMap.{RegisterMap, end_of, is_sound, register_at}
use Rattle.h41_program.specs.ProgramBytes.{byte_count, final_position, program_byte}
use Rattle.h41_program.specs.ProgramLines.{HasPlace, PositionFrom}
use Rattle.h41_program.specs.declared.reading.LinePlace.{LinePlace}
use Rattle.h41_program.specs.private.Reading.{bytes_seen, BeginsAt, BeginsSized}
use Rattle.h41_program.proofs.Memory.{Looked}
use Rattle.h41_program.proofs.Places.{final_there, number_there}
use Rattle.h41_program.proofs.Sound.{final_bytes}

-- .END. is in the last three bytes.
pub final_begins : (memory : RegisterMap) (last : ℕ) → is_sound memory ≡ true → IsRegister 14 (register_at memory (end_of memory))
    → last ≡ final_position memory
    → BeginsAt memory last (last + 3) (record { position = last; behind = last + 3; ends_program = false; ends_memory = true })
final_begins memory last sound register is =
    let bytes = final_bytes memory last sound register is in
    let first = bytes.first in
    let third = bytes.third in
    final_there memory last (last + 3) (omega arith) first (program_byte memory (last + 2)) refl (omega arith)
    (omega (arith, first.1)) bytes.second (omega (arith, third)) third bytes.marked

-- The bytes that are examined after nulls.
module _ (memory : RegisterMap) (at p last : ℕ) (last_is : last ≡ final_position memory) (count : last + 3 ≡ byte_count memory)
    (from : at ≤ p) (to : p ≤ last) (nulls : (k : ℕ) → at ≤ k → k < p → program_byte memory k ≡ 0) where
  pub looked_before : p < last → program_byte memory p ≢ 0 → Looked memory at p last last (bytes_seen memory p last)
  looked_before below stop = search rules

  pub looked_last : p ≡ last → Looked memory at last last (last + 3) (bytes_seen memory last (last + 3))
  looked_last here = search rules

-- The position of a place.
pub position_of : (memory : RegisterMap) (at : ℕ) (place : LinePlace) → HasPlace memory at place → PositionFrom memory at place.position
position_of memory at place has = inl (record { position = place.position; line = has.0 }, has.1.first, refl)

-- The number of bytes that belong to a number.
record Run (memory : RegisterMap) (at limit size : ℕ) : Type 0 where
  pub some : 1 ≤ size
  pub most : size ≤ 16
  pub inside : at + size ≤ limit
  pub each : (k : ℕ) → at ≤ k → k < at + size → IsIn 0x10 0x1D (program_byte memory k)
  pub whole : at + size < limit → IsIn 0x10 0x1D (program_byte memory (at + size)) → size ≡ 16

-- At least this many bytes belong to a number: there are no more, or there is one more.
run_from : (memory : RegisterMap) (at limit left size : ℕ) → 1 ≤ size → size + left ≡ min 16 (limit - at) → at < limit
    → ((k : ℕ) → at ≤ k → k < at + size → IsIn 0x10 0x1D (program_byte memory k)) → (all : ℕ) × Run memory at limit all
run_from memory at limit zero size some most before each = (
  size,
  record {
    some = some;
    most = omega (arith, most);
    inside = omega (arith, most, before);
    each = each;
    whole = λ below on. omega (arith, most, below);
  },
)
run_from memory at limit (suc left) size some most before each = elim (cases_lt (program_byte memory (at + size)) 0x10) [
  | inl low ↦ (
    size,
    record {
      some = some;
      most = omega (arith, most);
      inside = omega (arith, most, before);
      each = each;
      whole = λ below on. absurd (omega (arith, low, on.0));
    },
  )
  | inr from ↦ elim (cases_lt (program_byte memory (at + size)) 0x1D) [
    | inl to ↦ run_from memory at limit left (size + 1) (omega arith) (omega (arith, most)) before (λ k low high.
        elim (cases_lt k (at + size)) [
          | inl earlier ↦ each k low earlier
          | inr here ↦
              let same : at + size ≡ k = omega (arith, here, high) in
              subst (λ (n : ℕ). IsIn 0x10 0x1D (program_byte memory n)) same (from, to)
        ])
    | inr high ↦ (
      size,
      record {
        some = some;
        most = omega (arith, most);
        inside = omega (arith, most, before);
        each = each;
        whole = λ below on. absurd (omega (arith, high, on.1));
      },
    )
  ]
]

-- Bytes 10 to 1C begin a number.
pub number_begins : (memory : RegisterMap) (at limit : ℕ) → at < limit → IsIn 0x10 0x1D (program_byte memory at)
    → (size : ℕ) × BeginsSized memory at limit size
number_begins memory at limit before first =
    let run = run_from memory at limit (min 16 (limit - at) - 1) 1 (omega arith) (omega (arith, before)) before (λ k low high.
    let same : at ≡ k = omega (arith, low, high) in subst (λ (n : ℕ). IsIn 0x10 0x1D (program_byte memory n)) same first) in
    (run.0, number_there memory at limit run.0 run.1.some run.1.most run.1.inside run.1.each run.1.whole)
