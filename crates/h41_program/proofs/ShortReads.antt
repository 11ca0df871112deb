-- A short line that is read from eight bytes is that of memory.
use Rattle.std.proofs.Common.{◌≡◌, ◌≢◌, ℕ, suc, ◌+◌, ◌-◌, ◌<◌, ◌≤◌, List, [], ◌∷◌, ◌++◌, map, min, length, take, drop, Ok, Result}
use Rattle.std.proofs.Common.{true, refl, sym, ap, ◌∙◌, subst, arith, inl, inr}
use Rattle.std.specs.Prelude.{slice_index, slice_range}
use Rattle.std.specs.List.{range_with_len}
use Rattle.std.proofs.lemmas.List.{length-take}
use Rattle.std.proofs.lemmas.List.FromFn.{take-map-range_with_len}
use Rattle.h41_codes.specs.ByteGrammar.{spelling, Begins, GoesOn, IsComplete}
use Rattle.h41_codes.specs.ByteLaws.{IsNumber, NullBegins, NumberBegins, OneLine}
use Rattle.h41_codes.specs.Heads.{IsShort}
use Rattle.h41_codes.specs.ShortLines.{BeginsNoShort, BeginsShorts, line_of}
use Rattle.h41_codes.specs.declared.faults.BrokenProgram.{BrokenProgram}
use Rattle.h41_codes.specs.declared.line.Line.{Line}
use Rattle.h41_codes.specs.declared.line.Line.TheVariants.{Null}
use Rattle.h41_codes.specs.declared.short_lines.ShortLine.{ShortLine}
use Rattle.h41_codes.specs.declared.short_lines.ShortLine.TheVariants as short
use Rattle.h41_digits.specs.Register.{number_byte}
use Rattle.h41_program.specs.ProgramBytes.{byte_count, final_position, program_byte, program_bytes}
use Rattle.h41_program.specs.ProgramLines.{AnswersBoth, HasFirst, PositionFrom, memory_source}
use Rattle.h41_program.specs.ShortLines.{HasNoShort, HasShort}
use Rattle.h41_program.specs.private.Reading.{bytes_seen, FoundBehind, HoldsBytes}
use Rattle.h41_program.proofs.Memory.{Looked, looked_first}
use Rattle.h41_program.proofs.PlacesFound.{begins_own}
use Rattle.h41_program.proofs.PositionsRead.{both_found}
use Rattle.h41_program.proofs.ShortLines.{BeginsNoNumber, seen_narrow}
use Rattle.h41_program.proofs.Windows.{begins_least, drop-map-range}
use Rattle.h41_ram.specs.RegisterMap.{RegisterMap, is_sound}

-- The first of the bytes that were read.
pub first_read : (memory : RegisterMap) (at number byte : ℕ) → at < byte_count memory → HoldsBytes memory at number
    → byte ≡ number_byte number 7 → byte ≡ program_byte memory at
first_read memory at number byte inside holds is =
    is ∙ holds 0 (omega arith) (omega (arith, inside)) ∙ ap (program_byte memory) (omega arith)

-- A short line is no null and no number, is complete before any bytes, and has at most three.
no_null : (line : ShortLine) → line_of line ≡ Null → ⊥
no_null (short.LocalLabel label) same = cc
no_null line same = cc

no_number : (line : ShortLine) → IsNumber (line_of line) → ⊥
no_number (short.LocalLabel label) is = is
no_number line is = is

whole : (line : ShortLine) (rest : List ℕ) → IsComplete (line_of line) rest
whole (short.LocalLabel label) rest = tt
whole line rest = tt

three : (line : ShortLine) → length (spelling (line_of line)) ≤ 3
three (short.LocalLabel label) = omega arith
three line = omega arith

-- A short line does not end memory.
pub goes_on : (memory : RegisterMap) (line : ShortLine) (at behind next : ℕ) → PositionFrom memory behind next
    → FoundBehind (memory_source memory) (record { listed = record { position = at; line = line_of line }; behind = behind }) next
goes_on memory (short.LocalLabel label) at behind next from = from
goes_on memory line at behind next from = from

-- The first byte of a short line begins no null and no number.
module _ (first : ℕ) (more : List ℕ) (line : ShortLine) (size : ℕ) (begins : Begins (first ∷ more) (line_of line) size) where
  spelled : first ∷ take (size - 1) more ≡ spelling (line_of line)
  spelled =
      let some : size ≡ suc (size - 1) = let least = begins_least (first ∷ more) (line_of line) size begins in omega (arith, least) in
      subst (λ (n : ℕ). take n (first ∷ more) ≡ spelling (line_of line)) some begins.spells.same

  pub begins_no_null : NullBegins → first ≢ 0
  begins_no_null nulls null =
      no_null line ((nulls (line_of line) [] begins.spells.valid).0
      (subst (λ (bytes : List ℕ). slice_index (bytes ++ []) 0 ≡ 0) spelled null))

  pub begins_no_number : NumberBegins → BeginsNoNumber first
  begins_no_number numbers from to =
      no_number line ((numbers (line_of line) [] begins.spells.valid).0
      (subst (λ (bytes : List ℕ). GoesOn (bytes ++ [])) spelled (from, to)))

-- A short line has one to three bytes.
pub size_of : (first size : ℕ) → IsShort first size → (1 ≤ size) × (size ≤ 3)
size_of first size (inl one) = (omega (arith, one.0), omega (arith, one.0))
size_of first size (inr (inl two)) = (omega (arith, two.0), omega (arith, two.0))
size_of first size (inr (inr three)) = (omega (arith, three.0), omega (arith, three.0))

-- A short line that was found, and the next position.
pub short_found :
    (memory : RegisterMap) (at : ℕ) (line : ShortLine) (next : ℕ)
    → HasShort memory at line next → AnswersBoth memory at (Ok (line_of line, next))
short_found memory at line next has =
    both_found (memory_source memory) at (record { listed = record { position = at; line = line_of line }; behind = has.0 }) next has.1
    (goes_on memory line at has.0 next has.2)

module _ (one : OneLine) (memory : RegisterMap) (at last first second third : ℕ)
    (last_is : last ≡ final_position memory) (count : last + 3 ≡ byte_count memory) (before : at < last)
    (is : first ≡ program_byte memory at) (next : second ≡ program_byte memory (at + 1))
    (behind : third ≡ program_byte memory (at + 2)) where
  abbrev bytes : List ℕ
  bytes = first ∷ second ∷ third ∷ []

  seen : bytes ≡ map (program_byte memory) (range_with_len at 3)
  seen =
      ap (λ byte. byte ∷ second ∷ third ∷ []) is ∙ ap (λ byte. program_byte memory at ∷ byte ∷ third ∷ []) next
      ∙ ap (λ byte. program_byte memory at ∷ program_byte memory (at + 1) ∷ byte ∷ [])
      (behind ∙ ap (program_byte memory) (omega arith))

  taken : (size : ℕ) → size ≤ 3 → take size bytes ≡ map (program_byte memory) (range_with_len at size)
  taken size few = ap (take size) seen ∙ take-map-range_with_len (program_byte memory) at 3 size few

  -- A line that fits before the last three bytes is the first line.
  pub short_first : NumberBegins → NullBegins → is_sound memory ≡ true → (line : ShortLine) (size : ℕ) → Begins bytes (line_of line) size
      → at + size ≤ last
      → HasFirst memory at (record { listed = record { position = at; line = line_of line }; behind = at + size })
  short_first numbers nulls sound line size begins inside =
      let few = begins.inside in
      let looked : Looked memory at at last last (bytes_seen memory at last) = record {
        last_is = last_is;
        count = count;
        from = omega arith;
        to = omega (arith, before);
        nulls = λ k low high. absurd (omega (arith, low, high));
        stop = λ below null. begins_no_null first (second ∷ third ∷ []) line size begins nulls (is ∙ null);
        before = λ below. refl;
        behind = λ here. absurd (omega (arith, here, before));
        bytes = refl;
      } in
      let wide : size ≡ min 18 (at + size - at) = omega (arith, few) in
      let near : take size bytes ≡ bytes_seen memory at (at + size) =
      taken size few ∙ ap (λ n. map (program_byte memory) (range_with_len at n)) wide in
      let own : Begins (bytes_seen memory at (at + size)) (line_of line) size =
      subst (λ (all : List ℕ). Begins all (line_of line) size) near (begins_own bytes (line_of line) size begins) in
      let answer : Result (Line × ℕ) BrokenProgram = Ok (line_of line, size) in
      looked_first one memory sound at at last last (bytes_seen memory at last) looked answer
      (seen_narrow one numbers memory at (at + size) last first (line_of line) size before inside is
      (begins_no_number first (second ∷ third ∷ []) line size begins numbers) own)
      (line_of line) size (at + size) refl refl

module _ (memory : RegisterMap) (at last first : ℕ) (last_is : last ≡ final_position memory) (count : last + 3 ≡ byte_count memory)
    (before : at < last) (is : first ≡ program_byte memory at) where
  abbrev final : ℕ
  final = final_position memory

  abbrev behind_first : List ℕ
  behind_first = map (program_byte memory) (range_with_len (at + 1) (final - at - 1))

  -- The bytes up to the last three, with the first one separated.
  first_in_front : slice_range (program_bytes memory) at final ≡ first ∷ behind_first
  first_in_front =
      let f = program_byte memory in
      let n = byte_count memory in
      let some : final - at ≡ suc (final - at - 1) = omega (arith, before, last_is) in
      ap (take (final - at)) (drop-map-range f n at (omega (arith, before, count)))
      ∙ take-map-range_with_len f at (n - at) (final - at) (omega (arith, last_is, count))
      ∙ ap (λ (k : ℕ). map f (range_with_len at k)) some
      ∙ ap (λ (byte : ℕ). byte ∷ behind_first) (sym is)

  begins_with_first : (line : ShortLine) (size : ℕ) → Begins (slice_range (program_bytes memory) at final) (line_of line) size
      → Begins (first ∷ behind_first) (line_of line) size
  begins_with_first line size begins = subst (λ (bytes : List ℕ). Begins bytes (line_of line) size) first_in_front begins

  pub no_head : ((rest : List ℕ) → BeginsNoShort (first ∷ rest)) → HasNoShort memory at
  no_head none line size begins = none behind_first line size (begins_with_first line size begins)

  pub no_room : (size : ℕ) → BeginsShorts first size → last < at + size → HasNoShort memory at
  no_room size sized over line long begins =
      let inside = begins.inside in
      let most : long ≤ final - at = omega (arith, inside, length-take (final - at) (drop at (program_bytes memory))) in
      let same = sized behind_first line long (begins_with_first line long begins) in
      omega (arith, over, most, same, last_is)
