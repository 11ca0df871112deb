-- The position of the first line from a position on, as far as it is known without decoding the line.
use Rattle.std.proofs.Common.{◌≡◌, ◌≢◌, ℕ, ◌+◌, ◌<◌, ◌≤◌, refl, sym, ◌∙◌, arith, inl, inr}
use Rattle.std.proofs.lemmas.Bool.{cases_lt}
use Rattle.h41_codes.specs.ByteLaws.{LineOrNone, OneLine}
use Rattle.h41_ram.specs.RegisterMap.{RegisterMap}
use Rattle.h41_program.specs.declared.listed_line.ListedLine.{ListedLine}
use Rattle.h41_program.specs.ProgramBytes.{byte_count, program_byte, program_bytes, final_position}
use Rattle.h41_program.specs.FirstLines.{FirstFrom}
use Rattle.h41_program.specs.ProgramLines.{PositionFrom}
use Rattle.h41_program.proofs.Exists.{first_or_none}
use Rattle.h41_program.proofs.FirstLines.{first_inside}
use Rattle.h41_program.proofs.Memory.{byte_there}

module _ (one : OneLine) (tells : LineOrNone) (memory : RegisterMap) (at : ℕ) where
  -- It is at the position itself, or there is none.
  here_or_none : ((first : ListedLine) → FirstFrom (program_bytes memory) (final_position memory) at first → first.position ≡ at)
      → PositionFrom memory at at
  here_or_none here =
      elim (first_or_none one tells (program_bytes memory) (final_position memory) (final_position memory + 1) at (omega arith)) [
        | inl found ↦ inl (found.0, found.1, sym (here found.0 found.1))
        | inr none ↦ inr (none, refl)
      ]

  -- No line begins after the last three bytes begin.
  pub at_the_end : final_position memory ≤ at → PositionFrom memory at at
  at_the_end end = here_or_none (λ first is.
      let inside = first_inside (program_bytes memory) (final_position memory) at first is in
      let from = is.from in
      omega (arith, end, inside, from))

  -- Only nulls precede a line.
  pub at_no_null : at < byte_count memory → program_byte memory at ≢ 0 → PositionFrom memory at at
  at_no_null inside other = here_or_none (λ first is. elim (cases_lt at first.position) [
    | inl further ↦ absurd (other (sym (byte_there memory at inside) ∙ is.nulls at (omega arith) further))
    | inr here ↦ let from = is.from in omega (arith, here, from)
  ])
