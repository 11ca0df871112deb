-- The first byte of a line that was found, and what it says about labels.
use Rattle.std.proofs.Common.{◌≡◌, ℕ, ◌<◌, ◌≤◌, false, length, get_or, arith, rules}
use Rattle.std.proofs.lemmas.List.{get_or-take}
use Rattle.h41_codes.proofs.LineLengths.{spelling_least}
use Rattle.h41_codes.specs.ByteGrammar.{IsLine, spelling}
use Rattle.h41_codes.specs.declared.line.Line.{Line}
use Rattle.h41_program.proofs.FirstLines.{first_byte, first_inside}
use Rattle.h41_program.specs.Lines.{is_label}
use Rattle.h41_program.specs.declared.reading.Found.{Found}
use Rattle.h41_program.specs.Sources.{HasFirst, Source}

-- A local label begins with 01 to 0F or CF.
pub no_label : (n : ℕ) (line : Line) → IsLine line → 0x10 ≤ get_or (spelling line) 0 0 → (get_or (spelling line) 0 0 ≡ 0xCF → ⊥)
    → is_label n line ≡ false
no_label n line valid from other = grind arith

module _ (source : Source) (at : ℕ) (found : Found) (has : HasFirst source at found) where
  -- It is one of the bytes.
  pub byte_inside : found.listed.position < length source.bytes
  byte_inside = search (rules, spelling_least)

  -- It is the first byte of the line.
  pub byte_first : get_or (spelling found.listed.line) 0 0 ≡ get_or source.bytes found.listed.position 0
  byte_first = search (rules, spelling_least, get_or-take, first_byte, first_inside)
