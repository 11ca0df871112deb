-- A line has 1 to 18 bytes.
use Rattle.std.proofs.Common.{◌≤◌, length, arith}
use Rattle.h41_codes.specs.Codes.{character_code}
use Rattle.h41_codes.specs.ByteGrammar.{spelling, IsLine}
use Rattle.h41_codes.specs.declared.line.Line.{Line}
use Rattle.h41_codes.specs.declared.line.Line.TheVariants.{Number, Named, GlobalLabel, Text}
use Rattle.std.proofs.lemmas.List.{length-map}

pub spelling_least : (line : Line) → IsLine line → 1 ≤ length (spelling line)
spelling_least (Number characters) valid = omega (arith, length-map characters character_code)
spelling_least line valid = omega arith

pub spelling_most : (line : Line) → IsLine line → length (spelling line) ≤ 18
spelling_most (Number characters) valid = omega (arith, length-map characters character_code)
spelling_most (Named function name) valid = omega (arith, valid.fits)
spelling_most (GlobalLabel link key name) valid = omega (arith, valid.2.fits)
spelling_most (Text characters) valid = omega (arith, valid.fits)
spelling_most line valid = omega arith
