-- What the code that reads a program's text contains, in the terms of a deck. This file only
-- connects the code with the other definitions.
use Rattle.std.specs.Prelude.{◌≡◌, ℕ, Bool, false, ◌&&◌, if◌then◌else◌, List, [], ◌∷◌, ◌++◌}
use Rattle.std.specs.Option.{option_map_or}
use Rattle.h41_codes.specs.declared.line.Line.{Line}
use Rattle.h41_program.specs.Lines.{is_number}
use Rattle.h41_program.specs.Packing.{last_line, packed_lines}
use Rattle.h41_commands.specs.declared.blocks.program_text.Packed.{Packed}
use Rattle.h41_commands.specs.declared.blocks.program_text.Texts.{Texts}
use Rattle.h41_commands.specs.ProgramBlocks.{texts_of}

-- The texts that remain.
abbrev pub texts_left : Texts → List (List ℕ)
texts_left left = if left.is_finished then [] else texts_of left.rest.now

-- The bytes between a line and the line before it: a null byte between two numbers, because their
-- digits would run together.
abbrev pub null_between : Bool → Bool → List ℕ
null_between ends_with_number is_number = if ends_with_number && is_number then 0x00 ∷ [] else []

-- These lines were appended in sequence.
pub record IsPacked (lines : List Line) (held : Packed) : Type 0 where
  pub bytes : held.bytes.items ≡ packed_lines lines
  pub last : held.ends_with_number ≡ option_map_or is_number (last_line lines) false

-- One more line was appended.
abbrev pub PushesLine : Packed → Line → Packed → Type 0
PushesLine old line new =
    (lines : List Line) → IsPacked lines old → IsPacked (lines ++ line ∷ []) new
