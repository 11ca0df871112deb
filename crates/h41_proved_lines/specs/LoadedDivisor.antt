-- The program GCD in memory, after the bench has loaded its bytes.
use Rattle.std.specs.Prelude.{◌≡◌, ℕ, List, [], ◌∷◌, Ok}
use Rattle.h41_codes.specs.declared.line.Line.TheVariants.{FinalEnd}
use Rattle.h41_program.specs.Edits.{Loads}
use Rattle.h41_ram.specs.RegisterMap.{RegisterMap}
use Rattle.h41_reasoning_lines.specs.Loads.{HasNoProgram}
use Rattle.h41_reasoning_lines.specs.ProgramLines.{IsProgram}
use Rattle.h41_proved_lines.specs.GreatestCommonDivisor.{gcd_lines}

-- The bytes of the program, with its END, as a file of program bytes contains them.
abbrev pub gcd_bytes : List ℕ
gcd_bytes =
    -- LBL "GCD"
    0xC0 ∷ 0x00 ∷ 0xF4 ∷ 0x00 ∷ 0x47 ∷ 0x43 ∷ 0x44
    -- LBL 01, MOD, LASTX, X<>Y, X#0?
    ∷ 0x02 ∷ 0x4B ∷ 0x76 ∷ 0x71 ∷ 0x63
    -- GTO 01, X<>Y
    ∷ 0xB2 ∷ 0x00 ∷ 0x71
    -- END
    ∷ 0xC0 ∷ 0x00 ∷ 0x0D ∷ []

-- After these bytes were loaded, memory has the program, as the theorem about it requires. The
-- .END. of memory is its last line.
abbrev pub GcdIsLoaded : Type 0
GcdIsLoaded =
    (memory new : RegisterMap) (start : ℕ) → Loads memory new gcd_bytes (Ok start)
    → (at : ℕ) × IsProgram new at (gcd_lines 0 0 0 (FinalEnd 0 0))

-- If memory had no program lines, the program begins at the position that the load returns, 0.
abbrev pub GcdIsFirst : Type 0
GcdIsFirst =
    (memory new : RegisterMap) (start : ℕ) → HasNoProgram memory
    → Loads memory new gcd_bytes (Ok start)
    → (start ≡ 0) × IsProgram new start (gcd_lines 0 0 0 (FinalEnd 0 0))
