-- What the first byte of a line says about the line. The functions that decode bytes use these
-- definitions; of the public contracts only those for lines of one to three bytes do.
use Rattle.h41_codes.specs.ByteGrammar.{Spells}
use Rattle.h41_codes.specs.declared.line.Line.{Line}
use Rattle.h41_codes.specs.declared.heads.Head.{Head}
use Rattle.h41_codes.specs.declared.heads.Head.TheVariants as heads
use Rattle.std.specs.Prelude.{ℕ, ◌<◌, ◌≤◌, ◌⊎◌, ◌≡◌, ◌≢◌, ◌+◌, List, [], ◌∷◌, length, slice_index}

-- A number is in the range from the first bound to just below the second.
abbrev pub IsIn : ℕ → ℕ → ℕ → Type 0
IsIn low high number = (low ≤ number) × (number < high)

-- The first bytes of lines of one byte: the null, LBL 00 to LBL 14, RCL and STO 00 to 15, and the
-- functions without a parameter.
abbrev pub IsOneByte : ℕ → Type 0
IsOneByte first = (first < 0x10) ⊎ IsIn 0x20 0x90 first

-- A byte is a line on its own.
abbrev pub IsAlone : ℕ → Type 0
IsAlone byte = (line : Line) × Spells (byte ∷ []) line

-- The first bytes of lines of two bytes: functions with an operand, XROM, GTO IND and XEQ IND, GTO
-- 00 to GTO 14.
abbrev pub IsTwoBytes : ℕ → Type 0
IsTwoBytes first = IsIn 0x90 0xAF first ⊎ IsIn 0xB1 0xC0 first ⊎ IsIn 0xCE 0xD0 first

-- A line of this kind begins with this first byte.
abbrev pub BeginsKind : ℕ → Head → Type 0
BeginsKind first heads.OneByte = IsOneByte first
BeginsKind first heads.Number = IsIn 0x10 0x1D first
BeginsKind first heads.Named = IsIn 0x1D 0x20 first
BeginsKind first heads.TwoBytes = IsTwoBytes first
BeginsKind first heads.Linked = IsIn 0xC0 0xCE first
BeginsKind first heads.ThreeBytes = IsIn 0xD0 0xF0 first
BeginsKind first heads.Text = IsIn 0xF0 0x100 first
-- No line begins with AF or B0.
BeginsKind first heads.Nothing = IsIn 0xAF 0xB1 first

-- A short line that begins with this first byte has this many bytes.
abbrev pub IsShort : ℕ → ℕ → Type 0
IsShort first size =
    ((size ≡ 1) × IsOneByte first × (first ≢ 0))
    ⊎ ((size ≡ 2) × IsTwoBytes first)
    ⊎ ((size ≡ 3) × IsIn 0xD0 0xF0 first)

-- Bytes begin with no complete text: there are none, the first is below F0, or there are fewer than
-- it counts.
abbrev pub LacksText : List ℕ → Type 0
LacksText bytes =
    (bytes ≡ []) ⊎ (slice_index bytes 0 < 0xF0) ⊎ (length bytes + 0xF0 ≤ slice_index bytes 0)

-- A number has `count` characters and no more: no further one follows, or there are 16.
abbrev pub IsWholeRun : List ℕ → ℕ → Type 0
IsWholeRun bytes count =
    count < length bytes → IsIn 0x10 0x1D (slice_index bytes count) → count ≡ 16

-- A byte is the code of a function with a parameter.
abbrev pub IsParameterCode : ℕ → Type 0
IsParameterCode code =
    ((0x90 ≤ code) × (code ≤ 0x9F))
    ⊎ ((0xA8 ≤ code) × (code ≤ 0xAD))
    ⊎ (code ≡ 0xCE)
    ⊎ (code ≡ 0xCF)
