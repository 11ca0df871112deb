-- The lines of an input that is read in pieces of any size.
use Rattle.std.specs.Prelude.{◌≡◌, ◌⊎◌, ◌==◌, ℕ, ◌+◌, ◌-◌, Bool, true, false, List, []}
use Rattle.std.specs.Prelude.{◌∷◌, ◌++◌, length, map, nat_lt, take, drop, position, Option, None}
use Rattle.std.specs.Prelude.{IfSome, Result, Ok, Err, if◌then◌else◌}
use Rattle.std.specs.Io.KnownBytes.{Consumes, IsAtEnd}
use Rattle.h41_lines.specs.Lines.{lines}
use Rattle.h41_ends.specs.declared.input_lines.InputLines.{InputLines}
use Rattle.h41_ends.specs.Ends.{given_after, most_bytes}

-- The most bytes of a line that are returned.
abbrev pub most_told : ℕ
most_told = 201

-- A line as it is returned: its first 201 bytes.
abbrev pub told_part : List ℕ → List ℕ
told_part line = take most_told line

-- The lines of a text as they are returned.
abbrev pub told_lines : List ℕ → List (List ℕ)
told_lines bytes = map told_part (lines bytes)

-- The bytes within the limit: those after the first 67,108,864 do not count.
abbrev pub bytes_within : List ℕ → List ℕ
bytes_within bytes = take most_bytes bytes

-- No byte ends a line (LF).
abbrev pub IsUnended : List ℕ → Type 0
IsUnended bytes = position (λ byte. byte == 10) bytes ≡ None

-- The line that was returned last.
abbrev pub line_in : InputLines → List ℕ
line_in input = drop input.line_start (take input.line_end input.buffer)

-- The buffered bytes: those that were read and are not part of a returned line.
abbrev pub held_in : InputLines → List ℕ
held_in input = drop input.start (take input.end input.buffer)

-- More bytes or lines that may follow. After the end of the input there are none.
abbrev pub MayFollow : {A : Type 0} → Bool → List A → Type 0
MayFollow true more = more ≡ []
MayFollow false more = Unit {0}

-- The most bytes that are still to be returned: those that may be read, and the buffered ones.
abbrev pub most_left : InputLines → ℕ
most_left input = (most_bytes - input.count) + length (held_in input)

-- These bytes were read so far, and these lines returned. Whatever bytes follow, the remaining
-- lines are those of the buffered bytes and the bytes that follow.
pub record HasRead (bytes : List ℕ) (told : List (List ℕ)) (input : InputLines) : Type 0 where
  pub count : input.count ≡ length (bytes_within bytes)
  pub over : input.is_over ≡ nat_lt most_bytes (length bytes)
  pub others : (more : List ℕ) → MayFollow input.at_end more
      → told_lines (bytes_within bytes ++ more) ≡ told ++ told_lines (held_in input ++ more)

-- The line that was returned, if there was one.
abbrev pub line_if : Bool → InputLines → List (List ℕ)
line_if true input = line_in input ∷ []
line_if false input = []

-- The lines that a call returns: one, or none.
abbrev pub lines_told : {E : Type 0} → Result Bool E → InputLines → List (List ℕ)
lines_told (Ok told) input = line_if told input
lines_told (Err fault) input = []

-- Some bytes were read, and then these further lines were returned. `ended`: the end of the input
-- is noted only after a read found it. `stays`: after the end nothing more is read.
pub record ReadsMore (before after : Option (List ℕ)) (old new : InputLines)
    (told : List (List ℕ)) : Type 0 where
  pub bytes : List ℕ
  pub consumed : Consumes before after bytes
  pub read : (first : List ℕ) (lines : List (List ℕ)) → HasRead first lines old
      → HasRead (first ++ bytes) (lines ++ told) new
  pub ended : new.at_end ≡ true → (old.at_end ≡ true) ⊎ IfSome before (λ known. IsAtEnd after)
  pub stays : old.at_end ≡ true → (new.at_end ≡ true) × (bytes ≡ [])

-- How many bytes were read: those within the limit, and one more if the input is longer.
abbrev pub read_count : InputLines → ℕ
read_count input = input.count + (if input.is_over then 1 else 0)

-- The count of bytes that the source has delivered is `given`. It was `first` before the first of
-- these reads, and has been increased by the bytes that were read and by no others.
abbrev pub IsCounted : InputLines → ℕ → ℕ → Type 0
IsCounted input first given = given ≡ given_after first (read_count input)

-- A call between the source's counts `before` and `after` preserves `IsCounted`, whatever the count
-- was before the first read.
abbrev pub CountsOn : InputLines → InputLines → ℕ → ℕ → Type 0
CountsOn old new before after =
    (first : ℕ) → IsCounted old first before → IsCounted new first after

-- The whole input was returned.
pub record IsTold (input : InputLines) : Type 0 where
  pub at_end : input.at_end ≡ true
  pub nothing : held_in input ≡ []

-- The buffered bytes contain no complete line, and the end of the input was not reached.
pub record IsStopped (input : InputLines) : Type 0 where
  pub unended : IsUnended (held_in input)
  pub goes_on : input.at_end ≡ false
