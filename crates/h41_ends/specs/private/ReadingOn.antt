-- What the private functions of `InputLines` promise one another. No public contract needs this
-- file.
use Rattle.std.specs.Prelude.{◌≡◌, ℕ, ◌+◌, ◌-◌, ◌≤◌, Bool, true, false, List, [], length, min}
use Rattle.std.specs.Prelude.{nat_lt, take, drop, if◌then◌else◌, Option, IfSome}
use Rattle.std.specs.Io.KnownBytes.{IsAtEnd}
use Rattle.std.specs.Str.Lines.{strip_carriage_return}
use Rattle.h41_ends.specs.declared.input_lines.InputLines.{InputLines}
use Rattle.h41_ends.specs.Ends.{most_bytes}
use Rattle.h41_ends.specs.InputLines.{IsUnended, held_in, line_in, told_part}

-- Nothing was read.
pub record IsSameReading (old new : InputLines) : Type 0 where
  pub count : new.count ≡ old.count
  pub over : new.is_over ≡ old.is_over
  pub at_end : new.at_end ≡ old.at_end

-- The line up to this LF is returned, and the bytes after it stay buffered.
pub record TellsEnded (old : InputLines) (end : ℕ) (new : InputLines) : Type 0 where
  pub line : line_in new ≡ told_part (strip_carriage_return (take end (held_in old)))
  pub held : held_in new ≡ drop (end + 1) (held_in old)
  pub same : IsSameReading old new

-- The buffered bytes are returned as the last line, and nothing stays buffered.
pub record TellsLast (old : InputLines) (told : Bool) (new : InputLines) : Type 0 where
  pub line : line_in new ≡ told_part (held_in old)
  pub held : held_in new ≡ []
  pub said : told ≡ nat_lt 0 (length (held_in old))
  pub count : new.count ≡ old.count
  pub over : new.is_over ≡ old.is_over
  pub at_end : new.at_end ≡ true

-- The buffered bytes are moved to the start of the buffer, and shortened to the 202 that decide
-- about a line.
pub record Shortens (old new : InputLines) : Type 0 where
  pub start : new.start ≡ 0
  pub room : new.end ≤ 202
  pub held : held_in new ≡ take 202 (held_in old)
  pub same : IsSameReading old new

-- So many bytes were read, and those within the limit are buffered.
pub record TakesRead (old : InputLines) (count : ℕ) (new : InputLines) : Type 0 where
  pub held : held_in new
      ≡ drop old.start (take (old.end + min count (most_bytes - old.count)) old.buffer)
  pub total : new.count ≡ old.count + min count (most_bytes - old.count)
  pub over : new.is_over ≡ nat_lt (most_bytes - old.count) count
  pub at_end : new.at_end ≡ false

-- A bound of the reads that remain: it decreases with each read, so that reading ends.
abbrev pub reads_left : InputLines → ℕ
reads_left input =
    (most_bytes - input.count) + (if input.is_over then 0 else 1)

-- No more bytes can be read, and the buffered bytes are the last line.
pub record ReachesEnd (known : Option (List ℕ)) (input : InputLines) : Type 0 where
  pub known_end : IfSome known (λ all. IsAtEnd known)
  pub unended : IsUnended (held_in input)
  pub clear : input.is_over ≡ false
