-- The lines of an input that is read while the replies to it are written to an output: what is
-- written, and which lines are complete, at each read.
use Rattle.std.specs.Prelude.{◌≡◌, ◌≤◌, ℕ, true, List, [], ◌++◌, length, Option}
use Rattle.std.specs.Io.KnownBytes.{Keeps}
use Rattle.h41_lines.specs.Lines.{ended_lines}
use Rattle.h41_ends.specs.declared.input_lines.InputLines.{InputLines}
use Rattle.h41_ends.specs.Ends.{most_bytes}
use Rattle.h41_ends.specs.InputLines.{HasRead, told_lines}
use Rattle.h41_ends.specs.ReadEvents.{AddsReads, EachRead, ReadEvent, bytes_in}

-- The list `all` consists of `lines`, followed by lines that satisfy `fits`.
abbrev pub AreMore : (List (List ℕ) → Type 0) → List (List ℕ) → List (List ℕ) → Type 0
AreMore fits lines all = (more : List (List ℕ)) × fits more × (all ≡ lines ++ more)

-- The state at a read, after `bytes` were read. `within`: they are within the limit. `kept` and
-- `flushed`: the sink has accepted `written` and nothing else, and it is flushed. `ended`: the
-- lines that have their line end in `bytes` satisfy `fits`.
pub record ComesWith (written : Option (List ℕ)) (fits : List (List ℕ) → Type 0) (bytes : List ℕ)
    (read : ReadEvent) : Type 0 where
  pub within : length bytes ≤ most_bytes
  pub kept : Keeps written read.written
  pub flushed : read.flushed ≡ true
  pub ended : fits (told_lines (ended_lines bytes))

-- The reads of a call that returns the lines `told`. `added`: it makes these reads and no others.
-- `read`: the call preserves `HasRead`. `each`: at each read, exactly what was written before the
-- call is written, and is flushed; the lines with their line end in the bytes read so far are those
-- returned before the call, followed by lines that satisfy `fits`. `stays`: after the end of the
-- input nothing is read.
pub record Hears (fits : List (List ℕ) → Type 0) (before after : Option (List ReadEvent))
    (written : Option (List ℕ)) (old new : InputLines) (told : List (List ℕ)) : Type 0 where
  pub reads : List ReadEvent
  pub added : AddsReads before after reads
  pub read : (first : List ℕ) (lines : List (List ℕ)) → HasRead first lines old
      → HasRead (first ++ bytes_in reads) (lines ++ told) new
  pub each : (first : List ℕ) (lines : List (List ℕ)) → HasRead first lines old
      → EachRead (ComesWith written (AreMore fits lines)) first reads
  pub stays : old.at_end ≡ true → (new.at_end ≡ true) × (reads ≡ [])

-- The list of lines is empty.
abbrev pub AreNone : List (List ℕ) → Type 0
AreNone lines = lines ≡ []
