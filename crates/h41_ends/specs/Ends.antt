-- Inputs up to their limit, the bytes that sources deliver, failed writes, what the wrappers
-- `FromRead` and `ToWrite` contain, and what is written after a call.
use Rattle.std.specs.Prelude.{◌≡◌, ◌==◌, ◌&&◌, ◌<◌, ◌≤◌, ℕ, Bool, true, false, not, List, length}
use Rattle.std.specs.Prelude.{◌+◌, ◌-◌, nat_le, take, is_some, min, Option, Some, IfSome, Result}
use Rattle.std.specs.Prelude.{Ok, Err}
use Rattle.std.specs.Io.KnownBytes.{Appends}
use Rattle.std.specs.declared.io.Error.{Error}
use Rattle.h41_ends.specs.declared.fault.InputFault.{InputFault}
use Rattle.h41_ends.specs.declared.fault.InputFault.TheVariants as input
use Rattle.h41_ends.specs.declared.fault.LineReadFault.{LineReadFault}
use Rattle.h41_ends.specs.declared.fault.LineReadFault.TheVariants as line
use Rattle.h41_ends.specs.declared.source.FromRead.{FromRead}
use Rattle.h41_ends.specs.declared.sink.ToWrite.{ToWrite}

-- The greatest size of an input: 64 MiB.
abbrev pub most_bytes : ℕ
most_bytes = 67108864

-- The greatest count of delivered bytes that a source keeps: 2 ^ 64 - 1.
abbrev pub most_given : ℕ
most_given = 18446744073709551615

-- The count of delivered bytes after `count` more bytes were delivered. It stops at `most_given`.
abbrev pub given_after : ℕ → ℕ → ℕ
given_after given count = given + min count (most_given - given)

-- The count of delivered bytes after one more read. A read that fails delivers none.
abbrev pub given_more : {E : Type 0} → ℕ → Result ℕ E → ℕ
given_more given (Ok n) = given_after given n
given_more given (Err e) = given

-- Between these two counts of delivered bytes, at least one byte more was delivered than an input
-- may have, or the count has reached `most_given`.
abbrev pub GivesTooMany : ℕ → ℕ → Type 0
GivesTooMany before after = given_after before (most_bytes + 1) ≤ after

-- Between these two counts of delivered bytes, at most one byte more was delivered than an input
-- may have.
abbrev pub GivesWithin : ℕ → ℕ → Type 0
GivesWithin before after = after ≤ before + (most_bytes + 1)

-- The error of the last call that failed, after one more call with this result. If that call
-- failed, it is its error.
abbrev pub failure_after : {A : Type 0} → Option Error → Result A Error → Option Error
failure_after failure (Ok done) = failure
failure_after failure (Err error) = Some error

-- The bytes are the known input up to the limit. Nothing is claimed of an input that is not known.
abbrev pub IsFront : Option (List ℕ) → List ℕ → Type 0
IsFront known bytes = IfSome known (λ input. bytes ≡ take most_bytes input)

-- The flag says whether the known input is within the limit.
abbrev pub SaysWhole : Option (List ℕ) → Bool → Type 0
SaysWhole known is_whole = IfSome known (λ input. is_whole ≡ nat_le (length input) most_bytes)

-- A write failed, or it accepted no byte of a text that is not empty.
abbrev pub is_failed_write : {E : Type 0} → Result ℕ E → List ℕ → Bool
is_failed_write (Ok n) bytes = n == 0 && not (length bytes == 0)
is_failed_write (Err e) bytes = true

-- The input could not be read because a read failed.
abbrev pub is_read_fault : {A : Type 0} → Result A InputFault → Bool
is_read_fault (Ok done) = false
is_read_fault (Err input.OutOfMemory) = false
is_read_fault (Err input.ReadFault) = true

-- The error is that the output could not be flushed.
abbrev pub is_of_write : LineReadFault → Bool
is_of_write line.ReadFault = false
is_of_write line.WriteFault = true

-- A line could not be read because the output could not be flushed.
abbrev pub is_write_fault : {A : Type 0} → Result A LineReadFault → Bool
is_write_fault (Ok done) = false
is_write_fault (Err fault) = is_of_write fault

-- The reader of a `FromRead`.
abbrev pub reader_of : {R : Type 0} → FromRead R → R
reader_of s = s.reader

-- The error flag of a `FromRead`.
abbrev pub has_read_failed : {R : Type 0} → FromRead R → Bool
has_read_failed s = is_some s.error

-- The error of the last call of a `FromRead` that failed, if one has failed.
abbrev pub read_failure : {R : Type 0} → FromRead R → Option Error
read_failure s = s.error

-- How many bytes a `FromRead` has delivered, counted up to 2 ^ 64 - 1.
abbrev pub read_given : {R : Type 0} → FromRead R → ℕ
read_given s = s.given

-- The writer of a `ToWrite`.
abbrev pub writer_of : {W : Type 0} → ToWrite W → W
writer_of s = s.writer

-- The error flag of a `ToWrite`.
abbrev pub has_write_failed : {W : Type 0} → ToWrite W → Bool
has_write_failed s = s.has_failed

-- Whether a `ToWrite` was flushed after its last write.
abbrev pub is_write_flushed : {W : Type 0} → ToWrite W → Bool
is_write_flushed s = s.is_flushed

-- The text is written completely.
abbrev pub Appended : {W : Type 0} → (W → Option (List ℕ)) → W → W → List ℕ → Type 0
Appended contents old new text = Appends (contents old) (contents new) text

-- A prefix of the text is written, and not all of it.
abbrev pub AppendsPart : Option (List ℕ) → Option (List ℕ) → List ℕ → Type 0
AppendsPart old new text = (count : ℕ) × (count < length text) × Appends old new (take count text)

-- What a call that writes a text leaves: all of it, or if writing fails a prefix of it.
abbrev pub Writes : {A E W : Type 0} → Result A E → (W → Option (List ℕ)) → W → W → List ℕ → Type 0
Writes (Ok done) contents old new text = Appends (contents old) (contents new) text
Writes (Err fault) contents old new text = AppendsPart (contents old) (contents new) text
