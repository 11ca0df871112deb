-- The reads of an input that is read while the replies to it are written to an output: what had
-- been written before each read, whether that was flushed, and which bytes the read delivered.
use Rattle.std.specs.Prelude.{◌≡◌, ℕ, Bool, List, [], ◌∷◌, ◌++◌, take, flat_map, Option, Some, None}
use Rattle.std.specs.Prelude.{Result, Ok, Err}

-- One read: the bytes that the sink had accepted before it, if they are known; whether they were
-- flushed; and the bytes that the read delivered.
pub record ReadEvent : Type 0 where
  pub written : Option (List ℕ)
  pub flushed : Bool
  pub bytes : List ℕ

-- The bytes at the beginning of the buffer that a read with this result delivered: none if it
-- failed.
abbrev pub bytes_given : {E : Type 0} → Result ℕ E → List ℕ → List ℕ
bytes_given (Ok n) buffer = take n buffer
bytes_given (Err e) buffer = []

-- The record of one read, from what the sink had accepted, its result and its buffer.
abbrev pub read_event : {E : Type 0} → Option (List ℕ) → Bool → Result ℕ E → List ℕ → ReadEvent
read_event written flushed result buffer =
    record { written = written; flushed = flushed; bytes = bytes_given result buffer }

-- If the reads so far are known, the reads afterwards are known too: they are those so far,
-- followed by `reads`.
abbrev pub AddsReads : Option (List ReadEvent) → Option (List ReadEvent) → List ReadEvent → Type 0
AddsReads None new reads = Unit {0}
AddsReads (Some old) None reads = ⊥
AddsReads (Some old) (Some new) reads = new ≡ old ++ reads

-- All bytes that these reads delivered, in order.
abbrev pub bytes_in : List ReadEvent → List ℕ
bytes_in reads = flat_map (λ read. read.bytes) reads

-- Each of these reads satisfies `fits`, together with the bytes that were read before it. `bytes`
-- are those before the first read.
abbrev pub EachRead : (List ℕ → ReadEvent → Type 0) → List ℕ → List ReadEvent → Type 0
EachRead fits bytes [] = Unit {0}
EachRead fits bytes (read ∷ reads) =
    fits bytes read × EachRead fits (bytes ++ read.bytes) reads
